use Rattle.std.proofs.Common.{◌∙◌, ◌∷◌, [], subst}
use Rattle.flow.specs.Sends.{Files, PostsAll, sent_at}
use Rattle.flow.proofs.Order.{post_more}
use Rattle.flow.proofs.Sending.{posts_more}
use Rattle.flow.proofs.posting.post.Goals as goal

pub loop-letter-preserved : goal.loop-letter-preserved
loop-letter-preserved g c =
    let v = c.loop-letter.invariant in
    let e = c.in_ok-post_one.ensures in
    let time = g.N.Net.time c.args.net.now in
    let f = sent_at time c.args.round c.args.flow c.args.label.now in
    let letters = c.as_slice-letter-items.result.now in
    let files = subst (λ t. Files t c.args.flow (sent_at t c.args.round c.args.flow c.args.label.now c.letter-item.result ∷ []) c.loop-letter.sends.items c.post_one.new.sends.items) v.time e.files in
    let posts = subst (λ t. PostsAll (sent_at t c.args.round c.args.flow c.args.label.now c.letter-item.result ∷ []) (g.N.Net.sent c.loop-letter.net) (g.N.Net.sent c.post_one.new.net)) v.time e.posts in
    record {
      files = post_more f time c.args.flow letters c.loop-letter.letter-index c.letter-item.result c.args.sends.now.items c.loop-letter.sends.items c.post_one.new.sends.items c.loop-letter-test.true c.letter-item.is v.files files;
      posts = posts_more f letters c.loop-letter.letter-index c.letter-item.result (g.N.Net.sent c.args.net.now) (g.N.Net.sent c.loop-letter.net) (g.N.Net.sent c.post_one.new.net) c.loop-letter-test.true c.letter-item.is v.posts posts;
      flows = λ n. e.flows n ∙ v.flows n;
      opened = e.opened ∙ v.opened;
      time = e.time ∙ v.time;
      rows = e.rows ∙ v.rows;
      faults = e.cause.quiet (λ same. cc) ∙ v.faults;
    }
