use Rattle.std.proofs.Common.{rules, ◌≡◌, ◌++◌, ◌∷◌, [], List, sym, ap, ◌∙◌, append_assoc, Some}
use Rattle.std.specs.Prelude.{option_to_list}
use Rattle.std.specs.Vec.Iter.{into_iter_items}
use Rattle.net_script.specs.declared.line.Numbered.{Numbered}
use Rattle.net_script.proofs.Serves.{served_more, lacking_more, lacking_found}
use Rattle.net_script.proofs.serving.serve.Goals as goal

pub returns-in_err-feed-clause-bad : goal.returns-in_err-feed-clause-bad
returns-in_err-feed-clause-bad g c =
    let i = c.loop-numbered.invariant in
    let goes : into_iter_items c.loop-numbered.numbered-iterator ≡ c.in-Some.numbered ∷ into_iter_items c.next.new.self = c.in-Some.ensures.steps.0 in
    λ line kind is.
    let bad = c.served.ensures.bad line kind (search rules) in (
      bad.1,
      λ volumes told. lacking_found volumes c.loop-numbered.yielded (into_iter_items c.next.new.self) c.args.lines.items c.in-Some.numbered (i.told volumes told).1 (bad.2 volumes (i.kept ∙ told)) (i.left ∙ ap (λ (ns : List Numbered). c.loop-numbered.yielded ++ ns) goes) ∙ ap Some (sym bad.0),
    )

pub loop-numbered-preserved : goal.loop-numbered-preserved
loop-numbered-preserved g c =
    let i = c.loop-numbered.invariant in
    let n = c.in-Some.numbered in
    let goes : into_iter_items c.loop-numbered.numbered-iterator ≡ n ∷ into_iter_items c.next.new.self = c.in-Some.ensures.steps.0 in
    record {
      kept = c.served.ensures.kept ∙ i.kept;
      quiet = c.in_ok-feed.ensures.cause.quiet (λ e. absurd (cc e)) ∙ i.quiet;
      left = i.left ∙ (ap (λ (ns : List Numbered). c.loop-numbered.yielded ++ ns) goes ∙ sym (append_assoc c.loop-numbered.yielded (n ∷ []) (into_iter_items c.next.new.self)));
      known = λ volumes told. c.in_ok-feed.ensures.known volumes (i.kept ∙ told);
      told = λ volumes told.
          (let so_far = i.told volumes told in
          let here = c.in_ok-feed.ensures.served volumes (i.kept ∙ told) in (
            c.in_ok-push.ensures ∙ served_more volumes c.loop-numbered.yielded n c.loop-numbered.feeds.items (option_to_list c.in_ok-feed.feed) so_far.0 here.0,
            lacking_more volumes c.loop-numbered.yielded n so_far.1 here.1,
          ));
    }

pub served-requires : goal.served-requires
served-requires g c = λ volumes told. c.loop-numbered.invariant.known volumes (sym c.loop-numbered.invariant.kept ∙ told)
