use Rattle.std.proofs.Common.{◌∙◌, length, refl, subst, sym}
use Rattle.flow.specs.Running.{FollowOwnRuns, no_counts}
use Rattle.flow.proofs.event_loop.race.Goals as goal

pub loop-place-init : goal.loop-place-init
loop-place-init g c =
    record {
      progress = c.requires.progress;
      follow = λ flows0 t. subst (λ now. FollowOwnRuns g.C.Core.acts c.args.opening.start c.args.opening.round c.args.opening.first (length c.args.flows.now) flows0 c.args.flows.now no_counts (g.N.Net.rows c.args.net.now) now c.args.sends.now.items) (sym c.requires.start) t;
      posted = λ start posted. posted;
      opened = refl;
      rows = refl;
      faults = refl;
    }

pub loop-place-preserved : goal.loop-place-preserved
loop-place-preserved g c =
    let v = c.loop-place.invariant in
    let e = c.in_ok-turn.ensures in
    let t = e.turns in
    record {
      progress = t.progress;
      follow = λ flows0 own.
          let before = subst (λ rows. FollowOwnRuns g.C.Core.acts c.args.opening.start c.args.opening.round c.args.opening.first (length c.loop-place.flows) flows0 c.loop-place.flows c.loop-place.counts rows (g.N.Net.time c.loop-place.net) c.loop-place.sends.items) (sym v.rows) (v.follow flows0 own) in
          subst (λ rows. FollowOwnRuns g.C.Core.acts c.args.opening.start c.args.opening.round c.args.opening.first (length c.turn.new.flows) flows0 c.turn.new.flows c.turn.new.counts rows (g.N.Net.time c.turn.new.net) c.turn.new.sends.items) v.rows (t.follow flows0 before);
      posted = λ start posted. t.posted start (v.posted start posted);
      opened = e.opened ∙ v.opened;
      rows = e.rows ∙ v.rows;
      faults = e.cause.quiet (λ same. cc) ∙ v.faults;
    }
