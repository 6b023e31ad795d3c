use Rattle.std.proofs.Common.{Some, map, refl, length, ap, sym, subst, ◌∙◌, ◌+◌}
use Rattle.std.specs.Option.{option_map}
use Rattle.std.proofs.lemmas.List.{length-map}
use Rattle.std.proofs.lemmas.Option.{slice_get-map, slice_get_read}
use Rattle.arrival_player.specs.Earliest.{FirstBelow, next_time_of}
use Rattle.arrival_player.proofs.Firsts.{first_all, first_closed, first_more}
use Rattle.arrival_player.proofs.flows.earliest.Goals as goal

pub loop-number-init : goal.loop-number-init
loop-number-init c = record { below = first_closed c.args.late c.args.until c.args.flows.now c.args.from c.requires }

pub loop-number-preserved : goal.loop-number-preserved
loop-number-preserved c =
    let times = map next_time_of c.args.flows.now in
    let here = slice_get_read c.args.flows.now (length c.args.flows.now) c.loop-number.number c.index-flows-number.result refl c.loop-number-test.true c.index-flows-number.is in
    let time = slice_get-map next_time_of c.args.flows.now c.loop-number.number ∙ (ap (option_map next_time_of) here ∙ ap Some (sym c.next_time.ensures)) in
    record {
      below = subst (λ best. FirstBelow c.args.late c.args.until times (c.loop-number.number + 1) best) (sym c.sooner-best.ensures)
          (first_more c.args.late c.args.until times c.loop-number.number c.loop-number.best c.next_time.result time c.loop-number.invariant.below);
    }

pub returns : goal.returns
returns c = first_all c.args.late c.args.until (map next_time_of c.args.flows.now) c.loop-number.number (length c.args.flows.now) c.loop-number.best (length-map c.args.flows.now next_time_of) c.loop-number-test.false c.loop-number.invariant.below
