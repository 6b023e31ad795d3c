use Rattle.std.proofs.Common.{◌≡◌, ◌+◌, ◌∙◌, sym, ap, subst, arith}
use Rattle.std.proofs.lemmas.Bool.Decides.{nat_tests}
use Rattle.bd_dev.specs.Content.{Image}
use Rattle.slot_pair.specs.Pair.{IsKept}
use Rattle.slot_pair.proofs.Pairs.{kept, number_of}
use Rattle.slot_model.specs.Slots.{slot}
use Rattle.slot_pair.proofs.pair.SlotPair.open.Goals as goal

pub returns-in-Some-clause-opened : goal.returns-in-Some-clause-opened
returns-in-Some-clause-opened g c =
    let first = c.slot_number.ensures.looks.continues in
    let second = c.slot_number-2.ensures.looks.continues in
    record {
      room =
          let one = first.size c.args.area in
          let two = second.size c.args.area in
          let room = c.if-not-has_room.false in
          grind (arith, nat_tests, one, two, room, c.has_room.ensures, c.sectors.ensures);
      kept = λ tells.
          let before = second.tells tells in
          let start = first.tells before in
          let one = (c.slot_number.ensures.looks.told start).only.reads in
          let two = (c.slot_number-2.ensures.looks.told before).only.reads in
          let head : c.in_ok-first.first ≡ number_of (slot g.row.N ((g.P.Plant.view c.args.plant.now).reads c.args.area) c.args.base) = c.in_ok-first.ensures.number start in
          let other : c.in_ok-other.other ≡ number_of (slot g.row.N ((g.P.Plant.view c.args.plant.now).reads c.args.area) (c.args.base + g.row.N + 1)) =
          c.in_ok-other.ensures.number before ∙ ap (λ (z : Image). number_of (slot g.row.N (z c.args.area) (c.args.base + g.row.N + 1))) one in
          subst (λ (z : Image). IsKept g.row.N (z c.args.area) (record { area = c.args.area; base = c.args.base; second = c.in-Some.second; number = c.in-Some.number })) (sym (two ∙ one))
          (kept g.row.N _ (record { area = c.args.area; base = c.args.base; second = c.in-Some.second; number = c.in-Some.number }) _ _ head other (sym c.choose.ensures ∙ c.in-Some.is));
    }
