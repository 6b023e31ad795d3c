use Rattle.std.proofs.Common.{eqb, map, length, Some, sym, ◌∙◌, ap, rules, tests}
use Rattle.std.specs.List.{slice_split}
use Rattle.std.proofs.lemmas.Iterator.Consumers.{YieldsList-end, YieldsList-turn}
use Rattle.std.proofs.lemmas.List.{map_push}
use Rattle.lease_line.specs.Addresses.{address_in, all_addresses}
use Rattle.lease_line.proofs.Lists.{one_more, one_wrong}
use Rattle.lease_line.proofs.Yields.{parts_yielded}
use Rattle.lease_line.proofs.address.read_list.Goals as goal

pub loop-part-preserved : goal.loop-part-preserved
loop-part-preserved c =
    let part = c.in-Some.part in
    let before = map (λ x. x.now) c.loop-part.yielded in
    ap all_addresses (map_push (λ x. x.now) c.loop-part.yielded part)
    ∙ one_more before part.now c.loop-part.bytes c.in-Some-read_address.address c.loop-part.invariant (sym c.in-Some-read_address.ensures)
    ∙ ap Some (sym c.in_ok-push_slice.ensures.pushed)

pub returns-in_default : goal.returns-in_default
returns-in_default c =
    let parts = slice_split (λ b. eqb b 0x2C) c.args.text.now in
    let road = parts_yielded _ c.loop-part.yielded c.loop-part.yielded_by (λ b. eqb b 0x2C) c.args.text.now c.into_iter-part-iterator.ensures.into_iter_gives c.split-part-items.ensures.rest c.split-part-items.ensures.done c.split-part-items.ensures.closure (λ x b q k. search (rules, tests)) in
    let turn = YieldsList-turn road c.loop-part.yielded _ c.loop-part.yielded_by _ _ c.in-Some.part c.in-Some.is c.next.ensures.steps in
    sym (one_wrong parts (length c.loop-part.yielded) c.in-Some.part.now turn.0 (ap address_in (sym turn.1) ∙ sym c.in_default.ensures))

pub returns : goal.returns
returns c =
    let road = parts_yielded _ c.loop-part.yielded c.loop-part.yielded_by (λ b. eqb b 0x2C) c.args.text.now c.into_iter-part-iterator.ensures.into_iter_gives c.split-part-items.ensures.rest c.split-part-items.ensures.done c.split-part-items.ensures.closure (λ x b q k. search (rules, tests)) in
    let end = YieldsList-end road c.loop-part.yielded _ c.loop-part.yielded_by _ _ c.in-None.is c.next.ensures.steps in
    sym c.loop-part.invariant ∙ ap all_addresses end.0
