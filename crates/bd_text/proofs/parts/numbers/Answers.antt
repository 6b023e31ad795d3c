use Rattle.std.proofs.Common.{length, get_or, map, eqb, sym, ◌∙◌, arith, rules, tests}
use Rattle.std.specs.List.{slice_split}
use Rattle.std.proofs.lemmas.Bool.{eqb-true}
use Rattle.std.proofs.lemmas.List.{length-map, map_push}
use Rattle.std.proofs.lemmas.Iterator.Consumers.{YieldsList-turn, YieldsList-end}
use Rattle.bd_text.specs.Parts.{SpellsIn}
use Rattle.bd_text.proofs.FormLemmas.{SpellsIn-same}
use Rattle.bd_text.proofs.Zips.{parts-yielded, zip-length, zip-push, zip-at, zip-same}
use Rattle.bd_text.proofs.parts.numbers.Goals as goal

pub returns-then-is_full-clause-only : goal.returns-then-is_full-clause-only
returns-then-is_full-clause-only c = λ ns short each.
    let parts = slice_split (λ b. eqb b c.args.mark) c.args.text.now in
    let road = parts-yielded _ c.loop-part.yielded c.loop-part.yielded_by (λ b. eqb b c.args.mark) c.args.text.now c.into_iter-part-iterator.ensures.into_iter_gives c.split-part-items.ensures.rest c.split-part-items.ensures.done c.split-part-items.ensures.closure (λ x b q k. search (rules, tests)) in
    let turn = YieldsList-turn road c.loop-part.yielded _ c.loop-part.yielded_by _ _ c.in-Some.part c.in-Some.is c.next.ensures.steps in
    let full = eqb-true _ _ (sym c.is_full.ensures.value ∙ c.if-is_full.true) in
    let read = zip-length (SpellsIn c.args.form) c.loop-part.numbers.items (map (λ x. x.now) c.loop-part.yielded) c.loop-part.invariant in
    let given = zip-length (SpellsIn c.args.form) ns parts each in
    omega (arith, length-map c.loop-part.yielded (λ x. x.now), turn.0)

pub returns-in_err-number-clause-only : goal.returns-in_err-number-clause-only
returns-in_err-number-clause-only c = λ ns short each.
    let parts = slice_split (λ b. eqb b c.args.mark) c.args.text.now in
    let road = parts-yielded _ c.loop-part.yielded c.loop-part.yielded_by (λ b. eqb b c.args.mark) c.args.text.now c.into_iter-part-iterator.ensures.into_iter_gives c.split-part-items.ensures.rest c.split-part-items.ensures.done c.split-part-items.ensures.closure (λ x b q k. search (rules, tests)) in
    let turn = YieldsList-turn road c.loop-part.yielded _ c.loop-part.yielded_by _ _ c.in-Some.part c.in-Some.is c.next.ensures.steps in
    let i = length c.loop-part.yielded in
    let here = zip-at (SpellsIn c.args.form) ns parts i 0 c.in-Some.part.now each turn.0 in
    let some = c.in_err-number.ensures.only (get_or ns i 0) (rw turn.1 here) in
    absurd cc

pub loop-part-preserved : goal.loop-part-preserved
loop-part-preserved c =
    rw (c.push.ensures.items, map_push (λ x. x.now) c.loop-part.yielded c.in-Some.part) (zip-push (SpellsIn c.args.form) c.loop-part.numbers.items (map (λ x. x.now) c.loop-part.yielded) c.in_ok-number.field-0 c.in-Some.part.now c.loop-part.invariant c.in_ok-number.ensures.sound)

pub returns : goal.returns
returns c =
    let parts = slice_split (λ b. eqb b c.args.mark) c.args.text.now in
    let road = parts-yielded _ c.loop-part.yielded c.loop-part.yielded_by (λ b. eqb b c.args.mark) c.args.text.now c.into_iter-part-iterator.ensures.into_iter_gives c.split-part-items.ensures.rest c.split-part-items.ensures.done c.split-part-items.ensures.closure (λ x b q k. search (rules, tests)) in
    let end = YieldsList-end road c.loop-part.yielded _ c.loop-part.yielded_by _ _ c.in-None.is c.next.ensures.steps in
    let each = rw end.0 at c.loop-part.invariant in
    record {
      sound = each;
      only = λ ns short given. zip-same (SpellsIn c.args.form) c.loop-part.numbers.items ns parts (SpellsIn-same c.args.form) each given;
    }
