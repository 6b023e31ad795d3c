use Rattle.std.proofs.Common.{◌++◌, ◌∷◌, [], ℕ, List, eqb, map, not, length, sym, ◌∙◌, ap, rules, tests}
use Rattle.std.proofs.lemmas.Iterator.Consumers.{YieldsList-end}
use Rattle.std.proofs.lemmas.List.{map_push}
use Rattle.std.proofs.lemmas.List.Elements.{filter-append}
use Rattle.net_script.proofs.Yields.{parts_yielded}
use Rattle.net_script.specs.Words.{nonempty}
use Rattle.net_script.proofs.words.Words.new.Goals as goal

pub loop-part-preserved : goal.loop-part-preserved
loop-part-preserved c =
    let part = c.in-Some.part in
    let before = map (λ x. x.now) c.loop-part.yielded in
    c.in_ok-push_word.ensures
    ∙ ap (λ (l : List (List ℕ)). l ++ nonempty (part.now ∷ [])) c.loop-part.invariant
    ∙ sym (filter-append (λ w. not (eqb (length w) 0)) before (part.now ∷ []))
    ∙ ap nonempty (sym (map_push (λ x. x.now) c.loop-part.yielded part))

pub returns : goal.returns
returns c =
    let road = parts_yielded _ c.loop-part.yielded c.loop-part.yielded_by (λ b. eqb b 0x20) c.args.line.now c.into_iter-part-iterator.ensures.into_iter_gives c.split-part-items.ensures.rest c.split-part-items.ensures.done c.split-part-items.ensures.closure (λ x b q k. search (rules, tests)) in
    let end = YieldsList-end road c.loop-part.yielded _ c.loop-part.yielded_by _ _ c.in-None.is c.next.ensures.steps in
    c.loop-part.invariant ∙ ap nonempty end.0
