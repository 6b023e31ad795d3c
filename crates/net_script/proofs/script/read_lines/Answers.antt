use Rattle.std.proofs.Common.{◌≡◌, ℕ, ◌+◌, ◌<◌, List, [], ◌∷◌, Ok, Err, length, drop, get_or, eqb, refl, sym, ◌∙◌, ap, subst, arith, length-append, rules, tests}
use Rattle.std.proofs.lemmas.Iterator.Consumers.{YieldsList-turn, YieldsList-end}
use Rattle.std.proofs.lemmas.List.Splits.{length-slice_split}
use Rattle.std.proofs.lemmas.List.Sums.{count_by-le-length}
use Rattle.net_script.specs.Script.{Reads, texts_of}
use Rattle.net_script.specs.declared.fault.ScriptFault.TheVariants.{Bad}
use Rattle.net_script.proofs.LineSteps.{all_dropped, backward, err_answers, forward, from_place, ok_answers, wrong, wrong_alone}
use Rattle.net_script.proofs.Yields.{parts_yielded}
use Rattle.net_script.proofs.script.read_lines.Goals as goal

pub overflow_add-number : goal.overflow_add-number
overflow_add-number c =
    let text = c.args.text.now in
    let road = parts_yielded _ c.loop-line.yielded c.loop-line.yielded_by (λ b. eqb b 0x0A) text c.into_iter-line-iterator.ensures.into_iter_gives c.split-line-items.ensures.rest c.split-line-items.ensures.done c.split-line-items.ensures.closure (λ x b q k. search (rules, tests)) in
    let turn = YieldsList-turn road c.loop-line.yielded _ c.loop-line.yielded_by _ _ c.in-Some.line c.in-Some.is c.next.ensures.steps in
    let inside = turn.0 in
    let count = c.loop-line.invariant.count in
    let many = length-slice_split (λ b. eqb b 0x0A) text in
    let few = count_by-le-length (λ b. eqb b 0x0A) text in
    let short = c.requires in
    omega (arith, inside, count, many, few, short)

pub loop-line-preserved : goal.loop-line-preserved
loop-line-preserved c =
    let text = c.args.text.now in
    let texts = texts_of text in
    let number = c.loop-line.number in
    let line = c.in-Some.line.now in
    let road = parts_yielded _ c.loop-line.yielded c.loop-line.yielded_by (λ b. eqb b 0x0A) text c.into_iter-line-iterator.ensures.into_iter_gives c.split-line-items.ensures.rest c.split-line-items.ensures.done c.split-line-items.ensures.closure (λ x b q k. search (rules, tests)) in
    let turn = YieldsList-turn road c.loop-line.yielded _ c.loop-line.yielded_by _ _ c.in-Some.line c.in-Some.is c.next.ensures.steps in
    let count = c.loop-line.invariant.count in
    let inside : number < length texts = let h = turn.0 in omega (arith, h, count) in
    let here : get_or texts number line ≡ line = ap (λ (n : ℕ). get_or texts n line) count ∙ sym turn.1 in
    let place : drop number texts ≡ line ∷ drop (number + 1) texts = from_place texts number line inside ∙ ap (λ (l : List ℕ). l ∷ drop (number + 1) texts) here in
    let before = c.loop-line.reading.lines.items in
    let after = c.read.new.self.lines.items in
    record {
      kept = c.in_ok-read.ensures.kept;
      count = let pushed = length-append c.loop-line.yielded (c.in-Some.line ∷ []) in omega (arith, count, pushed);
      forward = λ a reads. c.loop-line.invariant.forward a
          (subst (λ (ts : List (List ℕ)). Reads before (number + 1) ts a) (sym place) (forward before after (number + 1) line (drop (number + 1) texts) a c.in_ok-read.ensures.takes reads));
      backward = λ a reads. backward before after (number + 1) line (drop (number + 1) texts) a c.in_ok-read.ensures.only c.in_ok-read.ensures.takes
          (subst (λ (ts : List (List ℕ)). Reads before (number + 1) ts a) place (c.loop-line.invariant.backward a reads));
    }

pub returns-in_err-read-clause-bad : goal.returns-in_err-read-clause-bad
returns-in_err-read-clause-bad c = λ at kind same.
    let text = c.args.text.now in
    let texts = texts_of text in
    let number = c.loop-line.number in
    let line = c.in-Some.line.now in
    let road = parts_yielded _ c.loop-line.yielded c.loop-line.yielded_by (λ b. eqb b 0x0A) text c.into_iter-line-iterator.ensures.into_iter_gives c.split-line-items.ensures.rest c.split-line-items.ensures.done c.split-line-items.ensures.closure (λ x b q k. search (rules, tests)) in
    let turn = YieldsList-turn road c.loop-line.yielded _ c.loop-line.yielded_by _ _ c.in-Some.line c.in-Some.is c.next.ensures.steps in
    let count = c.loop-line.invariant.count in
    let inside : number < length texts = let h = turn.0 in omega (arith, h, count) in
    let here : get_or texts number line ≡ line = ap (λ (n : ℕ). get_or texts n line) count ∙ sym turn.1 in
    let place : drop number texts ≡ line ∷ drop (number + 1) texts = from_place texts number line inside ∙ ap (λ (l : List ℕ). l ∷ drop (number + 1) texts) here in
    let before = c.loop-line.reading.lines.items in
    let is : c.in_err-read.field-0.0 ≡ Bad at kind = search rules in
    let known = c.in_err-read.ensures.bad at kind (ap Err is) in
    subst (λ (n : ℕ). Reads [] 1 texts (Err (record { line = n; kind = kind }))) (sym known.0)
    (c.loop-line.invariant.forward (Err (record { line = number + 1; kind = kind }))
    (subst (λ (ts : List (List ℕ)). Reads before (number + 1) ts (Err (record { line = number + 1; kind = kind }))) (sym place) (wrong before (number + 1) line (drop (number + 1) texts) kind known.1 known.2)))

pub returns-in_err-read-clause-only : goal.returns-in_err-read-clause-only
returns-in_err-read-clause-only c = λ a reads.
    let text = c.args.text.now in
    let texts = texts_of text in
    let number = c.loop-line.number in
    let line = c.in-Some.line.now in
    let road = parts_yielded _ c.loop-line.yielded c.loop-line.yielded_by (λ b. eqb b 0x0A) text c.into_iter-line-iterator.ensures.into_iter_gives c.split-line-items.ensures.rest c.split-line-items.ensures.done c.split-line-items.ensures.closure (λ x b q k. search (rules, tests)) in
    let turn = YieldsList-turn road c.loop-line.yielded _ c.loop-line.yielded_by _ _ c.in-Some.line c.in-Some.is c.next.ensures.steps in
    let count = c.loop-line.invariant.count in
    let inside : number < length texts = let h = turn.0 in omega (arith, h, count) in
    let here : get_or texts number line ≡ line = ap (λ (n : ℕ). get_or texts n line) count ∙ sym turn.1 in
    let place : drop number texts ≡ line ∷ drop (number + 1) texts = from_place texts number line inside ∙ ap (λ (l : List ℕ). l ∷ drop (number + 1) texts) here in
    let before = c.loop-line.reading.lines.items in
    let is : c.from_residual.result ≡ Err c.in_err-read.field-0.0 = search rules in
    err_answers c.in_err-read.field-0.0 c.from_residual.result a is (λ media. c.in_err-read.ensures.no_media (ap Err media))
    (λ at kind bad.
    let known = c.in_err-read.ensures.bad at kind (ap Err bad) in
    let alone = wrong_alone before (number + 1) line (drop (number + 1) texts) kind a known.1 known.2 (subst (λ (ts : List (List ℕ)). Reads before (number + 1) ts a) place (c.loop-line.invariant.backward a reads)) in
    alone ∙ ap (λ (n : ℕ). Err (record { line = n; kind = kind })) (sym known.0))

pub returns-clause-found : goal.returns-clause-found
returns-clause-found c =
    let text = c.args.text.now in
    let texts = texts_of text in
    let road = parts_yielded _ c.loop-line.yielded c.loop-line.yielded_by (λ b. eqb b 0x0A) text c.into_iter-line-iterator.ensures.into_iter_gives c.split-line-items.ensures.rest c.split-line-items.ensures.done c.split-line-items.ensures.closure (λ x b q k. search (rules, tests)) in
    let end = YieldsList-end road c.loop-line.yielded _ c.loop-line.yielded_by _ _ c.in-None.is c.next.ensures.steps in
    let count = c.loop-line.invariant.count in
    let empty = all_dropped texts c.loop-line.number (let h = end.1 in omega (arith, h, count)) in
    let lines = c.loop-line.reading.lines.items in
    c.loop-line.invariant.forward (Ok lines) (subst (λ (ts : List (List ℕ)). Reads lines (c.loop-line.number + 1) ts (Ok lines)) (sym empty) refl)

pub returns-clause-only : goal.returns-clause-only
returns-clause-only c = λ a reads.
    let text = c.args.text.now in
    let texts = texts_of text in
    let road = parts_yielded _ c.loop-line.yielded c.loop-line.yielded_by (λ b. eqb b 0x0A) text c.into_iter-line-iterator.ensures.into_iter_gives c.split-line-items.ensures.rest c.split-line-items.ensures.done c.split-line-items.ensures.closure (λ x b q k. search (rules, tests)) in
    let end = YieldsList-end road c.loop-line.yielded _ c.loop-line.yielded_by _ _ c.in-None.is c.next.ensures.steps in
    let count = c.loop-line.invariant.count in
    let empty = all_dropped texts c.loop-line.number (let h = end.1 in omega (arith, h, count)) in
    let lines = c.loop-line.reading.lines.items in
    ok_answers (Ok lines) lines a refl (subst (λ (ts : List (List ℕ)). Reads lines (c.loop-line.number + 1) ts a) empty (c.loop-line.invariant.backward a reads))
