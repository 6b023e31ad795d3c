use Rattle.std.proofs.Common.{◌≡◌, ℕ, take, drop, Some, None, sym, ◌∙◌, ap, subst, arith}
use Rattle.std.proofs.lemmas.List.{take_all}
use Rattle.boot_vars.specs.Lines.{next_line}
use Rattle.storage_model.specs.Variables.{IsText}
use Rattle.boot_vars.proofs.BadLines.{bad_line, good_line, no_bad_line, one_bad_line}
use Rattle.boot_vars.proofs.lines.first_bad_line.Goals as goal

pub lines-preserved : goal.lines-preserved
lines-preserved c =
    let text = c.args.text.now in
    let at = c.lines.at in
    let next : next_line (take at text) (drop at text) ≡ Some c.in-Some.length =
    (λ i. next_line (sym c.split_at.ensures.front i) (sym c.split_at.ensures.back i)) ∙ sym c.in-Some.ensures.line in
    record {
      within = let short = c.in-Some.ensures.within in omega (arith, short, c.split_at.ensures.back_len);
      good = good_line text at c.in-Some.length c.lines.invariant.good next;
    }

pub returns-in-None-clause-bad : goal.returns-in-None-clause-bad
returns-in-None-clause-bad c =
    let text = c.args.text.now in
    let at = c.lines.at in
    let next : next_line (take at text) (drop at text) ≡ None =
    (λ i. next_line (sym c.split_at.ensures.front i) (sym c.split_at.ensures.back i)) ∙ sym c.in-None.ensures.line in
    bad_line text at c.lines.invariant.good (omega arith) next

pub returns-in-None-clause-only : goal.returns-in-None-clause-only
returns-in-None-clause-only c = λ at wrong.
    let text = c.args.text.now in
    let next : next_line (take c.lines.at text) (drop c.lines.at text) ≡ None =
    (λ i. next_line (sym c.split_at.ensures.front i) (sym c.split_at.ensures.back i)) ∙ sym c.in-None.ensures.line in
    ap (λ (n : ℕ). Some n) (one_bad_line text c.lines.at at (bad_line text c.lines.at c.lines.invariant.good (omega arith) next) wrong)

pub returns-clause-only : goal.returns-clause-only
returns-clause-only c = λ at wrong.
    let text = c.args.text.now in
    absurd (no_bad_line text at (subst IsText (take_all c.lines.at text (omega arith)) c.lines.invariant.good) wrong)
