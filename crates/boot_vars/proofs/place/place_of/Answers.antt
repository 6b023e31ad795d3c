use Rattle.std.proofs.Common.{◌≡◌, ◌+◌, List, ℕ, length, drop, sym, ◌∙◌, ap, arith}
use Rattle.std.specs.List.{before_first, list_any}
use Rattle.std.proofs.lemmas.Bool.{both_ways}
use Rattle.storage_model.specs.Tests.{is_end}
use Rattle.storage_model.specs.Variables.{is_line_of}
use Rattle.storage_model.proofs.Lines.{assignment}
use Rattle.boot_vars.proofs.Places.{at_begin, ended, found, next, passed_within, passes, within as within_text}
use Rattle.boot_vars.proofs.place.place_of.Goals as goal

pub lines-init : goal.lines-init
lines-init c = record { within = omega arith; passed = at_begin c.args.text.now c.args.name.now c.requires }

pub returns-then-is_line_of-clause-place : goal.returns-then-is_line_of-clause-place
returns-then-is_line_of-clause-place c =
    let text = c.args.text.now in
    let name = c.args.name.now in
    let n = next text name c.lines.at c.lines.invariant.passed (omega arith) in
    let line : c.in-Some.line.now ≡ assignment n.variable = c.in-Some.ensures.cut.1 ∙ ap (before_first is_end) c.split_at.ensures.back ∙ n.line in
    found text name c.lines.at (length c.in-Some.line.now + 1) n (ap (is_line_of name) (sym line) ∙ sym c.if-is_line_of.ensures) (ap (λ (l : List ℕ). length l + 1) line)

pub returns-then-is_line_of-clause-within : goal.returns-then-is_line_of-clause-within
returns-then-is_line_of-clause-within c = within_text c.args.text.now c.args.name.now c.lines.at (length c.in-Some.line.now + 1) (returns-then-is_line_of-clause-place c)

pub lines-preserved : goal.lines-preserved
lines-preserved c =
    let text = c.args.text.now in
    let name = c.args.name.now in
    let n = next text name c.lines.at c.lines.invariant.passed (omega arith) in
    let line : c.in-Some.line.now ≡ assignment n.variable = c.in-Some.ensures.cut.1 ∙ ap (before_first is_end) c.split_at.ensures.back ∙ n.line in
    let passed = passes text name c.lines.at (length c.in-Some.line.now + 1) n (ap (is_line_of name) (sym line) ∙ sym c.if-is_line_of.ensures) (ap (λ (l : List ℕ). length l + 1) line) in
    record {
      within = passed_within text name (c.lines.at + (length c.in-Some.line.now + 1)) passed;
      passed = passed;
    }

pub returns-after-lines-clause-place : goal.returns-after-lines-clause-place
returns-after-lines-clause-place c = ended c.args.text.now c.args.name.now c.lines.at c.lines.invariant.passed (omega arith)

pub returns-in_default-clause-place : goal.returns-in_default-clause-place
returns-in_default-clause-place c =
    let text = c.args.text.now in
    let n = next text c.args.name.now c.lines.at c.lines.invariant.passed (omega arith) in
    absurd (both_ways (list_any is_end (drop c.lines.at text)) (ap (list_any is_end) (sym c.split_at.ensures.back) ∙ c.in_default.ensures.none) n.any)
