use Rattle.std.proofs.Common.{◌≡◌, ◌+◌, ◌-◌, ℕ, List, take, drop, length, ◌==◌, false, Option, sym, ◌∙◌, ap, subst, arith}
use Rattle.std.proofs.lemmas.List.{take_all, length-drop}
use denote.Ref.{Bor}
use Rattle.std.specs.List.{list_any}
use Rattle.std.specs.Option.{IfNone}
use Rattle.memchr.specs.Find.{is_byte}
use Rattle.boot_vars.proofs.Firsts.{here, nowhere}
use Rattle.boot_vars.proofs.find.cut_at.Goals as goal

pub returns-in_err-at-clause-none : goal.returns-in_err-at-clause-none
returns-in_err-at-clause-none c =
    let none = nowhere (is_byte c.args.byte) c.args.text.now c.in_err-at.ensures in
    subst (λ (r : Option (Bor (List ℕ) × Bor (List ℕ))). IfNone r (list_any (λ b. b == c.args.byte) c.args.text.now ≡ false)) (sym c.from_residual.ensures) none

pub returns-clause-cut : goal.returns-clause-cut
returns-clause-cut c =
    let at = c.in_ok-at.at in
    let text = c.args.text.now in
    let first = here (is_byte c.args.byte) text at c.in_ok-at.ensures in
    let rest = drop (at + 1) text in
    (first.any, ap (λ (n : ℕ). take n text) (sym first.place), take_all (length text - (at + 1)) rest (omega (arith, length-drop (at + 1) text)) ∙ ap (λ (n : ℕ). drop (n + 1) text) (sym first.place))
