use Rattle.std.proofs.Common.{◌≡◌, ◌+◌, ◌-◌, ℕ, List, take, drop, length, Option, sym, subst, arith}
use Rattle.std.proofs.lemmas.List.{take_all, length-drop}
use Rattle.std.specs.Option.{IfNone}
use denote.Ref.{Bor}
use Rattle.net_script.specs.Hosts.{IsParted}
use Rattle.net_script.proofs.Parting.{parted_at, not_parted}
use Rattle.net_script.proofs.hosts.parted.Goals as goal

pub returns-in_err-at-clause-none : goal.returns-in_err-at-clause-none
returns-in_err-at-clause-none c =
    subst (λ (r : Option (Bor (List ℕ) × Bor (List ℕ))). IfNone r ((host port : List ℕ) → ¬ IsParted c.args.word.now host port)) (sym c.from_residual.ensures) (not_parted c.args.word.now c.in_err-at.ensures)

pub returns-clause-parted : goal.returns-clause-parted
returns-clause-parted c =
    let at = c.in_ok-at.at in
    let word = c.args.word.now in
    let rest = drop (at + 1) word in
    let whole : take (length word - (at + 1)) rest ≡ rest = take_all (length word - (at + 1)) rest (omega (arith, length-drop (at + 1) word)) in
    subst (λ (l : List ℕ). IsParted word (take at word) l) (sym whole) (parted_at word at c.in_ok-at.ensures)
