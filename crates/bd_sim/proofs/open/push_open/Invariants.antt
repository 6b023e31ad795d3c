use Rattle.std.proofs.Common.{◌≡◌, ℕ, ◌++◌}
use Rattle.bd_sim.specs.Image.{may_tear}
use Rattle.bd_sim.specs.Open.{open_below}
use Rattle.bd_sim.specs.declared.image.Pick.TheVariants.{Old}
use Rattle.bd_sim.proofs.open.push_open.Given as goal

abbrev pub invariant-loop-lba : goal.invariant-loop-lba
invariant-loop-lba l = l.found.items ≡ l.initial.found.items ++ open_below (λ (s : ℕ). may_tear l.journal l.moment (l.area, s, Old)) l.area l.lba
