use Rattle.std.proofs.Common.{◌≡◌, ℕ, suc, ◌+◌, ◌-◌, ◌*◌, length}
use Rattle.sh_arith.proofs.Rules.{Leads}
use Rattle.sh_arith.proofs.reader.+expression.Given as goal

abbrev pub decreases-operand : goal.decreases-operand
decreases-operand l = 13 * length l.text.now

abbrev pub decreases-level : goal.decreases-level
decreases-level l = 13 * length l.text.now + l.looseness + 1

abbrev pub decreases-conditional : goal.decreases-conditional
decreases-conditional l = 13 * length l.text.now + 12

abbrev pub invariant-level-chain : goal.invariant-level-chain
invariant-level-chain l = (Leads l.variables l.depth l.needed (l.looseness - 1) l.looseness l.text l.left) × (l.looseness ≡ suc (l.looseness - 1))

abbrev pub decreases-level-chain : goal.decreases-level-chain
decreases-level-chain l = length l.left.rest.now
