-- The next timer of a wait.
use Rattle.std.proofs.Common.{◌≡◌, ◌≤◌, ◌+◌, ℕ, zero, suc, [], ◌∷◌, None, arith}
use Rattle.std.specs.Prelude.{slice_index}
use Rattle.waits.specs.Waits.{next_due}
use Rattle.dhcp_client.specs.Leasing.{ahead, wait_from}

pub next_timer : (began passed : ℕ) → passed ≤ 3
    → began + slice_index (4000 ∷ 12000 ∷ 28000 ∷ 60000 ∷ []) passed ≡ next_due (ahead began passed None) (wait_from began).over
next_timer began zero few = omega arith
next_timer began (suc zero) few = omega arith
next_timer began (suc (suc zero)) few = omega arith
next_timer began (suc (suc (suc zero))) few = omega arith
next_timer began (suc (suc (suc (suc n)))) few = absurd (omega (arith, few))
