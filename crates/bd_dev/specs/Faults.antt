-- Counts of faults, and what an error says of them.
use Rattle.std.specs.Prelude.{◌≡◌, ◌≢◌, ℕ, ◌+◌, ◌-◌, ◌^◌, ◌≤◌, min, Bool, true, false, Result, Ok, Err, OnErr, OnOk}
use Rattle.bd_dev.specs.declared.faults.DevFault.{DevFault}
use Rattle.bd_dev.specs.declared.faults.DevFault.TheVariants.{Failed, Memory}

-- a count one higher, which is kept in 64 bits and stays at its greatest value
abbrev pub one_more : ℕ → ℕ
one_more count = min (count + 1) (2 ^ 64 - 1)

-- the count rose, or stood at its greatest value
abbrev pub Rose : ℕ → ℕ → Type 0
Rose before now = one_more before ≤ now

-- the count of faults rises where the answer is an error, and else stays: so a fault ends the call at once
pub record HasCause {T E : Type 0} (before now : ℕ) (result : Result T E) : Type 0 where
  pub later : before ≤ now
  pub failed : OnErr result (Rose before now)
  pub quiet : OnOk result (now ≡ before)

-- the same, where this one error is the device's fault and the others are not
pub record HasCauseOr {T E : Type 0} (fault : E) (before now : ℕ) (result : Result T E) : Type 0 where
  pub later : before ≤ now
  pub failed : result ≡ Err fault → Rose before now
  pub quiet : result ≢ Err fault → now ≡ before

-- the answer is the device's failure
abbrev pub is_failed : {T : Type 0} → Result T DevFault → Bool
is_failed (Ok _) = false
is_failed (Err Failed) = true
is_failed (Err Memory) = false
