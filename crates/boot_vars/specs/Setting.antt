-- Changes of variables, and why one is refused.
use Rattle.std.specs.Prelude.{◌≡◌, ◌⊎◌, ℕ, ◌+◌, ◌-◌, ◌^◌, ◌==◌, List, [], ◌∷◌, length, Bool, not, if◌then◌else◌, nat_le, is_none, filter, Option, Some, None, Result, Ok, Err}
use Rattle.std.specs.Str.{bytes_eq}
use Rattle.bd_dev.specs.declared.plant.Area.TheVariants.{Flash}
use Rattle.bd_dev.specs.Plant.{View, IsSynced}
use Rattle.bd_dev.specs.Runs.{LeavesOnly, WritesAtMost}
use Rattle.bd_dev.specs.Touching.{Touches}
use Rattle.slot_pair.specs.declared.fault.PutFault.{PutFault}
use Rattle.slot_pair.specs.declared.fault.PutFault.TheVariants as put_faults
use Rattle.slot_pair.specs.Body.{used_sectors}
use Rattle.slot_pair.specs.Putting.{IsEither, stored, turned}
use Rattle.slot_model.specs.Slots.{pair_sectors, slot_lba}
use Rattle.storage_model.specs.Variables.{Variable, kept_in, variables_sectors, is_name, is_value, lines_of, value_among}
use Rattle.boot_vars.specs.declared.fault.VarFault.{VarFault}
use Rattle.boot_vars.specs.declared.fault.VarFault.TheVariants.{BadName, BadText, Fault, SeqEnd, VarsFull}
use Rattle.boot_vars.specs.Vars.{FitsVars, Vars}

-- the variable of this name and this value
abbrev pub given : List ℕ → List ℕ → Variable
given name value = record { name = name; value = value }

-- the variables with this one: in the place of the one of its name, or behind all others
unfoldable pub with_variable : List Variable → Variable → List Variable
with_variable [] v = v ∷ []
with_variable (u ∷ us) v = if bytes_eq u.name v.name then v ∷ us else u ∷ with_variable us v

-- the variables but the one of this name
abbrev pub without : List Variable → List ℕ → List Variable
without vs name = filter (λ v. not (bytes_eq v.name name)) vs

-- the lines fit in a slot
abbrev pub fit : List Variable → Bool
fit vs = nat_le (length (lines_of vs)) 8180

-- why no put follows one of this number: it is the greatest
abbrev pub put_refusal : ℕ → Option VarFault
put_refusal number = if number == 2 ^ 64 - 1 then Some SeqEnd else None

-- why this variable isn't set among these, whose put has this number: the first reason
abbrev pub set_refusal : List Variable → ℕ → Variable → Option VarFault
set_refusal vs number v =
    if not (is_name v.name) then Some BadName
    else if not (is_value v.value) then Some BadText
    else if not (fit (with_variable vs v)) then Some VarsFull
    else put_refusal number

-- why the variable of this name isn't unset: where there is none, nothing is to be done
abbrev pub unset_refusal : List Variable → ℕ → List ℕ → Option VarFault
unset_refusal vs number name =
    if not (is_name name) then Some BadName
    else if is_none (value_among vs name) then None
    else put_refusal number

-- the answer of a call that would change the variables, but for a device's fault
abbrev pub answer : Option VarFault → Result Unit VarFault
answer None = Ok tt
answer (Some fault) = Err fault

-- the answer of one that changes them: where nothing is refused, a device's fault may come
abbrev pub IsAnswer : Option VarFault → Result Unit VarFault → Type 0
IsAnswer None result = (result ≡ Ok tt) ⊎ (result ≡ Err Fault)
IsAnswer (Some fault) result = result ≡ Err fault

-- the fault of a put, as one of the variables
abbrev pub of_put_fault : PutFault → VarFault
of_put_fault put_faults.TooLong = VarsFull
of_put_fault put_faults.SeqEnd = SeqEnd
of_put_fault put_faults.Fault = Fault

-- A change of the variables to those of this text: it touches the sectors of the variables alone, of these the other
-- slot's gate and as many of its body as hold bytes, and at every moment a crash leaves the variables as they were, or
-- this text under the next number.
pub record Changes (vars : Vars) (text : List ℕ) (old new : View) : Type 0 where
  pub touches : Touches Flash 0 (pair_sectors variables_sectors) old new
  pub few : Touches Flash (slot_lba variables_sectors 0 (not vars.pair.second)) (used_sectors (length text) + 1) old new
  pub crash : old.tells → LeavesOnly old new (λ c. IsEither (kept_in (old.size Flash) (old.reads Flash)) (stored (vars.pair.number + 1) text) (kept_in (old.size Flash) (c Flash)))

-- A change to this text writes at most as many sectors of the flash as its body fills, and two of gates, and none of
-- the disk.
pub record WearsFor (text : List ℕ) (old new : View) : Type 0 where
  pub written : old.tells → WritesAtMost Flash (used_sectors (length text) + 2) old new

-- the variables after a change
abbrev pub changed : Vars → List ℕ → Vars
changed vars text = record { pair = turned vars.pair; text = text }

-- The plant fits the variables, and nothing of the flash is unsynced.
pub record IsDurable (v : View) (vars : Vars) : Type 0 where
  pub fits : FitsVars v vars
  pub synced : v.tells → IsSynced v Flash
