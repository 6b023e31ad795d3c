-- The changes of a board: why one is refused, and what it notes.
use Rattle.std.specs.Prelude.{◌≡◌, ◌⊎◌, ℕ, ◌+◌, [], ◌∷◌, ◌++◌, Bool, true, false, nat_lt, if◌then◌else◌, Option, Some, None, Result, Ok, Err}
use Rattle.boot_vars.specs.declared.fault.VarFault.{VarFault}
use Rattle.boot_vars.specs.declared.fault.VarFault.TheVariants as var_faults
use Rattle.cuts.specs.declared.effect.Effect.{Effect}
use Rattle.storage_model.specs.Copies.{touches_copies}
use Rattle.board.specs.declared.board.Held.{Held}
use Rattle.board.specs.declared.fault.BoardFault.{BoardFault}
use Rattle.board.specs.declared.fault.BoardFault.TheVariants.{Range, OnTable, BadName, BadText, VarsFull, SeqEnd, Fault, Memory}

-- why n sectors are not put: they pass the disk's end, or they touch a copy of the table
unfoldable pub put_refusal : ℕ → ℕ → ℕ → Option BoardFault
put_refusal size lba n =
    if nat_lt size (lba + n) then Some Range
    else if touches_copies size lba n then Some OnTable
    else None

-- the fault of a change of variables, as one of the board
abbrev pub of_var_fault : VarFault → BoardFault
of_var_fault var_faults.BadName = BadName
of_var_fault var_faults.BadText = BadText
of_var_fault var_faults.VarsFull = VarsFull
of_var_fault var_faults.SeqEnd = SeqEnd
of_var_fault var_faults.Fault = Fault

-- why the variables are not changed, as a reason of the board
abbrev pub of_var_refusal : Option VarFault → Option BoardFault
of_var_refusal None = None
of_var_refusal (Some fault) = Some (of_var_fault fault)

-- the answer of a change, for the first reason to refuse it: where there is none, the plant may fail or memory be wanting
abbrev pub IsAnswer : Option BoardFault → Result Unit BoardFault → Type 0
IsAnswer (Some fault) result = result ≡ Err fault
IsAnswer None result = (result ≡ Ok tt) ⊎ ((result ≡ Err Fault) ⊎ (result ≡ Err Memory))

-- the effect is the last of the journal, and the board failed in it or did not
pub record Noted (x : Effect) (has_failed : Bool) (h j : Held) : Type 0 where
  pub effects : j.journal.effects ≡ h.journal.effects ++ x ∷ []
  pub failed : j.failed ≡ has_failed

-- nothing was done: neither the plant nor what is kept has changed
pub record Nothing (same : Type 0) (h j : Held) : Type 0 where
  pub plant : same
  pub held : j ≡ h

-- What a change with this effect does to the journal: where it is done the effect is noted, where the plant fails it is
-- noted as the one that runs, and a refusal changes nothing.
abbrev pub Does : Effect → (same : Type 0) → Result Unit BoardFault → Held → Held → Type 0
Does x same (Ok done) h j = Noted x false h j
Does x same (Err Fault) h j = Noted x true h j
Does x same (Err Range) h j = Nothing same h j
Does x same (Err OnTable) h j = Nothing same h j
Does x same (Err BadName) h j = Nothing same h j
Does x same (Err BadText) h j = Nothing same h j
Does x same (Err VarsFull) h j = Nothing same h j
Does x same (Err SeqEnd) h j = Nothing same h j
Does x same (Err Memory) h j = Nothing same h j
