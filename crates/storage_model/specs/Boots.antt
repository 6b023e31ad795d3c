-- What a sound disk with readable variables boots.
use Rattle.std.specs.Prelude.{◌≡◌, ◌⊎◌, ℕ, List, Some, None}
use Rattle.bd_text.specs.declared.guid.Guid.{Guid}
use Rattle.bd_mode.specs.declared.mode.Mode.{Mode}
use Rattle.bd_mode.specs.declared.mode.Mode.TheVariants.{Install}
use Rattle.gpt_copy.specs.declared.table.Entry.{Entry}
use Rattle.gpt_copy.specs.declared.table.Table.{Table}
use Rattle.storage_model.specs.Entries.{NosEntry}
use Rattle.storage_model.specs.Variables.{Names, mode_in}

-- the variables name this NOS, and the table has it
pub record NamesEntry (t : Table) (text : List ℕ) (g : Guid) : Type 0 where
  pub names : Names text g
  pub index : ℕ
  pub entry : Entry
  pub has : NosEntry t g index entry

-- The NOS with this GUID boots: no mode is asked for, and it is named and there.
pub record BootsNos (t : Table) (text : List ℕ) (g : Guid) : Type 0 where
  pub no_mode : mode_in text ≡ None
  pub named : NamesEntry t text g

-- ONIE boots for want of a NOS: no mode is asked for, and no NOS is named and there.
pub record BootsByDefault (t : Table) (text : List ℕ) (mode : Mode) : Type 0 where
  pub no_mode : mode_in text ≡ None
  pub no_nos : (g : Guid) → ¬ NamesEntry t text g
  pub install : mode ≡ Install

-- ONIE boots in this mode: the one that is asked for, or install for want of a NOS.
abbrev pub BootsOnie : Table → List ℕ → Mode → Type 0
BootsOnie t text mode = (mode_in text ≡ Some mode) ⊎ BootsByDefault t text mode
