-- What a sound board boots.
use Rattle.std.specs.Prelude.{◌≡◌, ◌≢◌, ℕ, List}
use Rattle.bd_text.specs.declared.guid.Guid.{Guid}
use Rattle.gpt_copy.specs.declared.table.Entry.{Entry}
use Rattle.gpt_copy.specs.declared.table.Table.{Table}
use Rattle.storage_model.specs.Boots.{BootsNos, BootsOnie}
use Rattle.storage_model.specs.Entries.{NosEntry, onie_type, unused_type}
use Rattle.soundness.specs.declared.outcome.Boots.{Boots}
use Rattle.soundness.specs.declared.outcome.Boots.TheVariants.{Onie, Nos}

-- an entry is used, has this GUID and is not of ONIE's type
pub record IsNos (e : Entry) (g : Guid) : Type 0 where
  pub used : e.kind ≢ unused_type
  pub guid : e.guid ≡ g
  pub other : e.kind ≢ onie_type

-- a table has such an entry
pub record HasNos (t : Table) (g : Guid) : Type 0 where
  pub index : ℕ
  pub entry : Entry
  pub has : NosEntry t g index entry

-- this is what a board with this table and this text of variables boots
abbrev pub IsBoot : Table → List ℕ → Boots → Type 0
IsBoot t text (Onie mode) = BootsOnie t text mode
IsBoot t text (Nos guid) = BootsNos t text guid
