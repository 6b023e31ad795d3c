-- The entries that a table has, and what an image boots, as functions.
use Rattle.std.specs.Prelude.{◌≡◌, ◌↔◌, ℕ, List, find, position, slice_get, Bool, ◌&&◌, not, Option, Some, None, if◌then◌else◌}
use Rattle.std.specs.Option.{option_and_then}
use Rattle.std.specs.Str.{bytes_eq}
use Rattle.bd_text.specs.declared.guid.Guid.{Guid}
use Rattle.bd_dev.specs.declared.plant.Area.{Area}
use Rattle.bd_dev.specs.declared.plant.Area.TheVariants.{Disk, Flash}
use Rattle.bd_dev.specs.Content.{Image}
use Rattle.bd_mode.specs.declared.mode.Mode.{Mode}
use Rattle.bd_mode.specs.declared.mode.Mode.TheVariants.{Install}
use Rattle.gpt_copy.specs.declared.table.Entry.{Entry}
use Rattle.gpt_copy.specs.declared.table.Table.{Table}
use Rattle.slot_model.specs.Slots.{Stored}
use Rattle.storage_model.specs.Boots.{BootsNos, BootsOnie, NamesEntry}
use Rattle.storage_model.specs.Disk.{table_of}
use Rattle.storage_model.specs.Entries.{HasEntry, IsSane, OnieEntry, onie_type, unused_type}
use Rattle.storage_model.specs.Named.{named_in}
use Rattle.storage_model.specs.Soundness.{IsSoundBoard}
use Rattle.storage_model.specs.Tests.{has_nos, is_of, is_sound_table, is_text}
use Rattle.storage_model.specs.Variables.{Names, kept_in, mode_in}

-- an entry is used, and has this GUID
abbrev pub is_used_as : Guid → Entry → Bool
is_used_as g e = not (is_of unused_type e) && bytes_eq e.guid.bytes g.bytes

-- ONIE's place in a table, from 0: that of the first entry of its type
abbrev pub onie_place : Table → Option ℕ
onie_place t = position (is_of onie_type) t.entries

-- ONIE's entry
abbrev pub onie_part : Table → Option Entry
onie_part t = option_and_then (slice_get t.entries) (onie_place t)

-- the used entry with this GUID: the first
abbrev pub entry_of : Table → Guid → Option Entry
entry_of t g = find (is_used_as g) t.entries

-- Each finds what its relation says: ONIE's entry where a table has one, and the used entry of a GUID in a sane table.
pub record AreChoices : Type 0 where
  pub place : (t : Table) (i : ℕ) (e : Entry) → OnieEntry t i e → onie_place t ≡ Some i
  pub onie : (t : Table) (i : ℕ) (e : Entry) → OnieEntry t i e → onie_part t ≡ Some e
  pub entry : (t : Table) (i : ℕ) (e : Entry) → IsSane t → HasEntry t i e → entry_of t e.guid ≡ Some e

-- what a board boots: nothing where it is not sound, else ONIE in a mode, or the NOS with a GUID
pub data Booted : Type 0 where
  Nothing : Booted
  Onie : Mode → Booted
  Nos : Guid → Booted

-- an image of a board of these sizes boots this
abbrev pub Boots : (Area → ℕ) → Image → Booted → Type 0
Boots size c Nothing = IsSoundBoard size c → ⊥
Boots size c (Onie mode) = (sound : IsSoundBoard size c) × BootsOnie sound.table sound.kept.content mode
Boots size c (Nos guid) = (sound : IsSoundBoard size c) × BootsNos sound.table sound.kept.content guid

-- ---- as a function

-- the system that the text names, where the table has it
abbrev pub nos_in : Table → List ℕ → Option Guid
nos_in t text = option_and_then (λ g. if has_nos t g then Some g else None) (named_in text)

-- what a sound board boots: the mode that is asked for, else the system that is named and there, else ONIE to install one
abbrev pub boots_by : Option Mode → Option Guid → Booted
boots_by (Some mode) nos = Onie mode
boots_by None (Some guid) = Nos guid
boots_by None None = Onie Install

-- what a sound board with this table and this text of variables boots
abbrev pub boots_of : Table → List ℕ → Booted
boots_of t text = boots_by (mode_in text) (nos_in t text)

-- the same of a board that has these, where it is sound
abbrev pub boots_with : (ℕ → ℕ) → Option Table → Option Stored → Booted
boots_with disk (Some t) (Some kept) = if is_sound_table disk t && is_text kept.content then boots_of t kept.content else Nothing
boots_with disk (Some t) None = Nothing
boots_with disk None kept = Nothing

-- what an image of a board of these sizes boots
abbrev pub boots_in : (Area → ℕ) → Image → Booted
boots_in size c = boots_with (c Disk) (table_of (size Disk) (c Disk)) (kept_in (size Flash) (c Flash))

-- Each tells what its relation says, and nothing else: which system a text names, and what a board and an image boot.
pub record AreDecided : Type 0 where
  pub named : (text : List ℕ) (g : Guid) → (named_in text ≡ Some g) ↔ Names text g
  pub nos : (t : Table) (text : List ℕ) (g : Guid) → (nos_in t text ≡ Some g) ↔ NamesEntry t text g
  pub onie : (t : Table) (text : List ℕ) (mode : Mode) → (boots_of t text ≡ Onie mode) ↔ BootsOnie t text mode
  pub boots_nos : (t : Table) (text : List ℕ) (g : Guid) → (boots_of t text ≡ Nos g) ↔ BootsNos t text g
  pub image : (size : Area → ℕ) (c : Image) (b : Booted) → (boots_in size c ≡ b) ↔ Boots size c b
