-- Which effects a board takes, and which runs of them are orderly.
use Rattle.std.specs.Prelude.{◌≡◌, ◌≢◌, ◌⊎◌, ℕ, ◌-◌, ◌*◌, ◌%◌, ◌^◌, ◌≤◌, List, [], ◌∷◌, length}
use Rattle.bd_text.specs.declared.guid.Guid.{Guid}
use Rattle.gpt_copy.specs.declared.table.Entry.{Entry}
use Rattle.gpt_copy.specs.declared.table.Table.{Table}
use Rattle.storage_model.specs.Entries.{HasEntry, InEntry, IsSane, NosEntry, OnieEntry}
use Rattle.storage_model.specs.Variables.{IsText, Names}
use Rattle.storage_model.specs.Copies.{OffCopies}
use Rattle.cuts.specs.declared.effect.Effect.{Effect}
use Rattle.cuts.specs.declared.effect.Effect.TheVariants.{Put, Sync, Table as SetTable, Vars as SetVars}
use Rattle.cuts.specs.States.{State, InPut, after_one, pending_one}

-- whole sectors, 1 to 2,048 of them, within the disk and off both copies of the table
pub record IsLawfulPut (size lba : ℕ) (bytes : List ℕ) : Type 0 where
  pub whole : length bytes % 512 ≡ 0
  pub some : 512 ≤ length bytes
  pub few : length bytes ≤ 512 * 2048
  pub off : (q : ℕ) → InPut lba bytes q → OffCopies size q

-- a sane table of the same disk, with the same usable range
pub record IsLawfulTable (old new : Table) : Type 0 where
  pub sane : IsSane new
  pub first : new.first_usable ≡ old.first_usable
  pub last : new.last_usable ≡ old.last_usable
  pub disk : new.disk ≡ old.disk

-- a text of variables, for which there is a number: that of the text before is not the greatest
pub record IsLawfulText (number : ℕ) (text : List ℕ) : Type 0 where
  pub is : IsText text
  pub room : number ≢ 2 ^ 64 - 1

-- an effect that a board with a disk of so many sectors may have in this state
abbrev pub IsLawful : ℕ → State → Effect → Type 0
IsLawful size s (Put lba bytes) = IsLawfulPut size lba bytes
IsLawful size s Sync = Unit {0}
IsLawful size s (SetTable t) = IsLawfulTable s.table t
IsLawful size s (SetVars text) = IsLawfulText s.number text

-- the used entry that the variables name
pub record IsNamed (t : Table) (text : List ℕ) (i : ℕ) (e : Entry) : Type 0 where
  pub has : HasEntry t i e
  pub names : Names text e.guid

-- no sector of U lies in the entry
abbrev pub KeepsOff : (ℕ → Type 0) → Entry → Type 0
KeepsOff U e = (q : ℕ) → U q → InEntry e q → ⊥

-- no sector of U lies in ONIE's entry, nor in the one that the variables name
pub record KeepsOffBoth (U : ℕ → Type 0) (s : State) : Type 0 where
  pub onie : (i : ℕ) (e : Entry) → OnieEntry s.table i e → KeepsOff U e
  pub named : (i : ℕ) (e : Entry) → IsNamed s.table s.text i e → KeepsOff U e

-- a NOS that the variables may come to name: the table has it, and none of its sectors is pending
pub record MayBeNamed (t : Table) (U : ℕ → Type 0) (g : Guid) : Type 0 where
  pub index : ℕ
  pub entry : Entry
  pub has : NosEntry t g index entry
  pub settled : KeepsOff U entry

-- the GUID, the first and the last sector are the same
pub record IsPlacedAs (e f : Entry) : Type 0 where
  pub guid : f.guid ≡ e.guid
  pub first : f.first ≡ e.first
  pub last : f.last ≡ e.last

-- a table has one entry of ONIE's type, and it is placed as this one
pub record HasOnieAs (t : Table) (e : Entry) : Type 0 where
  pub index : ℕ
  pub entry : Entry
  pub one : OnieEntry t index entry
  pub placed : IsPlacedAs e entry

-- a table has a used entry that is placed as this one
pub record HasPlacedAs (t : Table) (e : Entry) : Type 0 where
  pub index : ℕ
  pub entry : Entry
  pub has : HasEntry t index entry
  pub placed : IsPlacedAs e entry

-- ONIE's entry stays where it is, and a named entry is where it was
pub record KeepsPlaces (text : List ℕ) (old new : Table) : Type 0 where
  pub onie : (i : ℕ) (e : Entry) → OnieEntry old i e → HasOnieAs new e
  pub named : (i : ℕ) (e : Entry) → IsNamed new text i e → HasPlacedAs old e

-- The rules for one effect, in a state with these sectors pending.
abbrev pub KeepsRules : State → (ℕ → Type 0) → Effect → Type 0
KeepsRules s U (Put lba bytes) = KeepsOffBoth (InPut lba bytes) s
KeepsRules s U Sync = Unit {0}
KeepsRules s U (SetTable t) = KeepsPlaces s.text s.table t
KeepsRules s U (SetVars text) = (g : Guid) → Names text g → Names s.text g ⊎ MayBeNamed s.table U g

-- each effect is lawful in the state that those before it leave
abbrev pub AreLawful : ℕ → State → List Effect → Type 0
AreLawful size s [] = Unit {0}
AreLawful size s (x ∷ xs) = IsLawful size s x × AreLawful size (after_one s x) xs

-- each effect keeps the rules in the state that those before it leave
abbrev pub AreOrderly : State → (ℕ → Type 0) → List Effect → Type 0
AreOrderly s U [] = Unit {0}
AreOrderly s U (x ∷ xs) = KeepsRules s U x × AreOrderly (after_one s x) (pending_one U x) xs
