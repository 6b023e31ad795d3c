-- The table that keeps ONIE's entry alone, as a function.
use Rattle.std.specs.Prelude.{◌≡◌, ℕ, ◌-◌, slice_get, Option, Some, option_map}
use Rattle.std.specs.Option.{option_and_then}
use Rattle.gpt_copy.specs.declared.table.Entry.{Entry}
use Rattle.gpt_copy.specs.declared.table.Table.{Table}
use Rattle.storage_model.specs.Choices.{onie_place}
use Rattle.storage_model.specs.Entries.{OnieEntry}
use Rattle.gpt_table.specs.Edits.{KeepsAlone, emptied, with_entry}

-- the entry at a place, from 0, alone there
abbrev pub alone_at : Table → ℕ → Option Table
alone_at t i = option_map (with_entry (emptied t) i) (slice_get t.entries i)

-- ONIE's entry alone at its place, in a table that has one
abbrev pub onie_alone : Table → Option Table
onie_alone t = option_and_then (alone_at t) (onie_place t)

-- to keep ONIE's entry alone makes that table
abbrev pub OnieIsAlone : Type 0
OnieIsAlone =
    (t after : Table) (number : ℕ) (e : Entry) → OnieEntry t (number - 1) e → KeepsAlone t number after → onie_alone t ≡ Some after
