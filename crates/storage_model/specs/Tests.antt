-- Soundness as tests that compute: of a table, and of a text of variables.
use Rattle.std.specs.Prelude.{ℕ, zero, suc, ◌==◌, List, [], ◌∷◌, ◌++◌, length, slice_get, Bool, true, false, ◌&&◌, ◌||◌, not, nat_le, nat_lt, Option, Some, None, if◌then◌else◌}
use Rattle.std.specs.List.{after_first, before_first, list_any, slice_split}
use Rattle.std.specs.Option.{option_and_then}
use Rattle.std.specs.Str.{bytes_eq}
use Rattle.bd_text.specs.declared.guid.Guid.{Guid}
use Rattle.gpt_copy.specs.declared.table.Entry.{Entry}
use Rattle.gpt_copy.specs.declared.table.Table.{Table}
use Rattle.storage_model.specs.Entries.{onie_type, unused_type}
use Rattle.storage_model.specs.Image.{has_image}
use Rattle.storage_model.specs.Variables.{Variable, is_equals, is_variable, lines_of, names_of}

-- ---- tables

-- an entry is of this type
abbrev pub is_of : Guid → Entry → Bool
is_of kind e = bytes_eq e.kind.bytes kind.bytes

-- the used entry at this place, from 0
abbrev pub if_used : Entry → Option Entry
if_used e = if is_of unused_type e then None else Some e

abbrev pub used_at : Table → ℕ → Option Entry
used_at t i = option_and_then if_used (slice_get t.entries i)

-- where there is one, it passes; there is one, and it passes
abbrev pub passes : (Entry → Bool) → Option Entry → Bool
passes p None = true
passes p (Some e) = p e

abbrev pub is_found : (Entry → Bool) → Option Entry → Bool
is_found p None = false
is_found p (Some e) = p e

-- each number below n passes; one does
abbrev pub each_below : (ℕ → Bool) → ℕ → Bool
each_below p zero = true
each_below p (suc n) = p n && each_below p n

abbrev pub any_below : (ℕ → Bool) → ℕ → Bool
any_below p zero = false
any_below p (suc n) = p n || any_below p n

-- each used entry passes, with its place; one does
abbrev pub each_used : Table → (ℕ → Entry → Bool) → Bool
each_used t p = each_below (λ i. passes (p i) (used_at t i)) (length t.entries)

abbrev pub any_used : Table → (ℕ → Entry → Bool) → Bool
any_used t p = any_below (λ i. is_found (p i) (used_at t i)) (length t.entries)

-- an entry lies in the usable range
abbrev pub is_within : Table → Entry → Bool
is_within t e = nat_le t.first_usable e.first && (nat_le e.first e.last && nat_le e.last t.last_usable)

-- two entries share no sector, and have different GUIDs
abbrev pub are_two : Entry → Entry → Bool
are_two e f = (nat_lt e.last f.first || nat_lt f.last e.first) && not (bytes_eq e.guid.bytes f.guid.bytes)

-- a table is sane
abbrev pub is_sane : Table → Bool
is_sane t = each_used t (λ i e. is_within t e && each_used t (λ j f. (i == j) || are_two e f))

-- no other entry than that at this place is of ONIE's type
abbrev pub is_lone : Table → ℕ → Bool
is_lone t i = each_used t (λ j f. not (is_of onie_type f) || (j == i))

-- a table is sound, over a disk
abbrev pub is_sound_table : (ℕ → ℕ) → Table → Bool
is_sound_table disk t = is_sane t && any_used t (λ i e. is_of onie_type e && (is_lone t i && has_image disk e))

-- a table has a used entry with this GUID, of another type than ONIE's
abbrev pub has_nos : Table → Guid → Bool
has_nos t g = any_used t (λ i e. bytes_eq e.guid.bytes g.bytes && not (is_of onie_type e))

-- ---- texts

-- a zero byte, which ends a line
abbrev pub is_end : ℕ → Bool
is_end b = b == 0

-- the name and the value in a line
abbrev pub variable_in : List ℕ → Variable
variable_in line = record { name = before_first is_equals line; value = after_first is_equals line }

-- those of the lines that an end follows: of all but the last
abbrev pub variables_among : List (List ℕ) → List Variable
variables_among [] = []
variables_among (line ∷ []) = []
variables_among (line ∷ next ∷ lines) = variable_in line ∷ variables_among (next ∷ lines)

abbrev pub variables_in : List ℕ → List Variable
variables_in text = variables_among (slice_split is_end text)

-- these are variables, each with a name that none before it has
abbrev pub are_variables : List Variable → List Variable → Bool
are_variables before [] = true
are_variables before (v ∷ vs) = (is_variable v && not (list_any (bytes_eq v.name) (names_of before))) && are_variables (before ++ v ∷ []) vs

-- a text is that of some variables
abbrev pub is_text : List ℕ → Bool
is_text text = bytes_eq text (lines_of (variables_in text)) && are_variables [] (variables_in text)
