-- Boot variables: a text of lines `name=value`, each ended by a zero byte.
use Rattle.std.specs.Prelude.{◌≡◌, ◌≢◌, ℕ, ◌+◌, ◌<◌, ◌==◌, List, [], ◌∷◌, ◌++◌, length, take, drop, map, codes, Bool, ◌&&◌, ◌||◌, nat_eq, nat_le, IsTrue, Contains, Option, Some, None, option_map, find}
use Rattle.std.specs.List.{after_first, before_first, flat_map, list_all, list_any, slice_split}
use Rattle.std.specs.Str.{bytes_eq}
use Rattle.std.specs.Option.{option_and_then}
use Rattle.bd_text.specs.declared.guid.Guid.{Guid}
use Rattle.bd_text.specs.Guid.{SpellsGuid}
use Rattle.bd_mode.specs.declared.mode.Mode.{Mode}
use Rattle.bd_mode.specs.Modes.{mode_of}
use Rattle.slot_model.specs.Slots.{Stored, current_in}

pub record Variable : Type 0 where
  pub name : List ℕ
  pub value : List ℕ

-- letters, digits and `_`
abbrev pub is_name_byte : ℕ → Bool
is_name_byte b =
    (nat_le 0x41 b && nat_le b 0x5A) || (nat_le 0x61 b && nat_le b 0x7A) || (nat_le 0x30 b && nat_le b 0x39) || (b == 0x5F)

-- a name: 1 to 64 of them
unfoldable pub is_name : List ℕ → Bool
is_name name = nat_le 1 (length name) && nat_le (length name) 64 && list_all is_name_byte name

-- a value: printable ASCII
unfoldable pub is_value : List ℕ → Bool
is_value value = list_all (λ b. nat_le 0x20 b && nat_le b 0x7E) value

abbrev pub is_variable : Variable → Bool
is_variable v = is_name v.name && is_value v.value

-- the line of a variable
abbrev pub line_of : Variable → List ℕ
line_of v = v.name ++ codes "=" ++ v.value ++ 0 ∷ []

-- the lines of variables
abbrev pub lines_of : List Variable → List ℕ
lines_of vs = flat_map line_of vs

abbrev pub names_of : List Variable → List (List ℕ)
names_of vs = map (λ v. v.name) vs

-- these may follow those before: each is a variable with a name of its own
abbrev pub MayFollow : List Variable → Variable → Type 0
MayFollow before v = IsTrue (is_variable v) × ¬ Contains (names_of before) v.name

-- each of the variables may follow those before it
abbrev pub AreVariables : List Variable → List Variable → Type 0
AreVariables before [] = Unit {0}
AreVariables before (v ∷ vs) = MayFollow before v × AreVariables (before ++ v ∷ []) vs

-- the text is the lines of these variables
pub record Spells (text : List ℕ) (vs : List Variable) : Type 0 where
  pub lines : text ≡ lines_of vs
  pub variables : AreVariables [] vs

-- the text is that of some variables
abbrev pub IsText : List ℕ → Type 0
IsText text = (vs : List Variable) × Spells text vs

-- the first wrong line begins here: what stands before is lines, and no line of a variable that may follow stands here
pub record IsBadLine (text : List ℕ) (at : ℕ) : Type 0 where
  pub before : List Variable
  pub good : Spells (take at text) before
  pub within : at < length text
  pub bad : (v : Variable) (rest : List ℕ) → drop at text ≡ line_of v ++ rest → ¬ MayFollow before v

-- `=`, which stands between a name and its value
abbrev pub is_equals : ℕ → Bool
is_equals b = b == 0x3D

-- the line is one of this name: the name stands before its first `=`
abbrev pub is_line_of : List ℕ → List ℕ → Bool
is_line_of name line = list_any is_equals line && bytes_eq (before_first is_equals line) name

-- the value of the variable of this name, in a text's first line of that name
unfoldable pub value_of : List ℕ → List ℕ → Option (List ℕ)
value_of text name = option_map (after_first is_equals) (find (is_line_of name) (slice_split (λ b. b == 0) text))

-- the value of the variable of this name among these
abbrev pub value_among : List Variable → List ℕ → Option (List ℕ)
value_among vs name = option_map (λ v. v.value) (find (λ v. bytes_eq v.name name) vs)

-- The mode that the text asks for: `onie_boot_reason`, where its value is a mode's name.
abbrev pub mode_in : List ℕ → Option Mode
mode_in text = option_and_then mode_of (value_of text (codes "onie_boot_reason"))

-- the text names this NOS: `nos_bootcmd` reads `boot G`, where G spells the GUID
pub record Names (text : List ℕ) (g : Guid) : Type 0 where
  pub spelling : List ℕ
  pub value : value_of text (codes "nos_bootcmd") ≡ Some (codes "boot " ++ spelling)
  pub spells : SpellsGuid g.bytes spelling

-- the sectors of a slot of the variables
abbrev pub variables_sectors : ℕ
variables_sectors = 16

-- the current slot of a flash of so many sectors, which holds the variables
abbrev pub kept_in : ℕ → (ℕ → ℕ) → Option Stored
kept_in size flash = current_in size variables_sectors flash 0

-- the flash holds these variables: the current slot's number and content, which is a text
pub record HoldsVariables (size : ℕ) (flash : ℕ → ℕ) (kept : Stored) : Type 0 where
  pub is : kept_in size flash ≡ Some kept
  pub text : IsText kept.content
