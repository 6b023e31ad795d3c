-- The system that a text of variables names, as a function.
use Rattle.std.specs.Prelude.{ℕ, ◌==◌, List, [], ◌∷◌, ◌++◌, length, take, drop, codes, Bool, ◌&&◌, nat_lt, Option, Some, None, if◌then◌else◌}
use Rattle.std.specs.Char.{digit_value}
use Rattle.std.specs.List.{list_all}
use Rattle.std.specs.Option.{option_and_then}
use Rattle.std.specs.Str.{bytes_eq}
use Rattle.std.specs.Str.Parse.{digits_value}
use Rattle.byteorder.specs.Endian.{big_bytes, little_bytes}
use Rattle.bd_text.specs.declared.guid.Guid.{Guid}
use Rattle.bd_text.specs.Marks.{dash}
use Rattle.bd_text.specs.Parts.{parts_of}
use Rattle.storage_model.specs.Variables.{value_of}

-- so many hexadecimal digits, in either case
abbrev pub is_hex : ℕ → List ℕ → Bool
is_hex count text = (length text == count) && list_all (λ c. nat_lt (digit_value c) 16) text

-- the five fields of a GUID's text (RFC 9562, section 4)
abbrev pub are_fields : List ℕ → List ℕ → List ℕ → List ℕ → List ℕ → Bool
are_fields low middle high clock node = is_hex 8 low && is_hex 4 middle && is_hex 4 high && is_hex 4 clock && is_hex 12 node

-- a GUID's bytes from its fields' digits: the first three fields lie with the low byte first (UEFI 2.10, appendix A)
abbrev pub bytes_in : List ℕ → List ℕ → List ℕ → List ℕ → List ℕ → List ℕ
bytes_in low middle high clock node =
    little_bytes 4 (digits_value 16 low) ++ little_bytes 2 (digits_value 16 middle) ++ little_bytes 2 (digits_value 16 high)
    ++ big_bytes 2 (digits_value 16 clock) ++ big_bytes 6 (digits_value 16 node)

-- the GUID that these parts spell
abbrev pub guid_in : List (List ℕ) → Option Guid
guid_in (low ∷ middle ∷ high ∷ clock ∷ node ∷ []) =
    if are_fields low middle high clock node then Some (record { bytes = bytes_in low middle high clock node }) else None
guid_in parts = None

-- the GUID that a text spells
abbrev pub guid_of : List ℕ → Option Guid
guid_of text = guid_in (parts_of dash text)

-- the GUID in a value `boot G`
abbrev pub booted_by : List ℕ → Option Guid
booted_by value = if bytes_eq (take 5 value) (codes "boot ") then guid_of (drop 5 value) else None

-- the GUID of the system that the text names
abbrev pub named_in : List ℕ → Option Guid
named_in text = option_and_then booted_by (value_of text (codes "nos_bootcmd"))
