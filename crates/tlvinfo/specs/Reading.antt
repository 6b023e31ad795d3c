-- Reading from the left: the fields, or the first fault. `Tlv` says which bytes are TlvInfo data; this says which
-- fault is named where they are none.
use Rattle.std.specs.Prelude.{◌≡◌, ℕ, zero, suc, Bool, ◌+◌, ◌-◌, ◌==◌, ◌&&◌, ◌||◌, not, nat_lt, nat_eq, if◌then◌else◌, List, [], ◌∷◌, ◌++◌, length, take, drop, slice_index, Option, Some, None, Result, Ok, Err}
use Rattle.std.specs.List.{starts_with, list_any}
use Rattle.byteorder.specs.Endian.{big_number}
use Rattle.bd_bytes.specs.Crc.{crc32_of}
use Rattle.tlvinfo.specs.declared.fault.TlvKind.{TlvKind}
use Rattle.tlvinfo.specs.declared.fault.TlvKind.TheVariants as kinds
use Rattle.tlvinfo.specs.declared.fault.TlvFault.{TlvFault}
use Rattle.tlvinfo.specs.declared.fault.TlvFault.TheVariants as faults
use Rattle.bd_codes.specs.TlvTable.{allows, is_single}
use Rattle.tlvinfo.specs.TlvInfo.{Field, signature}

-- the next step, unless this one found a fault
infixl 10 ◌>>=◌
abbrev pub ◌>>=◌ : {A B : Type 0} → Result A TlvKind → (A → Result B TlvKind) → Result B TlvKind
(Ok x) >>= f = f x
(Err kind) >>= f = Err kind

-- the total length as the header has it
abbrev pub written_total : List ℕ → ℕ
written_total bytes = big_number 2 (drop 9 bytes)

-- the total length, where the header is right
unfoldable pub total_at : List ℕ → Result ℕ TlvKind
total_at bytes =
    if nat_lt (length bytes) 11 || not (starts_with nat_eq bytes signature) then Err kinds.NotTlv
    else if not (slice_index bytes 8 == 1) then Err (kinds.Version (slice_index bytes 8))
    else if nat_lt 2037 (written_total bytes) || nat_lt (length bytes - 11) (written_total bytes) then Err (kinds.Length (written_total bytes) (length bytes))
    else Ok (written_total bytes)

-- the length that a field has in its second byte
abbrev pub size_at : List ℕ → ℕ
size_at left = slice_index left 1

-- whether a code that may stand once stands before
abbrev pub is_again : ℕ → List Field → Bool
is_again code before = is_single code && list_any (λ f. f.code == code) before

-- no field at the checksum, whose field begins at a place of the whole; its value and what follows it are given
unfoldable pub checksum_at : List ℕ → ℕ → List ℕ → Result (Option Field) TlvKind
checksum_at whole at rest =
    if nat_lt 4 (length rest) then Err (kinds.AfterCrc (at + 6))
    else if not (big_number 4 rest == crc32_of (take (at + 2) whole)) then Err (kinds.Crc (big_number 4 rest) (crc32_of (take (at + 2) whole)))
    else Ok None

-- the field at a place, after the fields before it, or none at the checksum
unfoldable pub field_at : List ℕ → ℕ → List Field → List ℕ → Result (Option Field) TlvKind
field_at whole at before [] = Err kinds.NoCrc
field_at whole at before (code ∷ []) = Err (kinds.Cut at)
field_at whole at before (code ∷ size ∷ rest) =
    if nat_lt (length rest) size then Err (kinds.Cut at)
    else if not (allows code size) then Err (kinds.BadLength code size)
    else if code == 0xfe then checksum_at whole at rest
    else if is_again code before then Err (kinds.Repeated code)
    else Ok (Some (record { code = code; value = take size rest }))

-- the fields from a place of the whole on; a field has at least two bytes, so as many steps as whole suffice
unfoldable pub fields_at : ℕ → List ℕ → ℕ → List Field → List ℕ → Result (List Field) TlvKind
fields_at zero whole at before left = Err kinds.NoCrc
fields_at (suc steps) whole at before left =
    field_at whole at before left >>= λ next. elim next [
      | None ↦ Ok before
      | Some f ↦ fields_at steps whole (at + 2 + length f.value) (before ++ f ∷ []) (drop (2 + length f.value) left)
    ]

-- the fields of the bytes, or the first fault in them
unfoldable pub reading : List ℕ → Result (List Field) TlvKind
reading bytes = total_at bytes >>= λ total. let whole = take (11 + total) bytes in fields_at (suc total) whole 11 [] (drop 11 whole)

-- what a function returned is what was read, unless memory ran out
abbrev pub Gives : Result (List Field) TlvFault → Result (List Field) TlvKind → Type 0
Gives (Ok fs) read = read ≡ Ok fs
Gives (Err faults.Memory) read = Unit {0}
Gives (Err (faults.Bad kind)) read = read ≡ Err kind
