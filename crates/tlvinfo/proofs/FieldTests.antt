-- The reading of one field, by the tests that come in order.
use Rattle.std.proofs.Common.{◌≡◌, ◌≢◌, ℕ, ◌+◌, ◌<◌, eqb, ltb, true, false, cond, List, [], ◌∷◌, ◌++◌, length, drop, Option, Some, Result, Ok, Err, refl, sym, ap, ◌∙◌, arith, length-append}
use Rattle.std.specs.Prelude.{not}
use Rattle.std.proofs.lemmas.Bool.{le-ltb, lt-ltb}
use Rattle.std.proofs.lemmas.List.{drop-drop, take_at}
use Rattle.tlvinfo.specs.declared.fault.TlvKind.{TlvKind}
use Rattle.tlvinfo.specs.declared.fault.TlvKind.TheVariants as kinds
use Rattle.bd_codes.specs.TlvTable.{allows}
use Rattle.bd_codes.proofs.TlvLengths.{allows-checksum}
use Rattle.tlvinfo.specs.TlvInfo.{Field, field_bytes}
use Rattle.tlvinfo.specs.Reading.{size_at, is_again, checksum_at, field_at}

-- a checksum has four bytes
pub checksum_length : (code size : ℕ) → code ≡ 0xfe → allows code size ≡ true → size ≡ 4
checksum_length code size e h = allows-checksum size (rw e at h)

-- what is tested of a field that stands whole
abbrev pub field_tests : List ℕ → ℕ → List Field → Field → List ℕ → Result (Option Field) TlvKind
field_tests whole at before f rest =
    cond (not (allows f.code (length f.value))) (Err (kinds.BadLength f.code (length f.value)))
    (cond (eqb f.code 0xfe) (checksum_at whole at (f.value ++ rest))
    (cond (is_again f.code before) (Err (kinds.Repeated f.code)) (Ok (Some f))))

pub field_at-tests : (whole : List ℕ) (at : ℕ) (before : List Field) (f : Field) (left rest : List ℕ) → left ≡ field_bytes f ++ rest → field_at whole at before left ≡ field_tests whole at before f rest
unfolding field_at
field_at-tests whole at before f left rest e =
    let long : ltb (length (f.value ++ rest)) (length f.value) ≡ false = le-ltb _ _ (omega (arith, length-append f.value rest)) in
    rw (e, long, take_at f.value rest (length f.value) refl) refl

pub field_at-nothing : (whole : List ℕ) (at : ℕ) (before : List Field) (left : List ℕ) → length left ≡ 0 → field_at whole at before left ≡ Err kinds.NoCrc
unfolding field_at
field_at-nothing whole at before [] e = refl
field_at-nothing whole at before (x ∷ xs) e = absurd (omega arith)

pub field_at-cut : (whole : List ℕ) (at : ℕ) (before : List Field) (left : List ℕ) → length left ≢ 0 → length left < 2 + size_at left → field_at whole at before left ≡ Err (kinds.Cut at)
unfolding field_at
field_at-cut whole at before [] some lt = absurd (some refl)
field_at-cut whole at before (code ∷ []) some lt = refl
field_at-cut whole at before (code ∷ size ∷ rest) some lt = let short : ltb (length rest) size ≡ true = lt-ltb _ _ (omega arith) in rw short refl

-- at the checksum's code what is left is the checksum's field
pub field_at-checksum : (whole : List ℕ) (at place : ℕ) (before : List Field) (f : Field) (left rest : List ℕ) → left ≡ drop at whole → left ≡ field_bytes f ++ rest → allows f.code (length f.value) ≡ true → f.code ≡ 0xfe → place ≡ at
    → field_at whole at before left ≡ checksum_at whole place (drop (place + 2) whole)
field_at-checksum whole at place before f left rest here stands allowed is same =
    let behind : f.value ++ rest ≡ drop (at + 2) whole = sym (ap (drop 2) (sym here ∙ stands)) ∙ drop-drop 2 at whole in
    field_at-tests whole at before f left rest stands ∙ rw (allowed, is, behind, same) refl
