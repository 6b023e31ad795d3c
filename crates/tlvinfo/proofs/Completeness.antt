-- What is spelled so is read.
use Rattle.std.proofs.Common.{◌≡◌, ℕ, zero, suc, ◌+◌, ◌-◌, ◌<◌, ◌≤◌, eqb, ltb, true, false, List, [], ◌∷◌, ◌++◌, length, take, drop, get_or, Some, None, Ok, refl, sym, ap, subst, ◌∙◌, append_assoc, length-append, arith}
use Rattle.std.proofs.lemmas.Bool.{le-ltb, eq-eqb, ne_eqb}
use Rattle.std.proofs.lemmas.List.{take_at, drop_at, append-nil}
use Rattle.byteorder.specs.Endian.{big_bytes, big_number}
use Rattle.byteorder.specs.Numbers.{big_number-reads_back}
use Rattle.bd_bytes.specs.Crc.{crc32_of}
use Rattle.bd_bytes.proofs.Checksum.{crc32_of-lt}
use Rattle.bd_codes.specs.TlvTable.{allows, tlv_rows}
use Rattle.tlvinfo.specs.TlvInfo.{Field, field_bytes, joined, signature, header, total_of, spelling, IsField, AreFields, Tlv}
use Rattle.tlvinfo.specs.Reading.{is_again, total_at, checksum_at, field_at, fields_at, reading}
use Rattle.tlvinfo.proofs.Fields.{AllByRecursion-after, is_again-within}
use Rattle.tlvinfo.proofs.FieldTests.{field_at-tests}
use Rattle.tlvinfo.specs.Encoding.{ending}
use Rattle.tlvinfo.proofs.Spelling.{header-joined-ending}
use Rattle.tlvinfo.proofs.Steps.{step-ends, step-takes}

checksum_reads : (whole : List ℕ) (at : ℕ) (before : List Field) (rest : List ℕ) → length rest ≡ 4 → big_number 4 rest ≡ crc32_of (take (at + 2) whole) → field_at whole at before (0xfe ∷ 4 ∷ rest) ≡ Ok None
unfolding field_at checksum_at tlv_rows
checksum_reads whole at before rest len right =
    let same : eqb (big_number 4 rest) (crc32_of (take (at + 2) whole)) ≡ true = eq-eqb _ _ right in
    rw (len, same) refl

field_reads : (whole : List ℕ) (at : ℕ) (before : List Field) (f : Field) (left rest : List ℕ) → left ≡ field_bytes f ++ rest → IsField f → is_again f.code before ≡ false → field_at whole at before left ≡ Ok (Some f)
field_reads whole at before f left rest stands is new =
    let allowed : allows f.code (length f.value) ≡ true = is.allowed in
    let other : eqb f.code 0xfe ≡ false = ne_eqb f.code 0xfe is.no_checksum in
    field_at-tests whole at before f left rest stands ∙ rw (allowed, other, new) refl

fields_complete : (more : List Field) (steps : ℕ) (whole front : List ℕ) (before : List Field) → length (joined more) < steps → whole ≡ front ++ (joined more ++ ending (front ++ joined more)) → AreFields (before ++ more)
    → fields_at steps whole (length front) before (joined more ++ ending (front ++ joined more)) ≡ Ok (before ++ more)
fields_complete more zero whole front before h is good = absurd (omega arith)
fields_complete [] (suc steps) whole front before h is good =
    let sum = crc32_of (front ++ 0xfe ∷ 4 ∷ []) in
    let end-is : ending (front ++ []) ≡ ending front = ap ending (append-nil front) in
    let regrouped : whole ≡ (front ++ 0xfe ∷ 4 ∷ []) ++ big_bytes 4 sum = is ∙ ap (λ (l : List ℕ). front ++ l) end-is ∙ sym (append_assoc front (0xfe ∷ 4 ∷ []) (big_bytes 4 sum)) in
    let two : length (front ++ 0xfe ∷ 4 ∷ []) ≡ length front + 2 = length-append front (0xfe ∷ 4 ∷ []) in
    let summed : take (length front + 2) whole ≡ front ++ 0xfe ∷ 4 ∷ [] = ap (take (length front + 2)) regrouped ∙ take_at (front ++ 0xfe ∷ 4 ∷ []) (big_bytes 4 sum) (length front + 2) two in
    let back : big_number 4 (big_bytes 4 sum) ≡ sum = ap (big_number 4) (sym (append-nil (big_bytes 4 sum))) ∙ big_number-reads_back 4 sum [] (crc32_of-lt (front ++ 0xfe ∷ 4 ∷ [])) in
    let right : big_number 4 (big_bytes 4 sum) ≡ crc32_of (take (length front + 2) whole) = back ∙ ap crc32_of (sym summed) in
    ap (fields_at (suc steps) whole (length front) before) end-is
    ∙ step-ends steps whole (length front) before (ending front) (checksum_reads whole (length front) before (big_bytes 4 sum) refl right)
    ∙ ap (λ (fs : List Field). Ok fs) (sym (append-nil before))
fields_complete (f ∷ more) (suc steps) whole front before h is good =
    let E = ending (front ++ (field_bytes f ++ joined more)) in
    let E-is : E ≡ ending ((front ++ field_bytes f) ++ joined more) = ap ending (sym (append_assoc front (field_bytes f) (joined more))) in
    let left = (field_bytes f ++ joined more) ++ E in
    let left-is : left ≡ field_bytes f ++ (joined more ++ E) = append_assoc (field_bytes f) (joined more) E in
    let len : length (field_bytes f) ≡ 2 + length f.value = omega arith in
    let len' : length (front ++ field_bytes f) ≡ length front + 2 + length f.value = length-append front (field_bytes f) ∙ omega (arith, len) in
    let is_field : IsField f = (AllByRecursion-after before (f ∷ more) good.each).0 in
    let read : field_at whole (length front) before left ≡ Ok (Some f) = field_reads whole (length front) before f left (joined more ++ E) left-is is_field (is_again-within before more f good) in
    let after : drop (2 + length f.value) left ≡ joined more ++ E = ap (drop (2 + length f.value)) left-is ∙ drop_at (field_bytes f) (joined more ++ E) (2 + length f.value) len in
    let good' : AreFields ((before ++ f ∷ []) ++ more) = subst AreFields (sym (append_assoc before (f ∷ []) more)) good in
    let is' : whole ≡ (front ++ field_bytes f) ++ (joined more ++ ending ((front ++ field_bytes f) ++ joined more)) =
    is ∙ ap (λ (l : List ℕ). front ++ l) left-is ∙ sym (append_assoc front (field_bytes f) (joined more ++ E)) ∙ ap (λ (l : List ℕ). (front ++ field_bytes f) ++ (joined more ++ l)) E-is in
    let shorter : length (joined more) < steps = omega (arith, length-append (field_bytes f) (joined more), len) in
    let r = fields_complete more steps whole (front ++ field_bytes f) (before ++ f ∷ []) shorter is' good' in
    step-takes steps whole (length front) before left f read
    ∙ ap (λ (n : ℕ). fields_at steps whole n (before ++ f ∷ []) (drop (2 + length f.value) left)) (sym len')
    ∙ ap (fields_at steps whole (length (front ++ field_bytes f)) (before ++ f ∷ [])) (after ∙ ap (λ (l : List ℕ). joined more ++ l) E-is)
    ∙ r
    ∙ ap (λ (fs : List Field). Ok fs) (append_assoc before (f ∷ []) more)

total_reads : (bytes : List ℕ) (total : ℕ) → 11 ≤ length bytes → take 8 bytes ≡ signature → get_or bytes 8 0 ≡ 1 → big_number 2 (drop 9 bytes) ≡ total → total ≤ 2037 → total ≤ length bytes - 11 → total_at bytes ≡ Ok total
unfolding total_at
total_reads bytes total long front version number small inside =
    let a : ltb (length bytes) 11 ≡ false = le-ltb _ _ long in
    let b : ltb 2037 total ≡ false = le-ltb _ _ small in
    let c : ltb (length bytes - 11) total ≡ false = le-ltb _ _ inside in
    rw (a, front, version, number, b, c) refl

pub is_complete : (bytes : List ℕ) (fs : List Field) → Tlv bytes fs → reading bytes ≡ Ok fs
unfolding reading
is_complete bytes fs tlv =
    let total = total_of fs in
    let rest = tlv.spelled.0 in
    let body = joined fs ++ ending (header total ++ joined fs) in
    let spelled : spelling fs ≡ header total ++ body = sym (header-joined-ending fs total refl) in
    let is : bytes ≡ header total ++ (body ++ rest) = tlv.spelled.1 ∙ ap (λ (l : List ℕ). l ++ rest) spelled ∙ append_assoc (header total) body rest in
    let len : length body ≡ total = length-append (joined fs) (ending (header total ++ joined fs)) in
    let number : big_number 2 (big_bytes 2 total ++ (body ++ rest)) ≡ total = big_number-reads_back 2 total (body ++ rest) (omega (arith, tlv.fits)) in
    let size : length (header total ++ (body ++ rest)) ≡ 11 + (total + length rest) = omega (arith, length-append body rest) in
    let read : total_at (header total ++ (body ++ rest)) ≡ Ok total = total_reads (header total ++ (body ++ rest)) total (omega arith) refl refl number tlv.fits (omega arith) in
    let whole-is : take (11 + total) bytes ≡ header total ++ body = ap (take (11 + total)) (is ∙ sym (append_assoc (header total) body rest)) ∙ take_at (header total ++ body) rest (11 + total) (omega arith) in
    let r = fields_complete fs (suc total) (header total ++ body) (header total) [] (omega arith) refl tlv.fields in
    rw (ap total_at is ∙ read, whole-is) r
