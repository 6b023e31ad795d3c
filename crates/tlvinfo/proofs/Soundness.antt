-- What is read is spelled so.
use Rattle.std.proofs.Common.{◌≡◌, ℕ, zero, suc, ◌+◌, ◌-◌, ◌<◌, ◌≤◌, eqb, ltb, true, cond, List, [], ◌∷◌, ◌++◌, length, take, drop, get_or, Result, Ok, Err, refl, sym, ap, subst, ◌∙◌, append_assoc, length-append, length-drop, length-take, take-append-drop, drop-cons, arith, inl, inr}
use Rattle.std.specs.Prelude.{◌||◌, not, IfOk}
use Rattle.std.specs.Cmp.Lexicographic.{pointwise}
use Rattle.std.proofs.lemmas.Bool.{eqb-true, ltb-false, not-false, or_parts, and_parts}
use Rattle.std.proofs.lemmas.List.{take_at, take_all, drop-drop, drop-take, append-nil}
use Rattle.std.proofs.Math.Seq.{take-append-add}
use Rattle.byteorder.specs.Endian.{big_bytes, big_number}
use Rattle.bd_bytes.specs.Bytes.{IsBytes}
use Rattle.bd_bytes.specs.Crc.{crc32_of}
use Rattle.bd_bytes.proofs.NumberLemmas.{IsBytes-take, IsBytes-drop, big_bytes-big_number}
use Rattle.tlvinfo.specs.declared.fault.TlvKind.{TlvKind}
use Rattle.tlvinfo.specs.declared.fault.TlvKind.TheVariants as kinds
use Rattle.tlvinfo.specs.declared.fault.TlvFault.{TlvFault}
use Rattle.tlvinfo.specs.TlvInfo.{Field, field_bytes, joined, signature, header, total_of, spelling, AreFields, Tlv}
use Rattle.tlvinfo.specs.Reading.{written_total, total_at, field_at, fields_at, reading, Gives}
use Rattle.tlvinfo.proofs.Fields.{AreFields-nil, AreFields-push}
use Rattle.tlvinfo.specs.Encoding.{ending}
use Rattle.tlvinfo.proofs.Spelling.{join, header-joined-ending}
use Rattle.tlvinfo.proofs.Steps.{bind_ok, guard_ok, ok-injective, Ends, go_on, step_cases}

ends_so : (whole : List ℕ) (at : ℕ) (left front : List ℕ) → Ends whole at left → whole ≡ front ++ left → length front ≡ at → IsBytes left → left ≡ ending front
ends_so whole at left front known is len fits =
    let rest = known.rest in
    let regrouped : whole ≡ (front ++ 0xfe ∷ 4 ∷ []) ++ rest = is ∙ ap (λ (l : List ℕ). front ++ l) known.left_is ∙ sym (append_assoc front (0xfe ∷ 4 ∷ []) rest) in
    let two : length (front ++ 0xfe ∷ 4 ∷ []) ≡ at + 2 = length-append front (0xfe ∷ 4 ∷ []) ∙ ap (λ (n : ℕ). n + 2) len in
    let summed : take (at + 2) whole ≡ front ++ 0xfe ∷ 4 ∷ [] = ap (take (at + 2)) regrouped ∙ take_at (front ++ 0xfe ∷ 4 ∷ []) rest (at + 2) two in
    let right : crc32_of (front ++ 0xfe ∷ 4 ∷ []) ≡ big_number 4 rest = sym (known.right ∙ ap crc32_of summed) in
    let rest_fits : IsBytes rest = λ i. subst (λ (l : List ℕ). get_or l (suc (suc i)) 0 < 256) known.left_is (fits (suc (suc i))) in
    let four : big_bytes 4 (crc32_of (front ++ 0xfe ∷ 4 ∷ [])) ≡ rest = ap (big_bytes 4) right ∙ big_bytes-big_number 4 rest rest_fits (omega (arith, known.four)) ∙ take_all 4 rest (omega (arith, known.four)) in
    known.left_is ∙ ap (λ (r : List ℕ). 0xfe ∷ 4 ∷ r) (sym four)

-- what was read from a place on
record Rest (front : List ℕ) (before : List Field) (left : List ℕ) (fs : List Field) : Type 0 where
  more : List Field
  all : fs ≡ before ++ more
  left_is : left ≡ joined more ++ ending (front ++ joined more)
  good : AreFields fs

fields_sound : (steps : ℕ) (whole : List ℕ) (at : ℕ) (before : List Field) (left : List ℕ) (fs : List Field) (front : List ℕ) → whole ≡ front ++ left → length front ≡ at → IsBytes left → AreFields before
    → fields_at steps whole at before left ≡ Ok fs → Rest front before left fs
unfolding fields_at
fields_sound zero whole at before left fs front is len fits good e = absurd cc
fields_sound (suc steps) whole at before left fs front is len fits good e =
    let b = bind_ok (field_at whole at before left) (go_on steps whole at before left) fs e in
    elim (step_cases whole at before left b.0 b.1) [
      | inl y ↦
          let same : before ≡ fs = ok-injective before fs (rw y.0 at b.2) in
          record {
            more = [];
            all = sym same ∙ sym (append-nil before);
            left_is = ends_so whole at left front y.1 is len fits ∙ ap ending (sym (append-nil front));
            good = subst AreFields same good;
          }
      | inr n ↦
          let f = n.0 in
          let known = n.2 in
          let after = drop (2 + length f.value) left in
          let is' : whole ≡ (front ++ field_bytes f) ++ after = is ∙ ap (λ (l : List ℕ). front ++ l) known.left_is ∙ sym (append_assoc front (field_bytes f) after) in
          let len' : length (front ++ field_bytes f) ≡ at + 2 + length f.value = length-append front (field_bytes f) ∙ omega arith in
          let r = fields_sound steps whole (at + 2 + length f.value) (before ++ f ∷ []) after fs (front ++ field_bytes f) is' len' (IsBytes-drop (2 + length f.value) left fits) (AreFields-push before f good known.is_field known.new) (rw n.1 at b.2) in
          record {
            more = f ∷ r.more;
            all = r.all ∙ append_assoc before (f ∷ []) r.more;
            left_is = known.left_is ∙ ap (λ (l : List ℕ). field_bytes f ++ l) (r.left_is ∙ ap (λ (p : List ℕ). joined r.more ++ ending p) (append_assoc front (field_bytes f) (joined r.more))) ∙ sym (append_assoc (field_bytes f) (joined r.more) (ending (front ++ (field_bytes f ++ joined r.more))));
            good = r.good;
          }
    ]

both : {x y : ℕ} {xs ys : List ℕ} → x ≡ y → xs ≡ ys → x ∷ xs ≡ y ∷ ys
both e h = cc

pointwise_same : (xs ys : List ℕ) → pointwise eqb xs ys ≡ true → xs ≡ ys
pointwise_same [] [] e = refl
pointwise_same [] (y ∷ ys) e = absurd cc
pointwise_same (x ∷ xs) [] e = absurd cc
pointwise_same (x ∷ xs) (y ∷ ys) e = let parts = and_parts (eqb x y) (pointwise eqb xs ys) e in both (eqb-true x y parts.0) (pointwise_same xs ys parts.1)

-- what is known of the bytes where the header is right
record Headed (bytes : List ℕ) (total : ℕ) : Type 0 where
  parts : bytes ≡ header total ++ drop 11 bytes
  small : total ≤ 2037
  inside : 11 + total ≤ length bytes

abbrev length_tests : List ℕ → Result ℕ TlvKind
length_tests bytes = cond (ltb 2037 (written_total bytes) || ltb (length bytes - 11) (written_total bytes)) (Err (kinds.Length (written_total bytes) (length bytes))) (Ok (written_total bytes))

headed : (bytes : List ℕ) (total : ℕ) → IsBytes bytes → total_at bytes ≡ Ok total → Headed bytes total
unfolding total_at
headed bytes total fits e =
    let a = guard_ok (ltb (length bytes) 11 || not (pointwise eqb signature (take 8 bytes))) kinds.NotTlv (cond (not (eqb (get_or bytes 8 0) 1)) (Err (kinds.Version (get_or bytes 8 0))) (length_tests bytes)) total e in
    let b = guard_ok (not (eqb (get_or bytes 8 0) 1)) (kinds.Version (get_or bytes 8 0)) (length_tests bytes) total a.1 in
    let c = guard_ok (ltb 2037 (written_total bytes) || ltb (length bytes - 11) (written_total bytes)) (kinds.Length (written_total bytes) (length bytes)) (Ok (written_total bytes)) total b.1 in
    let heads = or_parts (ltb (length bytes) 11) (not (pointwise eqb signature (take 8 bytes))) a.0 in
    let sizes = or_parts (ltb 2037 (written_total bytes)) (ltb (length bytes - 11) (written_total bytes)) c.0 in
    let long : 11 ≤ length bytes = ltb-false _ _ heads.0 in
    let total-is : written_total bytes ≡ total = ok-injective (written_total bytes) total c.1 in
    let front : signature ≡ take 8 bytes = pointwise_same signature (take 8 bytes) (not-false _ heads.1) in
    let version : get_or bytes 8 0 ≡ 1 = eqb-true _ _ (not-false _ b.0) in
    let number : big_bytes 2 total ≡ take 2 (drop 9 bytes) = ap (big_bytes 2) (sym total-is) ∙ big_bytes-big_number 2 (drop 9 bytes) (IsBytes-drop 9 bytes fits) (omega (arith, length-drop 9 bytes)) in
    let from_nine : drop 9 bytes ≡ big_bytes 2 total ++ drop 11 bytes = sym (take-append-drop 2 (drop 9 bytes)) ∙ join (sym number) (drop-drop 2 9 bytes) in
    let from_eight : drop 8 bytes ≡ 1 ∷ drop 9 bytes = drop-cons bytes 8 0 (omega arith) ∙ ap (λ (n : ℕ). n ∷ drop 9 bytes) version in
    record {
      parts = sym (take-append-drop 8 bytes) ∙ join (sym front) (from_eight ∙ ap (λ (l : List ℕ). 1 ∷ l) from_nine);
      small = omega (arith, ltb-false _ _ sizes.0);
      inside = omega (arith, ltb-false _ _ sizes.1);
    }

pub is_sound : (bytes : List ℕ) (fs : List Field) → IsBytes bytes → reading bytes ≡ Ok fs → Tlv bytes fs
unfolding reading
is_sound bytes fs fits e =
    let a = bind_ok (total_at bytes) (λ total. fields_at (suc total) (take (11 + total) bytes) 11 [] (drop 11 (take (11 + total) bytes))) fs e in
    let total = a.0 in
    let h = headed bytes total fits a.1 in
    let whole = take (11 + total) bytes in
    let body = drop 11 whole in
    let body_is : body ≡ take total (drop 11 bytes) = drop-take 11 total bytes in
    let is : whole ≡ header total ++ body = ap (take (11 + total)) h.parts ∙ take-append-add (header total) (drop 11 bytes) total ∙ ap (λ (l : List ℕ). header total ++ l) (sym body_is) in
    let r = fields_sound (suc total) whole 11 [] body fs (header total) is refl (IsBytes-drop 11 whole (IsBytes-take (11 + total) bytes fits)) AreFields-nil a.2 in
    let more_is : r.more ≡ fs = sym r.all in
    let spelled : body ≡ joined fs ++ ending (header total ++ joined fs) = subst (λ (gs : List Field). body ≡ joined gs ++ ending (header total ++ joined gs)) more_is r.left_is in
    let len : length body ≡ total = omega (arith, ap length body_is, length-take total (drop 11 bytes), length-drop 11 bytes, h.inside) in
    let total-is : total ≡ total_of fs = sym len ∙ ap length spelled ∙ length-append (joined fs) (ending (header total ++ joined fs)) in
    let whole_is : whole ≡ spelling fs = is ∙ ap (λ (l : List ℕ). header total ++ l) spelled ∙ header-joined-ending fs total total-is in
    record {
      fields = r.good;
      fits = omega (arith, total-is, h.small);
      spelled = (drop (11 + total) bytes, sym (take-append-drop (11 + total) bytes) ∙ ap (λ (l : List ℕ). l ++ drop (11 + total) bytes) whole_is);
    }

pub is_found : (bytes : List ℕ) (r : Result (List Field) TlvFault) → IsBytes bytes → Gives r (reading bytes) → IfOk r (Tlv bytes)
is_found bytes (Ok fs) fits given = is_sound bytes fs fits given
is_found bytes (Err e) fits given = tt
