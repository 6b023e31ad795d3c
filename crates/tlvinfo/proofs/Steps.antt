-- The steps of reading, one field each.
use Rattle.std.proofs.Common.{◌≡◌, ℕ, zero, suc, ◌+◌, ◌-◌, ◌<◌, ◌≤◌, eqb, ltb, Bool, true, false, cond, List, [], ◌∷◌, ◌++◌, length, take, drop, Option, Some, None, Result, Ok, Err, refl, sym, ap, ◌∙◌, length-drop, length-take, take-append-drop, arith, ◌⊎◌, inl, inr}
use Rattle.std.specs.Prelude.{not, IsTrue}
use Rattle.std.specs.List.{list_any}
use Rattle.std.proofs.lemmas.Bool.{eqb-true, eqb-false, ltb-false, not-false}
use Rattle.byteorder.specs.Endian.{big_number}
use Rattle.bd_bytes.specs.Crc.{crc32_of}
use Rattle.tlvinfo.specs.declared.fault.TlvKind.{TlvKind}
use Rattle.tlvinfo.specs.declared.fault.TlvKind.TheVariants as kinds
use Rattle.bd_codes.specs.TlvTable.{allows, is_single}
use Rattle.tlvinfo.specs.TlvInfo.{Field, field_bytes, IsField}
use Rattle.tlvinfo.specs.Reading.{◌>>=◌, is_again, checksum_at, field_at, fields_at}
use Rattle.tlvinfo.proofs.FieldTests.{checksum_length}

-- the value of a step that found no fault
pub bind_ok : {A B : Type 0} (r : Result A TlvKind) (f : A → Result B TlvKind) (y : B) → (r >>= f) ≡ Ok y → (x : A) × (r ≡ Ok x) × (f x ≡ Ok y)
bind_ok (Ok x) f y e = (x, refl, e)
bind_ok (Err d) f y e = absurd cc

-- a test that found no fault
pub guard_ok : {A : Type 0} (b : Bool) (d : TlvKind) (r : Result A TlvKind) (y : A) → cond b (Err d) r ≡ Ok y → (b ≡ false) × (r ≡ Ok y)
guard_ok true d r y e = absurd cc
guard_ok false d r y e = (refl, e)

chosen : {A : Type 0} (b : Bool) (x y z : A) → cond b x y ≡ z → ((b ≡ true) × (x ≡ z)) ⊎ ((b ≡ false) × (y ≡ z))
chosen true x y z e = inl (refl, e)
chosen false x y z e = inr (refl, e)

abbrev found : {A : Type 0} → A → Result A TlvKind
found x = Ok x

pub ok-injective : {A : Type 0} (x y : A) → found x ≡ found y → x ≡ y
ok-injective x y e = cc

true_is : {b : Bool} → b ≡ true → IsTrue b
true_is e = e

second_false : (x y : Bool) → x ≡ true → Rattle.std.specs.Prelude.◌&&◌ x y ≡ false → y ≡ false
second_false true y e h = h
second_false false y e h = absurd cc

-- what is known where a checksum ends the fields
pub record Ends (whole : List ℕ) (at : ℕ) (left : List ℕ) : Type 0 where
  pub rest : List ℕ
  pub left_is : left ≡ 0xfe ∷ 4 ∷ rest
  pub four : length rest ≡ 4
  pub right : big_number 4 rest ≡ crc32_of (take (at + 2) whole)

-- what is known where a field was read
pub record Took (before : List Field) (left : List ℕ) (f : Field) : Type 0 where
  pub left_is : left ≡ field_bytes f ++ drop (2 + length f.value) left
  pub inside : 2 + length f.value ≤ length left
  pub is_field : IsField f
  pub new : is_single f.code ≡ true → list_any (λ g. eqb g.code f.code) before ≡ false

abbrev sum_tests : List ℕ → ℕ → List ℕ → Result (Option Field) TlvKind
sum_tests whole at rest = cond (not (eqb (big_number 4 rest) (crc32_of (take (at + 2) whole)))) (Err (kinds.Crc (big_number 4 rest) (crc32_of (take (at + 2) whole)))) (Ok None)

checksum_ends : (whole : List ℕ) (at size : ℕ) (rest : List ℕ) (next : Option Field) → size ≡ 4 → size ≤ length rest → checksum_at whole at rest ≡ Ok next → (next ≡ None) × Ends whole at (0xfe ∷ size ∷ rest)
unfolding checksum_at
checksum_ends whole at size rest next four long e =
    let a = guard_ok (ltb 4 (length rest)) (kinds.AfterCrc (at + 6)) (sum_tests whole at rest) next e in
    let b = guard_ok (not (eqb (big_number 4 rest) (crc32_of (take (at + 2) whole)))) (kinds.Crc (big_number 4 rest) (crc32_of (take (at + 2) whole))) (Ok None) next a.1 in
    let some_len : length rest ≡ 4 = omega (arith, ltb-false _ _ a.0) in
    (ok-injective next None (sym b.1), record { rest = rest; left_is = ap (λ (n : ℕ). 0xfe ∷ n ∷ rest) four; four = some_len; right = eqb-true _ _ (not-false _ b.0) })

abbrev read_field : ℕ → ℕ → List ℕ → Field
read_field code size rest = record { code = code; value = take size rest }

abbrev repeat_tests : ℕ → ℕ → List Field → List ℕ → Result (Option Field) TlvKind
repeat_tests code size before rest = cond (is_again code before) (Err (kinds.Repeated code)) (Ok (Some (read_field code size rest)))

abbrev code_tests : List ℕ → ℕ → ℕ → ℕ → List Field → List ℕ → Result (Option Field) TlvKind
code_tests whole at code size before rest = cond (eqb code 0xfe) (checksum_at whole at rest) (repeat_tests code size before rest)

took : (before : List Field) (code size : ℕ) (rest : List ℕ) (next : Option Field) → size ≤ length rest → allows code size ≡ true → eqb code 0xfe ≡ false → repeat_tests code size before rest ≡ Ok next
    → (f : Field) × (next ≡ Some f) × Took before (code ∷ size ∷ rest) f
took before code size rest next long allowed other e =
    let g = guard_ok (is_again code before) (kinds.Repeated code) (Ok (Some (read_field code size rest))) next e in
    let f = read_field code size rest in
    let len : length (take size rest) ≡ size = omega (arith, length-take size rest) in
    let two : 2 + length (take size rest) ≡ suc (suc size) = omega arith in (
      f,
      ok-injective next (Some f) (sym g.1),
      record {
        left_is = rw (two, len) (ap (λ (r : List ℕ). code ∷ size ∷ r) (sym (take-append-drop size rest)));
        inside = omega arith;
        is_field = record { no_checksum = eqb-false code 0xfe other; allowed = rw len (true_is allowed) };
        new = λ single. second_false (is_single code) (list_any (λ f. eqb f.code code) before) single g.0;
      },
    )

-- a step ended at the checksum, or took a field
pub step_cases : (whole : List ℕ) (at : ℕ) (before : List Field) (left : List ℕ) (next : Option Field) → field_at whole at before left ≡ Ok next
    → ((next ≡ None) × Ends whole at left) ⊎ ((f : Field) × (next ≡ Some f) × Took before left f)
unfolding field_at
step_cases whole at before [] next e = absurd cc
step_cases whole at before (code ∷ []) next e = absurd cc
step_cases whole at before (code ∷ size ∷ rest) next e =
    let a = guard_ok (ltb (length rest) size) (kinds.Cut at) (cond (not (allows code size)) (Err (kinds.BadLength code size)) (code_tests whole at code size before rest)) next e in
    let b = guard_ok (not (allows code size)) (kinds.BadLength code size) (code_tests whole at code size before rest) next a.1 in
    let long : size ≤ length rest = ltb-false _ _ a.0 in
    let allowed : allows code size ≡ true = not-false _ b.0 in
    elim (chosen (eqb code 0xfe) (checksum_at whole at rest) (repeat_tests code size before rest) (Ok next) b.1) [
      | inl y ↦
          let is : code ≡ 0xfe = eqb-true code 0xfe y.0 in
          inl (rw is (checksum_ends whole at size rest next (checksum_length code size is allowed) long y.1))
      | inr n ↦ inr (took before code size rest next long allowed n.0 n.1)
    ]

some_inside : (whole : List ℕ) (at : ℕ) (before : List Field) (left : List ℕ) (f : Field) → field_at whole at before left ≡ Ok (Some f) → 2 + length f.value ≤ length left
some_inside whole at before left f e =
    elim (step_cases whole at before left (Some f) e) [
      | inl y ↦ absurd (let h = y.0 in cc)
      | inr n ↦ let is : f ≡ n.0 = let h = n.1 in cc in rw is n.2.inside
    ]

same_after : {A B : Type 0} (r : Result A TlvKind) (f g : A → Result B TlvKind) → ((x : A) → r ≡ Ok x → f x ≡ g x) → (r >>= f) ≡ (r >>= g)
same_after (Ok x) f g h = h x refl
same_after (Err k) f g h = refl

-- what follows a step
abbrev pub go_on : ℕ → List ℕ → ℕ → List Field → List ℕ → Option Field → Result (List Field) TlvKind
go_on steps whole at before left None = Ok before
go_on steps whole at before left (Some f) = fields_at steps whole (at + 2 + length f.value) (before ++ f ∷ []) (drop (2 + length f.value) left)

-- more steps than bytes change nothing
pub enough : (m n : ℕ) (whole : List ℕ) (at : ℕ) (before : List Field) (left : List ℕ) → length left < m → length left < n → fields_at m whole at before left ≡ fields_at n whole at before left
unfolding fields_at
enough zero n whole at before left h k = absurd (omega arith)
enough (suc m) zero whole at before left h k = absurd (omega arith)
enough (suc m) (suc n) whole at before left h k =
    same_after (field_at whole at before left) _ _ (λ next e. elim next as (λ x. field_at whole at before left ≡ Ok x → go_on m whole at before left x ≡ go_on n whole at before left x) [
      | None ↦ λ e. refl
      | Some f ↦ λ e. let inside : 2 + length f.value ≤ length left = some_inside whole at before left f e in
          enough m n whole (at + 2 + length f.value) (before ++ f ∷ []) (drop (2 + length f.value) left) (omega (arith, length-drop (2 + length f.value) left)) (omega (arith, length-drop (2 + length f.value) left))
    ] e)

pub step-ends : (steps : ℕ) (whole : List ℕ) (at : ℕ) (before : List Field) (left : List ℕ) → field_at whole at before left ≡ Ok None → fields_at (suc steps) whole at before left ≡ Ok before
unfolding fields_at
step-ends steps whole at before left e = rw e refl

pub step-fails : (steps : ℕ) (whole : List ℕ) (at : ℕ) (before : List Field) (left : List ℕ) (kind : TlvKind) → field_at whole at before left ≡ Err kind → fields_at (suc steps) whole at before left ≡ Err kind
unfolding fields_at
step-fails steps whole at before left kind e = rw e refl

pub step-takes : (steps : ℕ) (whole : List ℕ) (at : ℕ) (before : List Field) (left : List ℕ) (f : Field) → field_at whole at before left ≡ Ok (Some f)
    → fields_at (suc steps) whole at before left ≡ fields_at steps whole (at + 2 + length f.value) (before ++ f ∷ []) (drop (2 + length f.value) left)
unfolding fields_at
step-takes steps whole at before left f e = rw e refl

-- a field more leaves what reading gives
pub goes_on : (whole : List ℕ) (at : ℕ) (before : List Field) (left : List ℕ) (f : Field) (place : ℕ) (after : List ℕ) → field_at whole at before left ≡ Ok (Some f) → place ≡ at + (2 + length f.value) → after ≡ drop (2 + length f.value) left
    → fields_at (suc (length after)) whole place (before ++ f ∷ []) after ≡ fields_at (suc (length left)) whole at before left
goes_on whole at before left f place after e is after-is =
    let inside : 2 + length f.value ≤ length left = some_inside whole at before left f e in
    let len : length after ≡ length left - (2 + length f.value) = ap length after-is ∙ length-drop (2 + length f.value) left in
    let order : place ≡ at + 2 + length f.value = omega arith in
    rw order (enough (suc (length after)) (length left) whole _ _ after (omega arith) (omega arith) ∙ ap (fields_at (length left) whole _ _) after-is ∙ sym (step-takes (length left) whole at before left f e))
