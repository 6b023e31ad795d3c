-- What a field set and fields taken out leave.
use Rattle.std.proofs.Common.{◌≡◌, ◌≢◌, ℕ, suc, ◌+◌, ◌<◌, ◌≤◌, eqb, leb, ltb, Bool, true, false, cond, List, [], ◌∷◌, ◌++◌, length, take, drop, get_or, set, Option, Some, None, refl, sym, ap, subst, ◌∙◌, length-append, take-append-drop, arith, add-one, inl, inr}
use Rattle.std.specs.Prelude.{map, filter, count_by, position, not, is_some}
use Rattle.std.specs.List.{list_any, position_or_len}
use Rattle.std.proofs.lemmas.Bool.{and_parts, cases_Bool, eqb-true, ltb-false}
use Rattle.std.proofs.lemmas.List.{append-nil, drop_all, drop_more, map-append, map-set, set_split, take_all}
use Rattle.std.proofs.lemmas.List.Elements.{All-from_recursion, recursion_from_All, All-filter}
use Rattle.std.proofs.lemmas.List.Quantifiers.{position-Some}
use Rattle.std.proofs.lemmas.Option.{cond_some}
use Rattle.bd_codes.specs.TlvTable.{row_of, allows, is_single}
use Rattle.tlvinfo.specs.declared.info.Entry.{Entry}
use Rattle.tlvinfo.specs.TlvInfo.{Field, field_bytes, joined, spelling, total_of, count_of, IsField, AreFields}
use Rattle.tlvinfo.specs.Editing.{has, with_value, can_hold, replaced_place, others, HasNoRoom}
use Rattle.tlvinfo.specs.View.{entry_field, fields_of}
use Rattle.tlvinfo.proofs.Fields.{count_by-cons, count_of-append, AllByRecursion-append, AllByRecursion-before, AllByRecursion-after, AreFields-push}
use Rattle.tlvinfo.proofs.Joined.{joined-append, length-spelling}

-- ---- fields taken out

pub filter-map : {X Y : Type 0} (p : Y → Bool) (g : X → Y) (xs : List X) → filter p (map g xs) ≡ map g (filter (λ x. p (g x)) xs)
filter-map p g [] = refl
filter-map p g (x ∷ xs) =
    elim (cases_Bool (p (g x))) [
      | inl y ↦ rw (y, filter-map p g xs) refl
      | inr n ↦ rw (n, filter-map p g xs) refl
    ]

count_by-filter-le : (q p : Field → Bool) (fs : List Field) → count_by q (filter p fs) ≤ count_by q fs
count_by-filter-le q p [] = omega arith
count_by-filter-le q p (f ∷ fs) =
    let rest = count_by-filter-le q p fs in
    elim (cases_Bool (p f)) [
      | inl y ↦ rw y (omega (arith, count_by-cons q f (filter p fs), count_by-cons q f fs))
      | inr n ↦ rw n (omega (arith, count_by-cons q f fs))
    ]

pub AreFields-filter : (p : Field → Bool) (fs : List Field) → AreFields fs → AreFields (filter p fs)
AreFields-filter p fs good = record {
  each = recursion_from_All IsField (filter p fs) (All-filter p IsField fs (All-from_recursion IsField fs good.each));
  once = λ code single. omega (arith, count_by-filter-le (λ f. eqb f.code code) p fs, good.once code single);
}

-- ---- a field set

-- a field in place of one with its code
AreFields-same_code : (before after : List Field) (g f : Field) → g.code ≡ f.code → IsField f → AreFields (before ++ g ∷ after) → AreFields (before ++ f ∷ after)
AreFields-same_code before after g f same is good = record {
  each = AllByRecursion-append before (f ∷ after) (AllByRecursion-before before (g ∷ after) good.each) (is, (AllByRecursion-after before (g ∷ after) good.each).1);
  once = λ code single.
      let most = good.once code single in
      let test : eqb f.code code ≡ eqb g.code code = ap (λ (n : ℕ). eqb n code) (sym same) in
      let here : count_of code (f ∷ after) ≡ count_of code (g ∷ after) = count_by-cons (λ h. eqb h.code code) f after ∙ ap (λ (b : Bool). cond b 1 0 + count_of code after) test ∙ sym (count_by-cons (λ h. eqb h.code code) g after) in
      omega (arith, count_of-append code before (f ∷ after), count_of-append code before (g ∷ after), here);
}

-- where none passes, none is found
list_any-past : {X : Type 0} (p : X → Bool) (xs : List X) → length xs ≤ position_or_len p xs → list_any p xs ≡ false
list_any-past p [] h = refl
list_any-past p (x ∷ xs) h =
    elim (cases_Bool (p x)) [
      | inl y ↦ absurd (let k : suc (length xs) ≤ 0 = rw y at h in omega arith)
      | inr n ↦ let k : suc (length xs) ≤ 1 + position_or_len p xs = rw n at h in rw (n, list_any-past p xs (omega arith)) refl
    ]

position-none : {X : Type 0} (p : X → Bool) (xs : List X) → position p xs ≡ None → length xs ≤ position_or_len p xs
position-none p xs h =
    elim (cases_Bool (ltb (position_or_len p xs) (length xs))) [
      | inl y ↦ absurd (let k = rw y at h in cc)
      | inr n ↦ ltb-false _ _ n
    ]

abbrev pub field : ℕ → List ℕ → Field
field code value = record { code = code; value = value }

-- a field that replaces none goes to the end
with_value-none : (code : ℕ) (value : List ℕ) (fs : List Field) → replaced_place code fs ≡ None → with_value code value fs ≡ fs ++ field code value ∷ []
with_value-none code value fs h =
    elim (cases_Bool (eqb code 0xfd)) [
      | inl y ↦ rw y refl
      | inr n ↦
          let long = position-none (has code) fs (rw n at h) in
          rw (n, take_all (position_or_len (has code) fs) fs long, drop_all (position_or_len (has code) fs + 1) fs (omega arith)) refl
    ]

-- the place of a field that is replaced
record Replaces (code : ℕ) (value : List ℕ) (fs : List Field) (k : ℕ) : Type 0 where
  inside : k < length fs
  is : with_value code value fs ≡ set fs k (field code value)
  has_code : (get_or fs k (field code value)).code ≡ code

with_value-some : (code : ℕ) (value : List ℕ) (fs : List Field) (k : ℕ) → replaced_place code fs ≡ Some k → Replaces code value fs k
with_value-some code value fs k h =
    elim (cases_Bool (eqb code 0xfd)) [
      | inl y ↦ absurd (let e = rw y at h in cc)
      | inr n ↦
          let e = rw n at h in
          let at = position-Some (has code) fs k (field code value) e in
          let place : position_or_len (has code) fs ≡ k = (cond_some (ltb (position_or_len (has code) fs) (length fs)) (position_or_len (has code) fs) k e).1 in
          record {
            inside = at.0;
            is = rw (n, place, add-one) (sym (set_split fs k (field code value) at.0));
            has_code = eqb-true _ _ at.1;
          }
    ]

-- a field that replaces none doesn't stand again
is_new : (code : ℕ) (fs : List Field) → replaced_place code fs ≡ None → is_single code ≡ true → list_any (has code) fs ≡ false
is_new code fs none single =
    elim (cases_Bool (eqb code 0xfd)) [
      | inl y ↦ absurd (let other : not (eqb code 0xfd) ≡ true = (and_parts (is_some (row_of code)) (not (eqb code 0xfd)) single).1 in let k = rw y at other in cc)
      | inr n ↦ list_any-past (has code) fs (position-none (has code) fs (rw n at none))
    ]

pub AreFields-with_value : (code : ℕ) (value : List ℕ) (fs : List Field) (place : Option ℕ) → place ≡ replaced_place code fs → IsField (field code value) → AreFields fs → AreFields (with_value code value fs)
AreFields-with_value code value fs None e is good =
    rw (with_value-none code value fs (sym e)) (AreFields-push fs (field code value) good is (is_new code fs (sym e)))
AreFields-with_value code value fs (Some k) e is good =
    let r = with_value-some code value fs k (sym e) in
    let f = field code value in
    let g = get_or fs k f in
    let parts : fs ≡ take k fs ++ g ∷ drop (suc k) fs = sym (take-append-drop k fs) ∙ ap (λ (l : List Field). take k fs ++ l) (drop_more fs k f r.inside ∙ ap (λ (n : ℕ). g ∷ drop n fs) (add-one k)) in
    rw (r.is, set_split fs k f r.inside) (AreFields-same_code (take k fs) (drop (suc k) fs) g f r.has_code is (subst AreFields parts good))

-- the fields' bytes with the one set
pub length-joined-with_value : (code : ℕ) (value : List ℕ) (fs : List Field) (place : Option ℕ) → place ≡ replaced_place code fs → length (joined (with_value code value fs)) ≡ 2 + length value + length (joined (others place fs))
length-joined-with_value code value fs None e =
    let f = field code value in
    ap (λ (l : List Field). length (joined l)) (with_value-none code value fs (sym e)) ∙ omega (arith, ap length (joined-append fs (f ∷ [])), length-append (joined fs) (joined (f ∷ [])), ap length (append-nil (field_bytes f)))
length-joined-with_value code value fs (Some k) e =
    let r = with_value-some code value fs k (sym e) in
    let f = field code value in
    let before = take k fs in
    let after = drop (suc k) fs in
    ap (λ (l : List Field). length (joined l)) (r.is ∙ set_split fs k f r.inside)
    ∙ omega (arith, ap length (joined-append before (f ∷ after)), length-append (joined before) (joined (f ∷ after)), length-append (field_bytes f) (joined after), ap length (joined-append before after), length-append (joined before) (joined after))

-- ---- the entries

pub fields-set : (es : List Entry) (k : ℕ) (e : Entry) (code : ℕ) (value : List ℕ) → Some k ≡ replaced_place code (fields_of es) → entry_field e ≡ field code value → fields_of (set es k e) ≡ with_value code value (fields_of es)
fields-set es k e code value place is =
    map-set entry_field es k e ∙ ap (set (fields_of es) k) is ∙ sym (with_value-some code value (fields_of es) k (sym place)).is

pub fields-push : (es : List Entry) (e : Entry) (code : ℕ) (value : List ℕ) → None ≡ replaced_place code (fields_of es) → entry_field e ≡ field code value → fields_of (es ++ e ∷ []) ≡ with_value code value (fields_of es)
fields-push es e code value place is =
    map-append entry_field es (e ∷ []) ∙ ap (λ (f : Field). fields_of es ++ f ∷ []) is ∙ sym (with_value-none code value (fields_of es) (sym place))

-- ---- the tests

pub IsField-tested : (code : ℕ) (value : List ℕ) → code ≢ 0xfe → can_hold code (length value) ≡ true → IsField (field code value)
IsField-tested code value other good = record {
  no_checksum = other;
  allowed = (and_parts (allows code (length value)) (leb (length value) 255) good).0;
}

-- how long the whole is with the field set
length-spelling-with_value : (code : ℕ) (value : List ℕ) (fs gs : List Field) (place : Option ℕ) → gs ≡ fs → place ≡ replaced_place code fs → length (spelling (with_value code value fs)) ≡ 11 + (2 + length value + total_of (others place gs))
length-spelling-with_value code value fs gs place same e =
    omega (arith, length-spelling (with_value code value fs), length-joined-with_value code value fs place e, ap (λ (l : List Field). length (joined (others place l))) same)

-- a field that has room is not refused for want of it
pub has_room-not : (code : ℕ) (value : List ℕ) (fs gs : List Field) (place : Option ℕ) → gs ≡ fs → place ≡ replaced_place code fs → 2 + length value + total_of (others place gs) ≤ 2037 → HasNoRoom code value fs → ⊥
has_room-not code value fs gs place same e room refused =
    omega (arith, refused.long, room, length-spelling-with_value code value fs gs place same e)
