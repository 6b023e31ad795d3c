-- Lists of fields that may stand together.
use Rattle.std.proofs.Common.{◌≡◌, ℕ, ◌+◌, eqb, Bool, true, false, cond, List, [], ◌∷◌, ◌++◌, length, Option, Some, None, Bor, refl, sym, ◌∙◌, arith, inl, inr}
use Rattle.std.specs.Prelude.{count_by, IfSome, IsTrue}
use Rattle.std.specs.Option.{option_copied}
use Rattle.std.specs.List.{list_any, AllByRecursion}
use Rattle.std.proofs.lemmas.Bool.{eqb-true, cases_Bool, or_parts, and_left, and_right, eq-eqb}
use Rattle.std.proofs.lemmas.List.Sums.{sum_by-append}
use Rattle.bd_codes.specs.TlvTable.{allows, is_single}
use Rattle.tlvinfo.specs.Identity.{value_of}
use Rattle.tlvinfo.specs.TlvInfo.{Field, count_of, IsField, AreFields}
use Rattle.tlvinfo.specs.Reading.{is_again}

any_none : (p : Field → Bool) (fs : List Field) → list_any p fs ≡ false → count_by p fs ≡ 0
any_none p [] h = refl
any_none p (f ∷ fs) h = let parts = or_parts (p f) (list_any p fs) h in rw (parts.0, any_none p fs parts.1) refl

pub count_by-cons : (p : Field → Bool) (f : Field) (fs : List Field) → count_by p (f ∷ fs) ≡ cond (p f) 1 0 + count_by p fs
count_by-cons p f fs = sum_by-append (λ x. cond (p x) 1 0) (f ∷ []) fs ∙ omega arith

none_any : (p : Field → Bool) (fs : List Field) → count_by p fs ≡ 0 → list_any p fs ≡ false
none_any p [] h = refl
none_any p (f ∷ fs) h =
    let sums = sym (count_by-cons p f fs) ∙ h in
    elim (cases_Bool (p f)) [
      | inl y ↦ absurd (let k : 1 + count_by p fs ≡ 0 = rw y at sums in omega arith)
      | inr n ↦ let k : 0 + count_by p fs ≡ 0 = rw n at sums in rw (n, none_any p fs (omega arith)) refl
    ]

pub AllByRecursion-append : (fs gs : List Field) → AllByRecursion IsField fs → AllByRecursion IsField gs → AllByRecursion IsField (fs ++ gs)
AllByRecursion-append [] gs h k = k
AllByRecursion-append (f ∷ fs) gs h k = (h.0, AllByRecursion-append fs gs h.1 k)

pub AllByRecursion-before : (fs gs : List Field) → AllByRecursion IsField (fs ++ gs) → AllByRecursion IsField fs
AllByRecursion-before [] gs h = tt
AllByRecursion-before (f ∷ fs) gs h = (h.0, AllByRecursion-before fs gs h.1)

pub AllByRecursion-after : (fs gs : List Field) → AllByRecursion IsField (fs ++ gs) → AllByRecursion IsField gs
AllByRecursion-after [] gs h = h
AllByRecursion-after (f ∷ fs) gs h = AllByRecursion-after fs gs h.1

pub count_of-append : (code : ℕ) (fs gs : List Field) → count_of code (fs ++ gs) ≡ count_of code fs + count_of code gs
count_of-append code fs gs = sum_by-append (λ f. cond (eqb f.code code) 1 0) fs gs

pub AreFields-nil : AreFields []
AreFields-nil = record { each = tt; once = λ code single. omega arith }

-- a field more, whose code doesn't stand again
pub AreFields-push : (before : List Field) (f : Field) → AreFields before → IsField f → (is_single f.code ≡ true → list_any (λ g. eqb g.code f.code) before ≡ false) → AreFields (before ++ f ∷ [])
AreFields-push before f good is new = record {
  each = AllByRecursion-append before (f ∷ []) good.each (is, tt);
  once = λ code single. rw (count_of-append code before (f ∷ [])) (elim (cases_Bool (eqb f.code code)) [
    | inl y ↦
        let same : f.code ≡ code = eqb-true f.code code y in
        let zero_before : count_of code before ≡ 0 = rw (← same) (any_none (λ g. eqb g.code f.code) before (new (rw same single))) in
        rw (zero_before, y) (omega arith)
    | inr n ↦ rw n (omega (arith, good.once code single))
  ]);
}

-- in fields that may stand together none stands again
pub is_again-within : (before more : List Field) (f : Field) → AreFields (before ++ f ∷ more) → is_again f.code before ≡ false
is_again-within before more f good =
    elim (cases_Bool (is_single f.code)) [
      | inl y ↦
          let most = good.once f.code y in
          let self : cond {A = ℕ} (eqb f.code f.code) 1 0 ≡ 1 = rw (eq-eqb f.code f.code refl) refl in
          let none : count_of f.code before ≡ 0 = omega (arith, count_of-append f.code before (f ∷ more), count_by-cons (λ g. eqb g.code f.code) f more, self) in
          and_right (is_single f.code) _ (none_any (λ g. eqb g.code f.code) before none)
      | inr n ↦ and_left (is_single f.code) _ n
    ]

-- the value of a code has a length that the code allows
pub value_of-allowed : (code : ℕ) (fs : List Field) (value : List ℕ) → AllByRecursion IsField fs → value_of code fs ≡ Some value → allows code (length value) ≡ true
value_of-allowed code [] value h e = absurd cc
value_of-allowed code (f ∷ fs) value h e =
    elim (cases_Bool (eqb f.code code)) [
      | inl y ↦
          let same : f.code ≡ code = eqb-true f.code code y in
          let is : f.value ≡ value = let k = rw y at e in cc in
          rw (← same, ← is) h.0.allowed
      | inr n ↦ value_of-allowed code fs value h.1 (rw n at e)
    ]

pub IfSome-allowed : (code : ℕ) (fs : List Field) (found : Option (Bor (List ℕ))) → AllByRecursion IsField fs → option_copied found ≡ value_of code fs → IfSome found (λ value. IsTrue (allows code (length value.now)))
IfSome-allowed code fs None h e = tt
IfSome-allowed code fs (Some value) h e = value_of-allowed code fs value.now h (sym e)
