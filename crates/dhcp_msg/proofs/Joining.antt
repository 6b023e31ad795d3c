-- Options that are added one after the other are joined.
use Rattle.std.proofs.Common.{◌≡◌, ℕ, zero, suc, ◌+◌, ◌<◌, ◌≤◌, eqb, true, false, List, [], ◌∷◌, ◌++◌, length, get_or, set, Some, None, refl, sym, ap, ◌∙◌, append_assoc, arith, inl, inr}
use Rattle.std.specs.Prelude.{position, unwrap_or}
use Rattle.std.specs.List.{position_or_len}
use Rattle.std.proofs.lemmas.Bool.{cases_Bool, eq-eqb, eqb-true}
use Rattle.std.proofs.lemmas.List.{append-nil}
use Rattle.std.proofs.lemmas.List.Quantifiers.{position-Some}
use Rattle.dhcp_msg.specs.declared.dhcp_option.DhcpOption.{DhcpOption}
use Rattle.dhcp_msg.specs.Adding.{added, added_all}
use Rattle.dhcp_msg.specs.Options.{value_of, AreDistinct, without, joined}
use Rattle.dhcp_msg.proofs.Lists.{position-none}

-- ---- an option more

value_of-added_same : (o : DhcpOption) (code : ℕ) (os : List DhcpOption) → eqb o.code code ≡ true
    → value_of code (added o os) ≡ Some (unwrap_or (value_of code os) [] ++ o.value)
value_of-added_same o code [] y = rw y refl
value_of-added_same o code (p ∷ os) y =
    let same = eqb-true _ _ y in
    elim (cases_Bool (eqb p.code o.code)) [
      | inl hit ↦ let here : eqb p.code code ≡ true = rw (← same) hit in rw (hit, here) refl
      | inr miss ↦ let here : eqb p.code code ≡ false = rw (← same) miss in rw (miss, here) (value_of-added_same o code os y)
    ]

value_of-added_other : (o : DhcpOption) (code : ℕ) (os : List DhcpOption) → eqb o.code code ≡ false → value_of code (added o os) ≡ value_of code os
value_of-added_other o code [] n = rw n refl
value_of-added_other o code (p ∷ os) n =
    elim (cases_Bool (eqb p.code o.code)) [
      | inl hit ↦ let other : eqb p.code code ≡ false = rw (eqb-true _ _ hit) n in rw (hit, other) refl
      | inr miss ↦ rw (miss, value_of-added_other o code os n) refl
    ]

without-added_same : (o : DhcpOption) (code : ℕ) (os : List DhcpOption) → eqb o.code code ≡ true → without code (added o os) ≡ without code os
without-added_same o code [] y = rw y refl
without-added_same o code (p ∷ os) y =
    elim (cases_Bool (eqb p.code o.code)) [
      | inl hit ↦ let here : eqb p.code code ≡ true = rw (eqb-true _ _ hit) y in rw (hit, here) refl
      | inr miss ↦ let here : eqb p.code code ≡ false = rw (← eqb-true _ _ y) miss in rw (miss, here, without-added_same o code os y) refl
    ]

without-added_other : (o : DhcpOption) (code : ℕ) (os : List DhcpOption) → eqb o.code code ≡ false → without code (added o os) ≡ added o (without code os)
without-added_other o code [] n = rw n refl
without-added_other o code (p ∷ os) n =
    elim (cases_Bool (eqb p.code o.code)) [
      | inl hit ↦ let other : eqb p.code code ≡ false = rw (eqb-true _ _ hit) n in rw (hit, other, hit) refl
      | inr miss ↦
          elim (cases_Bool (eqb p.code code)) [
            | inl here ↦ rw (miss, here, without-added_other o code os n) refl
            | inr other ↦ rw (miss, other, miss, without-added_other o code os n) refl
          ]
    ]

-- ---- joined options

joined-push : (os : List DhcpOption) (o : DhcpOption) → joined (os ++ o ∷ []) ≡ added o (joined os)
joined-push [] o = rw (append-nil o.value) refl
joined-push (p ∷ os) o =
    let js = joined os in
    let v = unwrap_or (value_of p.code js) [] in
    rw (joined-push os o) (elim (cases_Bool (eqb p.code o.code)) [
      | inl hit ↦
          let same : eqb o.code p.code ≡ true = eq-eqb _ _ (sym (eqb-true _ _ hit)) in
          rw (value_of-added_same o p.code js same, without-added_same o p.code js same, hit) (ap (λ (x : List ℕ). record { code = p.code; value = x } ∷ without p.code js) (sym (append_assoc p.value v o.value)))
      | inr miss ↦
          let other : eqb o.code p.code ≡ false = eqb-flip p.code o.code miss in
          rw (value_of-added_other o p.code js other, without-added_other o p.code js other, miss) refl
    ])
  where
    eqb-flip : (a b : ℕ) → eqb a b ≡ false → eqb b a ≡ false
    eqb-flip a b n = elim (cases_Bool (eqb b a)) [ inl y ↦ absurd (let e : eqb a b ≡ true = eq-eqb _ _ (sym (eqb-true _ _ y)) in cc) | inr m ↦ m ]

pub joined-added_all : (os before : List DhcpOption) → added_all os (joined before) ≡ joined (before ++ os)
joined-added_all [] before = ap joined (sym (append-nil before))
joined-added_all (o ∷ os) before =
    ap (added_all os) (sym (joined-push before o)) ∙ joined-added_all os (before ++ o ∷ []) ∙ ap joined (append_assoc before (o ∷ []) os)

pub added_all-append : (xs ys before : List DhcpOption) → added_all (xs ++ ys) before ≡ added_all ys (added_all xs before)
added_all-append [] ys before = refl
added_all-append (x ∷ xs) ys before = added_all-append xs ys (added x before)

-- ---- one of each code

pub AreDistinct-added : (o : DhcpOption) (os : List DhcpOption) → AreDistinct os → AreDistinct (added o os)
AreDistinct-added o [] d = (refl, tt)
AreDistinct-added o (p ∷ os) d =
    elim (cases_Bool (eqb p.code o.code)) [
      | inl hit ↦ rw hit d
      | inr miss ↦
          let other : eqb o.code p.code ≡ false = elim (cases_Bool (eqb o.code p.code)) [ inl y ↦ absurd (let e : eqb p.code o.code ≡ true = eq-eqb _ _ (sym (eqb-true _ _ y)) in cc) | inr m ↦ m ] in
          rw miss (value_of-added_other o p.code os other ∙ d.0, AreDistinct-added o os d.1)
    ]

-- a new code goes into the last place
pub added-new : (o : DhcpOption) (os : List DhcpOption) → value_of o.code os ≡ None → added o os ≡ os ++ o ∷ []
added-new o [] none = refl
added-new o (p ∷ os) none =
    elim (cases_Bool (eqb p.code o.code)) [
      | inl hit ↦ absurd (let e = rw hit at none in cc)
      | inr miss ↦ rw (miss, added-new o os (rw miss at none)) refl
    ]

pub AreDistinct-push : (o : DhcpOption) (os : List DhcpOption) → AreDistinct os → value_of o.code os ≡ None → AreDistinct (os ++ o ∷ [])
AreDistinct-push o os d none = rw (← added-new o os none) (AreDistinct-added o os d)

-- ---- by places

added-place : (o : DhcpOption) (os : List DhcpOption) (k : ℕ) (d : DhcpOption) → k < length os → eqb (get_or os k d).code o.code ≡ true
    → ((j : ℕ) → j < k → eqb (get_or os j d).code o.code ≡ false)
    → added o os ≡ set os k (record { code = (get_or os k d).code; value = (get_or os k d).value ++ o.value })
added-place o [] k d lt here before = absurd (omega arith)
added-place o (p ∷ os) zero d lt here before = rw here refl
added-place o (p ∷ os) (suc k) d lt here before =
    rw (before 0 (omega arith), added-place o os k d (omega arith) here (λ j less. before (suc j) (omega arith))) refl

-- an option whose code stands at a place
pub added-some : (o : DhcpOption) (os : List DhcpOption) (k : ℕ) (d : DhcpOption) → position (λ e. eqb e.code o.code) os ≡ Some k
    → added o os ≡ set os k (record { code = (get_or os k d).code; value = (get_or os k d).value ++ o.value })
added-some o os k d e =
    let at = position-Some (λ (p : DhcpOption). eqb p.code o.code) os k d e in
    added-place o os k d at.0 at.1 at.2

added-past : (o : DhcpOption) (os : List DhcpOption) → length os ≤ position_or_len (λ e. eqb e.code o.code) os → added o os ≡ os ++ o ∷ []
added-past o [] h = refl
added-past o (p ∷ os) h =
    elim (cases_Bool (eqb p.code o.code)) [
      | inl hit ↦ absurd (let k : suc (length os) ≤ 0 = rw hit at h in omega arith)
      | inr miss ↦ let k : suc (length os) ≤ 1 + position_or_len (λ (e : DhcpOption). eqb e.code o.code) os = rw miss at h in rw (miss, added-past o os (omega arith)) refl
    ]

-- an option whose code stands nowhere
pub added-none : (o : DhcpOption) (os : List DhcpOption) → position (λ e. eqb e.code o.code) os ≡ None → added o os ≡ os ++ o ∷ []
added-none o os e = added-past o os (position-none (λ (p : DhcpOption). eqb p.code o.code) os e)

-- an option whose code stands at a place has its value there
pub added-written : (o e : DhcpOption) (os : List DhcpOption) (k : ℕ) (v : List ℕ) → position (λ p. eqb p.code o.code) os ≡ Some k → e ≡ get_or os k e → v ≡ e.value ++ o.value
    → set os k (record { code = e.code; value = v }) ≡ added o os
added-written o e os k v at read is =
    sym (added-some o os k e at ∙ ap (λ (p : DhcpOption). set os k (record { code = p.code; value = p.value ++ o.value })) (sym read) ∙ ap (λ (w : List ℕ). set os k (record { code = e.code; value = w })) (sym is))
