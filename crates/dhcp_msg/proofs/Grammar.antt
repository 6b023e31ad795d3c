-- A field is read exactly where it holds options.
use Rattle.std.proofs.Common.{◌≡◌, ℕ, zero, suc, ◌+◌, ◌≤◌, eqb, ltb, false, List, [], ◌∷◌, ◌++◌, length, take, drop, Option, Some, None, Result, Ok, Err, refl, sym, ap, subst, ◌∙◌, length-drop, length-take, length-append, take-append-drop, arith, inl, inr}
use Rattle.std.proofs.lemmas.Bool.{cases_Bool, eqb-true, eqb-false, ltb-false, le-ltb, ne_eqb}
use Rattle.std.proofs.lemmas.List.{take_at, drop_at}
use Rattle.dhcp_msg.specs.declared.fault.DhcpFault.{DhcpFault}
use Rattle.dhcp_msg.specs.declared.dhcp_option.DhcpOption.{DhcpOption}
use Rattle.dhcp_msg.specs.Fields.{option_bytes, IsOption, Holds, nothing, end, pad, option}
use Rattle.dhcp_msg.specs.Reading.{◌>>=◌, value_at, option_of, options_at, options_in}
use Rattle.dhcp_msg.proofs.Steps.{Stands, options_at-option}

-- the value of a step that found no fault
pub bind_ok : {A B : Type 0} (r : Result A DhcpFault) (f : A → Result B DhcpFault) (y : B) → (r >>= f) ≡ Ok y → (x : A) × (r ≡ Ok x) × (f x ≡ Ok y)
bind_ok (Ok x) f y e = (x, refl, e)
bind_ok (Err d) f y e = absurd cc

abbrev found : {A : Type 0} → A → Result A DhcpFault
found x = Ok x

pub ok-injective : {A : Type 0} (x y : A) → found x ≡ found y → x ≡ y
ok-injective x y e = cc

-- ---- what is read is held

-- a value that stands whole
record Whole (rest value : List ℕ) : Type 0 where
  is : rest ≡ length value ∷ (value ++ drop (1 + length value) rest)

value_whole : (rest value : List ℕ) → value_at rest ≡ Some value → Whole rest value
value_whole [] value e = absurd cc
value_whole (size ∷ rest) value e =
    elim (cases_Bool (ltb (length rest) size)) [
      | inl y ↦ absurd (let k = rw y at e in cc)
      | inr n ↦
          let same : take size rest ≡ value = let k = rw n at e in cc in
          let long : size ≤ length rest = ltb-false _ _ n in
          let len : length value ≡ size = omega (arith, ap length same, length-take size rest) in
          let split : rest ≡ value ++ drop size rest = sym (take-append-drop size rest) ∙ ap (λ (v : List ℕ). v ++ drop size rest) same in
          let step : 1 + length value ≡ suc size = omega (arith, len) in
          record { is = rw (step, len) (ap (λ (r : List ℕ). size ∷ r) split) }
    ]

option_whole : (place code : ℕ) (rest : List ℕ) (o : DhcpOption) → option_of place code (value_at rest) ≡ Ok o → (o.code ≡ code) × Whole rest o.value
option_whole place code rest o e = cases (value_at rest) refl e
  where
    cases : (v : Option (List ℕ)) → value_at rest ≡ v → option_of place code v ≡ Ok o → (o.code ≡ code) × Whole rest o.value
    cases None is read = absurd cc
    cases (Some value) is read =
        let same : record { code = code; value = value } ≡ o = ok-injective _ _ read in
        subst (λ (p : DhcpOption). (p.code ≡ code) × Whole rest p.value) same (refl, value_whole rest value is)

pub Holds-read : (steps place : ℕ) (left : List ℕ) (os : List DhcpOption) → length left ≤ steps → options_at steps place left ≡ Ok os → Holds left os
unfolding options_at
Holds-read steps place [] os h e = subst (Holds []) (ok-injective [] os e) nothing
Holds-read zero place (code ∷ rest) os h e = absurd (omega arith)
Holds-read (suc steps) place (code ∷ rest) os h e =
    elim (cases_Bool (eqb code 255)) [
      | inl y ↦
          let none : [] ≡ os = ok-injective [] os (rw y at e) in
          let is : code ≡ 255 = eqb-true _ _ y in
          subst (Holds (code ∷ rest)) none (subst (λ (n : ℕ). Holds (n ∷ rest) []) (sym is) (end rest))
      | inr n ↦
          elim (cases_Bool (eqb code 0)) [
            | inl y ↦
                let is : code ≡ 0 = eqb-true _ _ y in
                subst (λ (n : ℕ). Holds (n ∷ rest) os) (sym is) (pad rest os (Holds-read steps (place + 1) rest os (omega arith) (rw (n, y) at e)))
            | inr m ↦
                let b = bind_ok (option_of place code (value_at rest)) _ os (rw (n, m) at e) in
                let o = b.0 in
                let after = drop (1 + length o.value) rest in
                let d = bind_ok (options_at steps (place + (2 + length o.value)) after) _ os b.2 in
                let known = option_whole place code rest o b.1 in
                let all : o ∷ d.0 ≡ os = ok-injective _ _ d.2 in
                let good : IsOption o = record { no_pad = rw known.0 (eqb-false _ _ m); no_end = rw known.0 (eqb-false _ _ n) } in
                let more = Holds-read steps (place + (2 + length o.value)) after d.0 (omega (arith, length-drop (1 + length o.value) rest)) d.1 in
                let stands : option_bytes o ++ after ≡ code ∷ rest = rw known.0 (ap (λ (r : List ℕ). code ∷ r) (sym known.1.is)) in
                subst (Holds (code ∷ rest)) all (subst (λ (l : List ℕ). Holds l (o ∷ d.0)) stands (option o after d.0 good more))
          ]
    ]

-- ---- what is held is read

value_at-value : (value rest : List ℕ) → value_at (length value ∷ (value ++ rest)) ≡ Some value
value_at-value value rest =
    let long : ltb (length (value ++ rest)) (length value) ≡ false = le-ltb _ _ (omega (arith, length-append value rest)) in
    rw (long, take_at value rest (length value) refl) refl

pub reads_held : {field : List ℕ} {os : List DhcpOption} → Holds field os → (steps place : ℕ) → length field ≤ steps → options_at steps place field ≡ Ok os
unfolding options_at
reads_held nothing steps place h = refl
reads_held (end rest) zero place h = absurd (omega arith)
reads_held (end rest) (suc steps) place h = refl
reads_held (pad rest os r) zero place h = absurd (omega arith)
reads_held (pad rest os r) (suc steps) place h = reads_held r steps (place + 1) (omega arith)
reads_held (option o rest os is r) zero place h = absurd (omega arith)
reads_held (option o rest os is r) (suc steps) place h =
    let behind : drop (1 + length o.value) (length o.value ∷ (o.value ++ rest)) ≡ rest = drop_at (length o.value ∷ o.value) rest (1 + length o.value) (omega arith) in
    let stands : Stands (option_bytes o ++ rest) o.code (length o.value ∷ (o.value ++ rest)) = record { is = refl; no_end = ne_eqb _ _ is.no_end } in
    options_at-option steps place (option_bytes o ++ rest) o.code (length o.value ∷ (o.value ++ rest)) o.value stands is.no_pad (value_at-value o.value rest)
    ∙ rw behind (rw (reads_held r steps (place + (2 + length o.value)) (omega (arith, h, length-append o.value rest))) refl)

pub Holds-from_read : (place : ℕ) (field : List ℕ) (os : List DhcpOption) → options_in place field ≡ Ok os → Holds field os
unfolding options_in
Holds-from_read place field os e = Holds-read (length field) place field os (omega arith) e

pub read-from_Holds : (place : ℕ) (field : List ℕ) (os : List DhcpOption) → Holds field os → options_in place field ≡ Ok os
unfolding options_in
read-from_Holds place field os h = reads_held h (length field) place (omega arith)
