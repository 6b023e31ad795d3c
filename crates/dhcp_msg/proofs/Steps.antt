-- Reading a field, an option at a time.
use Rattle.std.proofs.Common.{◌≡◌, ◌≢◌, ℕ, zero, suc, ◌+◌, ◌≤◌, eqb, false, List, [], ◌∷◌, ◌++◌, length, drop, Some, None, Result, Ok, Err, refl, ap, append_assoc, length-drop, arith, inl, inr}
use Rattle.std.proofs.lemmas.Bool.{cases_Bool, ne_eqb}
use Rattle.dhcp_msg.specs.declared.fault.DhcpFault.{DhcpFault}
use Rattle.dhcp_msg.specs.declared.fault.DhcpFault.TheVariants as faults
use Rattle.dhcp_msg.specs.declared.dhcp_option.DhcpOption.{DhcpOption}
use Rattle.dhcp_msg.specs.Reading.{◌>>=◌, value_at, option_of, options_at}
use Rattle.dhcp_msg.specs.Steps.{code_at}

-- ---- what follows

abbrev pub with_front : List DhcpOption → Result (List DhcpOption) DhcpFault → Result (List DhcpOption) DhcpFault
with_front front read = read >>= λ os. Ok (front ++ os)

pub with_front-nil : (read : Result (List DhcpOption) DhcpFault) → with_front [] read ≡ read
with_front-nil (Ok os) = refl
with_front-nil (Err fault) = refl

pub with_front-cons : (before : List DhcpOption) (o : DhcpOption) (read : Result (List DhcpOption) DhcpFault) → with_front (before ++ o ∷ []) read ≡ with_front before (read >>= λ os. Ok (o ∷ os))
with_front-cons before o (Ok os) = ap (λ (l : List DhcpOption). Ok l) (append_assoc before (o ∷ []) os)
with_front-cons before o (Err fault) = refl

-- ---- one step

pub options_at-end : (steps place : ℕ) (left : List ℕ) → code_at left ≡ None → options_at steps place left ≡ Ok []
unfolding options_at
options_at-end steps place [] e = refl
options_at-end zero place (code ∷ rest) e = refl
options_at-end (suc steps) place (code ∷ rest) e =
    elim (cases_Bool (eqb code 255)) [
      | inl y ↦ rw y refl
      | inr n ↦ absurd (let k = rw n at e in cc)
    ]

-- a code that stands next
pub record Stands (left : List ℕ) (code : ℕ) (rest : List ℕ) : Type 0 where
  pub is : left ≡ code ∷ rest
  pub no_end : eqb code 255 ≡ false

pub Stands-from : (left : List ℕ) (code : ℕ) → code_at left ≡ Some code → Stands left code (drop 1 left)
Stands-from [] code e = absurd cc
Stands-from (c ∷ rest) code e =
    elim (cases_Bool (eqb c 255)) [
      | inl y ↦ absurd (let k = rw y at e in cc)
      | inr n ↦ let same : c ≡ code = let k = rw n at e in cc in record { is = ap (λ (x : ℕ). x ∷ rest) same; no_end = rw (← same) n }
    ]

pub options_at-pad : (steps place : ℕ) (left : List ℕ) (code : ℕ) (rest : List ℕ) → Stands left code rest → code ≡ 0 → options_at (suc steps) place left ≡ options_at steps (place + 1) rest
unfolding options_at
options_at-pad steps place left code rest s e = rw (s.is, s.no_end, e) refl

pub options_at-cut : (steps place : ℕ) (left : List ℕ) (code : ℕ) (rest : List ℕ) → Stands left code rest → code ≢ 0 → value_at rest ≡ None → options_at (suc steps) place left ≡ Err (faults.Cut place)
unfolding options_at
options_at-cut steps place left code rest s ne none = rw (s.is, s.no_end, ne_eqb _ _ ne, none) refl

pub options_at-option : (steps place : ℕ) (left : List ℕ) (code : ℕ) (rest value : List ℕ) → Stands left code rest → code ≢ 0 → value_at rest ≡ Some value
    → options_at (suc steps) place left ≡ (options_at steps (place + (2 + length value)) (drop (1 + length value) rest) >>= λ os. Ok (record { code = code; value = value } ∷ os))
unfolding options_at
options_at-option steps place left code rest value s ne some = rw (s.is, s.no_end, ne_eqb _ _ ne, some) refl

bind_same : {A B : Type 0} (r : Result A DhcpFault) (f g : A → Result B DhcpFault) → ((x : A) → f x ≡ g x) → (r >>= f) ≡ (r >>= g)
bind_same (Ok x) f g h = h x
bind_same (Err fault) f g h = refl

-- ---- as many steps as bytes suffice

pub options_at-enough : (s t place : ℕ) (left : List ℕ) → length left ≤ s → length left ≤ t → options_at s place left ≡ options_at t place left
unfolding options_at
options_at-enough s t place [] h k = refl
options_at-enough zero t place (code ∷ rest) h k = absurd (omega arith)
options_at-enough (suc s) zero place (code ∷ rest) h k = absurd (omega arith)
options_at-enough (suc s) (suc t) place (code ∷ rest) h k =
    elim (cases_Bool (eqb code 255)) [
      | inl y ↦ rw y refl
      | inr n ↦
          elim (cases_Bool (eqb code 0)) [
            | inl y ↦ rw (n, y) (options_at-enough s t (place + 1) rest (omega arith) (omega arith))
            | inr m ↦ rw (n, m) (bind_same (option_of place code (value_at rest)) _ _ (λ o. ap (λ (r : Result (List DhcpOption) DhcpFault). r >>= λ os. Ok (o ∷ os))
                (options_at-enough s t (place + (2 + length o.value)) (drop (1 + length o.value) rest) (omega (arith, length-drop (1 + length o.value) rest)) (omega (arith, length-drop (1 + length o.value) rest)))))
          ]
    ]

-- the fault of an option whose code stands at a place
abbrev pub cut_at : ℕ → Result (List DhcpOption) DhcpFault
cut_at place = Err (faults.Cut place)
