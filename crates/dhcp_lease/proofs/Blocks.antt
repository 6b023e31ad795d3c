-- A search over sub-options and blocks.
use Rattle.std.proofs.Common.{◌≡◌, ℕ, zero, suc, ◌+◌, ◌≤◌, ◌<◌, eqb, ltb, true, false, List, [], ◌∷◌, ◌++◌, length, take, drop, get_or, Option, Some, None, refl, sym, ap, ◌∙◌, append_assoc, length-drop, arith, inl, inr}
use Rattle.std.specs.Option.{option_and_then, option_or}
use Rattle.std.proofs.lemmas.Bool.{cases_Bool, cases_lt, le-ltb, lt-ltb}
use Rattle.std.proofs.lemmas.List.{append-nil}
use Rattle.byteorder.specs.Endian.{big_number}
use Rattle.dhcp_msg.specs.declared.dhcp_option.DhcpOption.{DhcpOption}
use Rattle.dhcp_msg.specs.Options.{value_of}
use Rattle.dhcp_msg.specs.Reading.{value_at}
use Rattle.dhcp_lease.specs.Vendor.{followed_by, suboptions_at, block_options, vendor_at}

-- ---- what follows

followed_by-nil : (w : Option (List DhcpOption)) → followed_by (Some []) w ≡ w
followed_by-nil None = refl
followed_by-nil (Some os) = refl

followed_by-twice : (before os : List DhcpOption) (more : Option (List DhcpOption)) → followed_by (Some before) (followed_by (Some os) more) ≡ followed_by (Some (before ++ os)) more
followed_by-twice before os None = refl
followed_by-twice before os (Some rest) = ap (λ (l : List DhcpOption). Some l) (sym (append_assoc before os rest))

value_of-append : (code : ℕ) (xs ys : List DhcpOption) → value_of code (xs ++ ys) ≡ option_or (value_of code xs) (value_of code ys)
value_of-append code [] ys = refl
value_of-append code (x ∷ xs) ys =
    elim (cases_Bool (eqb x.code code)) [
      | inl y ↦ rw y refl
      | inr n ↦ rw n (value_of-append code xs ys)
    ]

-- what was read so far and what is left make the whole, and the first value of the code so far was found
pub record Along (code : ℕ) (whole rest : Option (List DhcpOption)) (found : Option (List ℕ)) : Type 0 where
  pub before : List DhcpOption
  pub goes_on : followed_by (Some before) rest ≡ whole
  pub first : found ≡ value_of code before

pub Along-first : (code : ℕ) (whole : Option (List DhcpOption)) → Along code whole whole None
Along-first code whole = record { before = []; goes_on = followed_by-nil whole; first = refl }

pub Along-more : (code : ℕ) (whole rest more : Option (List DhcpOption)) (found now : Option (List ℕ)) (os : List DhcpOption) → Along code whole rest found → rest ≡ followed_by (Some os) more → now ≡ option_or found (value_of code os)
    → Along code whole more now
Along-more code whole rest more found now os a is next = record {
  before = a.before ++ os;
  goes_on = sym (followed_by-twice a.before os more) ∙ ap (followed_by (Some a.before)) (sym is) ∙ a.goes_on;
  first = next ∙ ap (λ (f : Option (List ℕ)). option_or f (value_of code os)) a.first ∙ sym (value_of-append code a.before os);
}

pub Along-none : (code : ℕ) (whole rest : Option (List DhcpOption)) (found : Option (List ℕ)) → Along code whole rest found → rest ≡ None → whole ≡ None
Along-none code whole rest found a none = sym a.goes_on ∙ ap (followed_by (Some a.before)) none

pub Along-end : (code : ℕ) (whole rest : Option (List DhcpOption)) (found : Option (List ℕ)) → Along code whole rest found → rest ≡ Some [] → (os : List DhcpOption) × (whole ≡ Some os) × (found ≡ value_of code os)
Along-end code whole rest found a end =
    (a.before ++ [], sym a.goes_on ∙ ap (followed_by (Some a.before)) end, a.first ∙ ap (value_of code) (sym (append-nil a.before)))

bind_same : {A B : Type 0} (o : Option A) (f g : A → Option B) → ((x : A) → f x ≡ g x) → option_and_then f o ≡ option_and_then g o
bind_same None f g h = refl
bind_same (Some x) f g h = h x

-- ---- the front of what is left

pub first_byte : (left : List ℕ) → get_or (take 1 left) 0 0 ≡ get_or left 0 0
first_byte [] = refl
first_byte (x ∷ xs) = refl

-- where a read of four bytes found enough
pub four_left : (n : ℕ) → (n < 4 → false ≡ true) → 4 ≤ n
four_left n enough =
    elim (cases_lt n 4) [
      | inl lt ↦ absurd (let e : false ≡ true = enough lt in cc)
      | inr ge ↦ ge
    ]

-- ---- sub-options

suboptions_at-enough : (s t : ℕ) (left : List ℕ) → length left ≤ s → length left ≤ t → suboptions_at s left ≡ suboptions_at t left
unfolding suboptions_at
suboptions_at-enough s t [] h k = refl
suboptions_at-enough zero t (code ∷ rest) h k = absurd (omega arith)
suboptions_at-enough (suc s) zero (code ∷ rest) h k = absurd (omega arith)
suboptions_at-enough (suc s) (suc t) (code ∷ rest) h k =
    bind_same (value_at rest) _ _ (λ value. ap (followed_by (Some (record { code = code; value = value } ∷ [])))
    (suboptions_at-enough s t (drop (1 + length value) rest) (omega (arith, length-drop (1 + length value) rest)) (omega (arith, length-drop (1 + length value) rest))))

pub suboptions-end : (left : List ℕ) → length left ≡ 0 → suboptions_at (length left) left ≡ Some []
unfolding suboptions_at
suboptions-end [] e = refl
suboptions-end (x ∷ xs) e = absurd (omega arith)

pub suboptions-none : (left : List ℕ) → 0 < length left → value_at (drop 1 left) ≡ None → suboptions_at (length left) left ≡ None
unfolding suboptions_at
suboptions-none [] some e = absurd (omega arith)
suboptions-none (code ∷ rest) some e = rw e refl

pub suboptions-step : (left : List ℕ) (code : ℕ) (value after : List ℕ) → 0 < length left → code ≡ get_or left 0 0 → value_at (drop 1 left) ≡ Some value → after ≡ drop (1 + length value) (drop 1 left)
    → suboptions_at (length left) left ≡ followed_by (Some (record { code = code; value = value } ∷ [])) (suboptions_at (length after) after)
unfolding suboptions_at
suboptions-step [] code value after some is e behind = absurd (omega arith)
suboptions-step (c ∷ rest) code value after some is e behind =
    let shorter : length after ≤ length rest = omega (arith, ap length behind, length-drop (1 + length value) rest) in
    rw (e, ← is, ← behind) (ap (followed_by (Some (record { code = code; value = value } ∷ []))) (suboptions_at-enough (length rest) (length after) after shorter (omega arith)))

-- ---- blocks

vendor_at-enough : (s t : ℕ) (left : List ℕ) → length left ≤ s → length left ≤ t → vendor_at s left ≡ vendor_at t left
unfolding vendor_at
vendor_at-enough s t [] h k = refl
vendor_at-enough zero t (b ∷ rest) h k = absurd (omega arith)
vendor_at-enough (suc s) zero (b ∷ rest) h k = absurd (omega arith)
vendor_at-enough (suc s) (suc t) (b ∷ rest) h k =
    elim (cases_Bool (ltb (length rest) 3)) [
      | inl y ↦ rw y refl
      | inr n ↦ rw n (bind_same (value_at (drop 3 rest)) _ _ (λ inner. ap (followed_by (block_options (big_number 4 (b ∷ rest)) inner))
          (vendor_at-enough s t (drop (1 + length inner) (drop 3 rest)) (omega (arith, length-drop (1 + length inner) (drop 3 rest), length-drop 3 rest)) (omega (arith, length-drop (1 + length inner) (drop 3 rest), length-drop 3 rest)))))
    ]

pub vendor-end : (left : List ℕ) → length left ≡ 0 → vendor_at (length left) left ≡ Some []
unfolding vendor_at
vendor-end [] e = refl
vendor-end (x ∷ xs) e = absurd (omega arith)

-- too few bytes for an enterprise number
pub vendor-short : (left : List ℕ) → 0 < length left → length left < 4 → vendor_at (length left) left ≡ None
unfolding vendor_at
vendor-short [] some short = absurd (omega arith)
vendor-short (b ∷ rest) some short = let y : ltb (length rest) 3 ≡ true = lt-ltb _ _ (omega arith) in rw y refl

pub vendor-none : (left : List ℕ) → 4 ≤ length left → value_at (drop 4 left) ≡ None → vendor_at (length left) left ≡ None
unfolding vendor_at
vendor-none [] long e = absurd (omega arith)
vendor-none (b ∷ rest) long e = let n : ltb (length rest) 3 ≡ false = le-ltb _ _ (omega arith) in rw (n, e) refl

-- a block whose own sub-options can't be read
pub vendor-refused : (left inner : List ℕ) → 4 ≤ length left → value_at (drop 4 left) ≡ Some inner → block_options (big_number 4 left) inner ≡ None → vendor_at (length left) left ≡ None
unfolding vendor_at
vendor-refused [] inner long e none = absurd (omega arith)
vendor-refused (b ∷ rest) inner long e none = let n : ltb (length rest) 3 ≡ false = le-ltb _ _ (omega arith) in rw (n, e, none) refl

pub vendor-step : (left inner after : List ℕ) (os : List DhcpOption) → 4 ≤ length left → value_at (drop 4 left) ≡ Some inner → block_options (big_number 4 left) inner ≡ Some os → after ≡ drop (1 + length inner) (drop 4 left)
    → vendor_at (length left) left ≡ followed_by (Some os) (vendor_at (length after) after)
unfolding vendor_at
vendor-step [] inner after os long e some behind = absurd (omega arith)
vendor-step (b ∷ rest) inner after os long e some behind =
    let n : ltb (length rest) 3 ≡ false = le-ltb _ _ (omega arith) in
    let shorter : length after ≤ length rest = omega (arith, ap length behind, length-drop (1 + length inner) (drop 3 rest), length-drop 3 rest) in
    rw (n, e, some, ← behind) (ap (followed_by (Some os)) (vendor_at-enough (length rest) (length after) after shorter (omega arith)))
