-- What the loop over a field keeps.
use Rattle.std.proofs.Common.{◌≡◌, ◌≢◌, ℕ, suc, ◌+◌, ◌≤◌, Bool, true, false, List, [], ◌∷◌, ◌++◌, length, drop, Some, None, Result, Ok, Err, refl, sym, ap, ◌∙◌, length-drop, arith}
use Rattle.std.proofs.lemmas.List.Elements.{filter-append}
use Rattle.dhcp_msg.specs.declared.fault.DhcpFault.{DhcpFault}
use Rattle.dhcp_msg.specs.declared.fault.DhcpFault.TheVariants as faults
use Rattle.dhcp_msg.specs.declared.dhcp_option.DhcpOption.{DhcpOption}
use Rattle.dhcp_msg.specs.Adding.{added_all, counted}
use Rattle.dhcp_msg.specs.Reading.{◌>>=◌, value_at, options_at, options_in}
use Rattle.dhcp_msg.specs.Steps.{code_at}
use Rattle.dhcp_msg.proofs.Joining.{added_all-append}
use Rattle.dhcp_msg.proofs.Steps.{with_front, with_front-nil, with_front-cons, Stands-from, options_at-end, options_at-pad, options_at-cut, options_at-option, options_at-enough}

counted-append : (is_overloaded : Bool) (xs ys : List DhcpOption) → counted is_overloaded (xs ++ ys) ≡ counted is_overloaded xs ++ counted is_overloaded ys
counted-append true xs ys = filter-append _ xs ys
counted-append false xs ys = refl

-- reading on from a place of the field gives what reading all of it gives, and what was read so far was added
pub record Along (is_overloaded : Bool) (place : ℕ) (field : List ℕ) (old : List DhcpOption) (passed : ℕ) (left : List ℕ) (now : List DhcpOption) : Type 0 where
  pub before : List DhcpOption
  pub inside : passed + length left ≡ length field
  pub goes_on : with_front before (options_at (length left) (place + passed) left) ≡ options_in place field
  pub added : now ≡ added_all (counted is_overloaded before) old

pub Along-first : (is_overloaded : Bool) (place : ℕ) (field : List ℕ) (old : List DhcpOption) → Along is_overloaded place field old 0 field old
unfolding options_in
Along-first is_overloaded place field old = record {
  before = [];
  inside = omega arith;
  goes_on = with_front-nil _ ∙ (let same : place + 0 ≡ place = omega arith in ap (λ (n : ℕ). options_at (length field) n field) same);
  added = none is_overloaded;
}
  where
    none : (b : Bool) → old ≡ added_all (counted b []) old
    none true = refl
    none false = refl

-- the steps that are left for what is left
one_less : (left rest : List ℕ) (code : ℕ) → left ≡ code ∷ rest → length left ≡ suc (length rest)
one_less left rest code e = ap length e

pub Along-pad : (is_overloaded : Bool) (place : ℕ) (field : List ℕ) (old : List DhcpOption) (passed : ℕ) (left : List ℕ) (now : List DhcpOption) (code : ℕ)
    → Along is_overloaded place field old passed left now → code_at left ≡ Some code → code ≡ 0 → Along is_overloaded place field old (passed + 1) (drop 1 left) now
Along-pad is_overloaded place field old passed left now code a next pad =
    let stands = Stands-from left code next in
    let rest = drop 1 left in
    let long = one_less left rest code stands.is in
    let sum : place + passed + 1 ≡ place + (passed + 1) = omega arith in
    record {
      before = a.before;
      inside = omega (arith, long, a.inside);
      goes_on = ap (with_front a.before) (
          ap (λ (n : ℕ). options_at (length rest) n rest) (sym sum)
          ∙ sym (options_at-pad (length rest) (place + passed) left code rest stands pad)
          ∙ ap (λ (n : ℕ). options_at n (place + passed) left) (sym long)
          ) ∙ a.goes_on;
      added = a.added;
    }

pub Along-option : (is_overloaded : Bool) (place : ℕ) (field : List ℕ) (old : List DhcpOption) (passed : ℕ) (left : List ℕ) (now : List DhcpOption) (code : ℕ) (value : List ℕ) (then : List DhcpOption)
    → Along is_overloaded place field old passed left now → code_at left ≡ Some code → code ≢ 0 → value_at (drop 1 left) ≡ Some value → 1 + length value ≤ length (drop 1 left)
    → then ≡ added_all (counted is_overloaded (record { code = code; value = value } ∷ [])) now
    → Along is_overloaded place field old (passed + 1 + (1 + length value)) (drop (1 + length value) (drop 1 left)) then
Along-option is_overloaded place field old passed left now code value then a next some found fits more =
    let stands = Stands-from left code next in
    let rest = drop 1 left in
    let o : DhcpOption = record { code = code; value = value } in
    let after = drop (1 + length value) rest in
    let long = one_less left rest code stands.is in
    let sum : place + passed + (2 + length value) ≡ place + (passed + 1 + (1 + length value)) = omega arith in
    record {
      before = a.before ++ o ∷ [];
      inside = omega (arith, long, a.inside, fits, length-drop (1 + length value) rest);
      goes_on =
          with_front-cons a.before o _
          ∙ ap (λ (r : Result (List DhcpOption) DhcpFault). with_front a.before (r >>= λ os. Ok (o ∷ os))) (
          options_at-enough (length after) (length rest) _ after (omega arith) (omega (arith, length-drop (1 + length value) rest))
          ∙ ap (λ (n : ℕ). options_at (length rest) n after) (sym sum)
          )
          ∙ ap (with_front a.before) (sym (options_at-option (length rest) (place + passed) left code rest value stands some found) ∙ ap (λ (n : ℕ). options_at n (place + passed) left) (sym long))
          ∙ a.goes_on;
      added = more ∙ ap (added_all (counted is_overloaded (o ∷ []))) a.added ∙ sym (added_all-append (counted is_overloaded a.before) (counted is_overloaded (o ∷ [])) old) ∙ ap (λ (l : List DhcpOption). added_all l old) (sym (counted-append is_overloaded a.before (o ∷ [])));
    }

pub Along-cut : (is_overloaded : Bool) (place : ℕ) (field : List ℕ) (old : List DhcpOption) (passed : ℕ) (left : List ℕ) (now : List DhcpOption) (code : ℕ)
    → Along is_overloaded place field old passed left now → code_at left ≡ Some code → code ≢ 0 → value_at (drop 1 left) ≡ None → options_in place field ≡ Err (faults.Cut (place + passed))
Along-cut is_overloaded place field old passed left now code a next some none =
    let stands = Stands-from left code next in
    let rest = drop 1 left in
    sym a.goes_on ∙ ap (with_front a.before) (ap (λ (n : ℕ). options_at n (place + passed) left) (one_less left rest code stands.is) ∙ options_at-cut (length rest) (place + passed) left code rest stands some none)

pub Along-end : (is_overloaded : Bool) (place : ℕ) (field : List ℕ) (old : List DhcpOption) (passed : ℕ) (left : List ℕ) (now : List DhcpOption)
    → Along is_overloaded place field old passed left now → code_at left ≡ None → (os : List DhcpOption) × (options_in place field ≡ Ok os) × (now ≡ added_all (counted is_overloaded os) old)
Along-end is_overloaded place field old passed left now a end =
    (a.before ++ [], sym a.goes_on ∙ ap (with_front a.before) (options_at-end (length left) (place + passed) left end), a.added ∙ ap (λ (l : List DhcpOption). added_all (counted is_overloaded l) old) (nothing a.before))
  where
    nothing : (l : List DhcpOption) → l ≡ l ++ []
    nothing [] = refl
    nothing (x ∷ xs) = ap (λ (t : List DhcpOption). x ∷ t) (nothing xs)
