-- Why a variable is not set, by its tests.
use Rattle.std.proofs.Common.{◌≡◌, ℕ, ◌+◌, ◌-◌, ◌≤◌, ◌==◌, ◌^◌, List, length, Bool, true, false, not, nat_le, Option, Some, None, Ok, Err, is_none, Result, refl, ◌∙◌, cond, ap, subst, arith}
use Rattle.std.specs.Prelude.{IsErrAnd}
use Rattle.std.specs.Result.{result_err}
use Rattle.std.proofs.lemmas.Bool.{and_from, eqb-true, false_from_ne_true, leb-true}
use Rattle.boot_vars.specs.Places.{IsPlace}
use Rattle.boot_vars.specs.Setting.{answer, fit, put_refusal, set_refusal, unset_refusal, with_variable}
use Rattle.boot_vars.specs.declared.fault.VarFault.{VarFault}
use Rattle.boot_vars.specs.declared.fault.VarFault.TheVariants.{BadName, BadText, Fault, SeqEnd, VarsFull}
use Rattle.boot_vars.proofs.Places.{within as within_text}
use Rattle.boot_vars.proofs.Setting.{with_length}
use Rattle.storage_model.specs.Variables.{Spells, Variable, is_name, is_value, is_variable, lines_of, value_among}

-- a refusal by its tests
abbrev by_tests : Bool → Bool → Bool → Option VarFault → Option VarFault
by_tests name value fits last = cond (not name) (Some BadName) (cond (not value) (Some BadText) (cond (not fits) (Some VarsFull) last))

-- a variable that may be set
pub record IsAllowed (vs : List Variable) (number : ℕ) (v : Variable) : Type 0 where
  pub name : is_name v.name ≡ true
  pub value : is_value v.value ≡ true
  pub fits : fit (with_variable vs v) ≡ true
  pub refusal : set_refusal vs number v ≡ put_refusal number

allowed_by : (name value fits : Bool) (last : Option VarFault) → Ok tt ≡ answer (by_tests name value fits last) → (name ≡ true) × (value ≡ true) × (fits ≡ true)
allowed_by true true true last is = (refl, refl, refl)
allowed_by true true false last is = absurd (cc)
allowed_by true false fits last is = absurd (cc)
allowed_by false value fits last is = absurd (cc)

pub allowed : (vs : List Variable) (number : ℕ) (v : Variable) → Ok tt ≡ answer (set_refusal vs number v) → IsAllowed vs number v
allowed vs number v is =
    let tests = allowed_by (is_name v.name) (is_value v.value) (fit (with_variable vs v)) (put_refusal number) is in
    record {
      name = tests.0;
      value = tests.1;
      fits = tests.2;
      refusal =
          ap (λ (b : Bool). by_tests b (is_value v.value) (fit (with_variable vs v)) (put_refusal number)) tests.0
          ∙ ap (λ (b : Bool). by_tests true b (fit (with_variable vs v)) (put_refusal number)) tests.1
          ∙ ap (λ (b : Bool). by_tests true true b (put_refusal number)) tests.2;
    }

pub are_allowed : (vs : List Variable) (number : ℕ) (v : Variable) → IsAllowed vs number v → is_variable v ≡ true
are_allowed vs number v is = and_from (is_name v.name) (is_value v.value) is.name is.value

pub fits_within : (vs : List Variable) → fit vs ≡ true → length (lines_of vs) ≤ 8180
fits_within vs is = leb-true (length (lines_of vs)) 8180 is

-- the answer once name and value are good
pub after_names : (vs : List Variable) (number : ℕ) (v : Variable) (fits : Bool) → is_name v.name ≡ true → is_value v.value ≡ true → fit (with_variable vs v) ≡ fits
    → answer (set_refusal vs number v) ≡ answer (cond (not fits) (Some VarsFull) (put_refusal number))
after_names vs number v fits name value is =
    ap (λ (b : Bool). answer (by_tests b (is_value v.value) (fit (with_variable vs v)) (put_refusal number))) name
    ∙ ap (λ (b : Bool). answer (by_tests true b (fit (with_variable vs v)) (put_refusal number))) value
    ∙ ap (λ (b : Bool). answer (by_tests true true b (put_refusal number))) is

-- whether the changed text fits, by the bytes of the other lines
pub fits_is : (text held : List ℕ) (v : Variable) (at size long : ℕ) (vs : List Variable) → held ≡ text → length text ≡ long → IsPlace held v.name at size → Spells text vs
    → fit (with_variable vs v) ≡ nat_le (long - size + length v.name + length v.value + 2) 8180
fits_is text held v at size long vs same is held_place spells =
    let place = subst (λ (t : List ℕ). IsPlace t v.name at size) same held_place in
    let sizes = with_length text at size v vs place spells in
    let within = within_text text v.name at size place in
    let longs : length (lines_of (with_variable vs v)) ≡ long - size + length v.name + length v.value + 2 = omega (arith, sizes, within, is) in
    ap (λ (n : ℕ). nat_le n 8180) longs

pub last_is : (number : ℕ) → number ≡ 2 ^ 64 - 1 → put_refusal number ≡ Some SeqEnd
last_is number is = ap put_refusal is

pub not_last_is : (number : ℕ) → (number ≡ 2 ^ 64 - 1 → ⊥) → put_refusal number ≡ None
not_last_is number other = ap (λ (b : Bool). cond b (Some SeqEnd) None) (false_from_ne_true (number == 2 ^ 64 - 1) (λ same. other (eqb-true number (2 ^ 64 - 1) same)))

pub put_never : (number : ℕ) → answer (put_refusal number) ≡ Err Fault → ⊥
put_never number is = by_last (number == 2 ^ 64 - 1) is
  where
    by_last : (last : Bool) → answer (cond last (Some SeqEnd) None) ≡ Err Fault → ⊥
    by_last true is = cc
    by_last false is = cc

pub err_of_answer : (refusal : Option VarFault) → result_err (answer refusal) ≡ refusal
err_of_answer None = refl
err_of_answer (Some reason) = refl

-- an error that is handed on
pub handed_on : {T : Type 0} (r : Result T VarFault) (why : VarFault) (refusal : Option VarFault) → IsErrAnd r (λ e. e ≡ why) → Err why ≡ answer refusal → result_err r ≡ refusal
handed_on (Err e) why refusal same is = ap Some same ∙ ap result_err is ∙ err_of_answer refusal
handed_on (Ok x) why refusal same is = absurd same

-- an unset whose name is good
pub unset_is : (vs : List Variable) (number : ℕ) (name : List ℕ) (none : Bool) → is_name name ≡ true → is_none (value_among vs name) ≡ none
    → unset_refusal vs number name ≡ cond none None (put_refusal number)
unset_is vs number name none good is =
    ap (λ (b : Bool). cond (not b) (Some BadName) (cond (is_none (value_among vs name)) None (put_refusal number))) good
    ∙ ap (λ (b : Bool). cond b None (put_refusal number)) is

-- nothing is refused
pub none_refused : (refusal : Option VarFault) → Ok tt ≡ answer refusal → refusal ≡ None
none_refused None is = refl
none_refused (Some reason) is = absurd (cc)
