-- Facts for one outcome of a call.
use Rattle.std.proofs.Common.{◌≡◌, ◌⊎◌, ⊎_elim, inl, inr, ℕ, Result, Ok, Err, sym, ap, subst, ◌∙◌, arith}
use Rattle.bd_dev.specs.Faults.{Rose}
use Rattle.onie_modes.specs.Asking.{HasCauseOfTwo}
use Rattle.std.specs.Prelude.{IfErr, IsErrAnd, OnOk, OnErr}

pub OnOk-map : {T E P Q : Type 0} (r : Result T E) → (P → Q) → OnOk r P → OnOk r Q
OnOk-map (Ok x) f p = f p
OnOk-map (Err e) f p = p

pub OnErr-map : {T E P Q : Type 0} (r : Result T E) → (P → Q) → OnErr r P → OnErr r Q
OnErr-map (Ok x) f p = p
OnErr-map (Err e) f p = f p

-- what holds in both outcomes holds
pub either : {T E P Q R : Type 0} (r : Result T E) → OnOk r P → OnErr r Q → (P → R) → (Q → R) → R
either (Ok x) p q f h = f p
either (Err e) p q f h = h q

pub IfErr-map : {T E : Type 0} {P Q : E → Type 0} (r : Result T E) → ((e : E) → P e → Q e) → IfErr r P → IfErr r Q
IfErr-map (Ok x) f p = p
IfErr-map (Err e) f p = f e p

-- what holds of a reason holds where it is handed on
pub IfErr-of : {T E : Type 0} (P : E → Type 0) (r : Result T E) (why : E) → IsErrAnd r (λ e. e ≡ why) → P why → IfErr r P
IfErr-of P (Ok x) why is p = absurd is
IfErr-of P (Err e) why is p = subst P (sym is) p

-- and the reason is the one that is handed on
pub handed_back : {T E : Type 0} (r : Result T E) (why other : E) → IsErrAnd r (λ e. e ≡ why) → r ≡ Err other → (let e : Result T E = Err why in e) ≡ Err other
handed_back (Ok x) why other is same = absurd is
handed_back (Err e) why other is same = ap Err (sym is) ∙ same

-- and so in a result of another value
pub reason_is : {T E : Type 0} (r : Result T E) (why other : E) → IsErrAnd r (λ e. e ≡ why) → r ≡ Err other → why ≡ other
reason_is (Ok x) why other is same = absurd is
reason_is (Err e) why other is same = let here : e ≡ other = cc in sym is ∙ here

-- what is handed on is that reason
handed_on : {T E : Type 0} (r : Result T E) (why other : E) → IsErrAnd r (λ e. e ≡ why) → (let e : Result T E = Err why in e) ≡ Err other → r ≡ Err other
handed_on (Ok x) why other is same = absurd is
handed_on (Err e) why other is same = ap Err is ∙ same

-- the cause of a fault of two sinks, whose counts stood before the call that failed
pub two_since : {T U E : Type 0} (r : Result T E) (why fault : E) → IsErrAnd r (λ e. e ≡ why) → {console mid now trace between after : ℕ} → mid ≡ console → between ≡ trace
    → HasCauseOfTwo {T = U} fault mid now between after (Err why) → HasCauseOfTwo fault console now trace after r
two_since r why fault is {console} {mid} {now} {trace} {between} {after} before before_too cause =
    let console_later = cause.console_later in
    let trace_later = cause.trace_later in
    record {
      console_later = omega (arith, console_later, before);
      trace_later = omega (arith, trace_later, before_too);
      failed = λ e. ⊎_elim (λ c. inl (subst (λ (n : ℕ). Rose n now) before c)) (λ t. inr (subst (λ (n : ℕ). Rose n after) before_too t)) (cause.failed (same_err (handed_back r why fault is e)));
      quiet = λ other. let quiet = cause.quiet (λ e. other (handed_on r why fault is (err_same e))) in (quiet.0 ∙ before, quiet.1 ∙ before_too);
    }
  where
    same_err : {T U E : Type 0} {a b : E} → (let e : Result T E = Err a in e) ≡ Err b → (let e : Result U E = Err a in e) ≡ Err b
    same_err e = cc

    err_same : {T U E : Type 0} {a b : E} → (let e : Result U E = Err a in e) ≡ Err b → (let e : Result T E = Err a in e) ≡ Err b
    err_same e = cc
