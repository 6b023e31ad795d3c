-- What a change of a board's variables keeps: a span from the board before, and that it is live again.
use Rattle.std.proofs.Common.{◌≡◌, ◌≢◌, ◌⊎◌, inl, inr, ⊎_elim, ℕ, ◌-◌, ◌^◌, ◌∷◌, [], ◌++◌, List, Bool, true, false, cond, eq-eqb, Some, None, Option, Result, Ok, Err, refl, sym, ◌∙◌, ap, subst}
use Rattle.bd_dev.specs.declared.plant.Area.TheVariants.{Disk, Flash}
use Rattle.bd_dev.specs.Plant.{View, IsHonest}
use Rattle.boot_vars.specs.Setting.{Changes, IsDurable, changed, put_refusal}
use Rattle.boot_vars.specs.Vars.{AreVars, Vars}
use Rattle.cuts.specs.declared.effect.Effect.TheVariants.{Vars as SetVars}
use Rattle.cuts.specs.Orderly.{IsLawfulText}
use Rattle.cuts.specs.Spans.{HasOnlyPending, Spans}
use Rattle.cuts.proofs.Changes.{HasVariablesSet, pending_vars, spans_vars}
use Rattle.gpt_copy.specs.Copy.{FitsDisk}
use Rattle.storage_model.specs.Entries.{IsSane}
use Rattle.storage_model.specs.Variables.{kept_in}
use Rattle.std.specs.Prelude.{IsErrAnd}
use Rattle.boot_vars.specs.declared.fault.VarFault.{VarFault}
use Rattle.boot_vars.specs.declared.fault.VarFault.TheVariants as var_faults
use Rattle.cuts.specs.declared.effect.Effect.{Effect}
use Rattle.board.specs.Changes.{Does, IsAnswer, of_var_fault, of_var_refusal}
use Rattle.board.specs.declared.board.Held.{Held}
use Rattle.board.specs.declared.fault.BoardFault.{BoardFault}
use Rattle.board.specs.Held.{IsLive, Keeps, Leaves, value_of}

-- where a put is not refused there is a number for it
room_of : (n : ℕ) → put_refusal n ≡ None → n ≢ 2 ^ 64 - 1
room_of n none same =
    let seq : Some var_faults.SeqEnd ≡ None = sym (ap (λ (b : Bool). cond b (Some var_faults.SeqEnd) None) (eq-eqb n (2 ^ 64 - 1) same)) ∙ none in
    cc

pub is_lawful_text : (number length : ℕ) (text : List ℕ) → AreVars length text → put_refusal number ≡ None → IsLawfulText number text
is_lawful_text number length text lines none = record { is = lines.lines; room = room_of number none }

-- the variables were set, or that failed
pub keeps_vars : (v w : View) (h j : Held) (text : List ℕ) → IsLawfulText h.vars.pair.number text → IsHonest w → IsLive v h → Changes h.vars text v w
    → j.table ≡ h.table → j.journal.effects ≡ h.journal.effects ++ SetVars text ∷ []
    → ((j.failed ≡ true) ⊎ ((j.vars ≡ changed h.vars text) × IsDurable w j.vars)) → Keeps v h w j
keeps_vars v w h j text lawful honest live change table journal outcome = record {
  continues = change.touches.continues;
  live = λ ok. record {
    live = ok;
    fits = subst (λ (n : ℕ). FitsDisk (n - 1) j.table) (sym (change.touches.continues.size Disk)) (subst (FitsDisk (v.size Disk - 1)) (sym table) live.fits);
    sane = subst IsSane (sym table) live.sane;
    variables = (is_set ok).1.fits;
    stands = λ t. (span (change.touches.continues.tells t)).stands ok;
    pending = λ t. pending (change.touches.continues.tells t) ok;
  };
  span = span;
}
  where
    lost : j.failed ≡ true → j.failed ≡ false → ⊥
    lost yes_failed not_failed = cc

    is_set : j.failed ≡ false → (j.vars ≡ changed h.vars text) × IsDurable w j.vars
    is_set ok = ⊎_elim (λ failed. absurd (lost failed ok)) (λ set. set) outcome

    set_of : v.tells → (j.vars ≡ changed h.vars text) × IsDurable w j.vars → HasVariablesSet (value_of v h) (value_of w j) text
    set_of t set =
        let told = change.touches.continues.still_tells t in
        record {
          text = ap (λ (x : Vars). x.text) set.0;
          number = ap (λ (x : Vars). x.pair.number) set.0;
          synced = set.1.synced told;
          reads = ap (λ (n : ℕ). kept_in n (w.reads Flash)) (sym (change.touches.continues.size Flash)) ∙ set.1.fits.kept told
              ∙ ap (λ (x : Vars). Some (record { number = x.pair.number; content = x.text })) set.0;
          disk = λ q off. (change.touches.told t).reads Disk q (λ other. cc);
          held = λ q pends k lt. refl;
        }

    span : v.tells → Spans (value_of v h) (value_of w j)
    span t = spans_vars (value_of v h) (value_of w j) honest t (live.stands t) (live.pending t) text lawful change.touches (change.crash t) table journal
        (⊎_elim (λ failed. inl failed) (λ set. inr (set_of t set)) outcome)

    pending : v.tells → j.failed ≡ false → HasOnlyPending (value_of w j)
    pending t ok = pending_vars (value_of v h) (value_of w j) honest t (live.stands t) (live.pending t) text lawful change.touches (change.crash t) table journal (set_of t (is_set ok))

-- a refusal of the variables is handed on
pub refused_answer : (r : Result Unit BoardFault) (why : VarFault) (refusal : Option VarFault) → IsErrAnd r (λ e. e ≡ of_var_fault why) → Some why ≡ refusal → IsAnswer (of_var_refusal refusal) r
refused_answer (Err e) why refusal same is = subst (λ (o : Option VarFault). IsAnswer (of_var_refusal o) (Err e)) is (ap Err same)
refused_answer (Ok x) why refusal same is = absurd same

-- then nothing is done
pub refused_effect : (x : Effect) (same : Type 0) (h : Held) (r : Result Unit BoardFault) (why : VarFault) → same → IsErrAnd r (λ e. e ≡ of_var_fault why) → (why ≡ var_faults.Fault → ⊥) → Does x same r h h
refused_effect x same h (Ok u) why is err other = absurd err
refused_effect x same h (Err e) why is err other = subst (λ (f : BoardFault). Does x same (Err f) h h) (sym err) (by_fault why other)
  where
    by_fault : (why : VarFault) → (why ≡ var_faults.Fault → ⊥) → Does x same (Err (of_var_fault why)) h h
    by_fault var_faults.BadName other = record { plant = is; held = refl }
    by_fault var_faults.BadText other = record { plant = is; held = refl }
    by_fault var_faults.VarsFull other = record { plant = is; held = refl }
    by_fault var_faults.SeqEnd other = record { plant = is; held = refl }
    by_fault var_faults.Fault other = absurd (other refl)

-- nor is anything to be left
pub refused_leaves : (x : Effect) (v w : View) (h j : Held) (r : Result Unit BoardFault) (why : VarFault) → IsErrAnd r (λ e. e ≡ of_var_fault why) → (why ≡ var_faults.Fault → ⊥) → Leaves x r v h w j
refused_leaves x v w h j (Ok u) why err other = absurd err
refused_leaves x v w h j (Err e) why err other = subst (λ (f : BoardFault). Leaves x (Err f) v h w j) (sym err) (by_fault why other)
  where
    by_fault : (why : VarFault) → (why ≡ var_faults.Fault → ⊥) → Leaves x (Err (of_var_fault why)) v h w j
    by_fault var_faults.BadName other = tt
    by_fault var_faults.BadText other = tt
    by_fault var_faults.VarsFull other = tt
    by_fault var_faults.SeqEnd other = tt
    by_fault var_faults.Fault other = absurd (other refl)
