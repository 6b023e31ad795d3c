-- One noted call more, and what the view says of it.
use Rattle.std.proofs.Common.{◌≡◌, ◌⊎◌, inl, inr, ℕ, ◌+◌, ◌≤◌, List, [], ◌∷◌, ◌++◌, length, Result, IsOk, refl, sym, ◌∙◌, ap, subst, arith, length-append}
use Rattle.std.proofs.lemmas.Bool.{cases_lt}
use Rattle.std.proofs.lemmas.List.{take_all, take-append-le}
use Rattle.bd_dev.specs.Calls.{Calls}
use Rattle.bd_dev.specs.Plant.{Passes, ReadsBetween}
use Rattle.bd_sim.specs.declared.journal.Noted.{Noted}
use Rattle.bd_sim.specs.declared.written.Written.{Written}
use Rattle.bd_sim.specs.Journal.{State, step, after_each, start, IsImageOf}
use Rattle.bd_sim.specs.View.{PlantInMemory, now, state_at, view_of}

pub after_each-push : (s : State) (xs : List Noted) (x : Noted) → after_each s (xs ++ x ∷ []) ≡ step (after_each s xs) x.step
after_each-push s [] x = refl
after_each-push s (y ∷ xs) x = after_each-push (step s y.step) xs x

-- after these noted calls and one more
abbrev pub longer : PlantInMemory → Noted → Calls → Written → PlantInMemory
longer p x calls writes = record p { journal = p.journal ++ x ∷ []; calls = calls; writes = writes }

module _ (p : PlantInMemory) (x : Noted) (calls : Calls) (writes : Written) where
  abbrev more : PlantInMemory
  more = longer p x calls writes

  one_more_long : length more.journal ≡ length p.journal + 1
  one_more_long = length-append p.journal (x ∷ [])

  pub now_longer : now more ≡ step (now p) x.step
  now_longer = after_each-push (start p.disk p.flash) p.journal x

  at_past : (k : ℕ) → k ≤ length p.journal → state_at more k ≡ state_at p k
  at_past k le = ap (λ (l : List Noted). after_each (start p.disk p.flash) l) (take-append-le k p.journal (x ∷ []) le)

  at_end : (k : ℕ) → length more.journal ≤ k → state_at more k ≡ now more
  at_end k le = ap (λ (l : List Noted). after_each (start p.disk p.flash) l) (take_all k more.journal le)

  pub passes_longer : Passes (view_of p) (view_of more)
  passes_longer = record {
    size = λ a. refl;
    tells = λ t. t;
    still_tells = λ t. t;
    later = omega (arith, one_more_long);
    crash = λ t. record {
      nothing_else = λ since c le left. elim (cases_lt (length p.journal) left.0) [
        | inl last ↦ inr (subst (λ (s : State). IsImageOf s c) (at_end left.0 (omega (arith, one_more_long, last))) left.3)
        | inr past ↦ inl (left.0, left.1, past, subst (λ (s : State). IsImageOf s c) (at_past left.0 past) left.3)
      ];
      keeps = λ since c le left. (left.0, left.1, omega (arith, one_more_long, left.2), subst (λ (s : State). IsImageOf s c) (sym (at_past left.0 left.2)) left.3);
    };
  }

  pub between_longer : {T E : Type 0} (r : Result T E) → IsOk r ⊎ ((step (now p) x.step).reads ≡ (now p).reads) → ReadsBetween r (view_of p) (view_of more)
  between_longer r why = record {
    nothing_else = λ since c le left. elim (cases_lt (length p.journal) left.0) [
      | inr past ↦ inl (left.0, left.1, past, left.3 ∙ ap (λ (s : State). s.reads) (at_past left.0 past))
      | inl last ↦ elim why [
        | inl ok ↦ inr (ok, left.3 ∙ ap (λ (s : State). s.reads) (at_end left.0 (omega (arith, one_more_long, last))))
        | inr same ↦ inl (
          length p.journal,
          le,
          le_refl,
          left.3 ∙ ap (λ (s : State). s.reads) (at_end left.0 (omega (arith, one_more_long, last)) ∙ now_longer) ∙ same
              ∙ ap (λ (l : List Noted). (after_each (start p.disk p.flash) l).reads) (sym (take_all (length p.journal) p.journal le_refl)),
        )
      ]
    ];
    keeps = λ since c le left. (left.0, left.1, omega (arith, one_more_long, left.2), left.3 ∙ ap (λ (s : State). s.reads) (sym (at_past left.0 left.2)));
    added = λ ok since le. (length more.journal, omega (arith, one_more_long, le), le_refl_more, ap (λ (s : State). s.reads) (sym (at_end (length more.journal) le_refl_more)));
  }
    where
      le_refl_more : length more.journal ≤ length more.journal
      le_refl_more = omega arith

      le_refl : length p.journal ≤ length p.journal
      le_refl = omega arith

-- a call that isn't noted
module _ (p : PlantInMemory) (calls : Calls) (writes : Written) where
  abbrev pub unnoted : PlantInMemory
  unnoted = record p { calls = calls; writes = writes }

  pub passes_same : Passes (view_of p) (view_of unnoted)
  passes_same = record {
    size = λ a. refl;
    tells = λ t. t;
    still_tells = λ t. t;
    later = omega arith;
    crash = λ t. record { nothing_else = λ since c le left. inl left; keeps = λ since c le left. left };
  }

  pub between_same : {T E : Type 0} (r : Result T E) → ReadsBetween r (view_of p) (view_of unnoted)
  between_same r = record {
    nothing_else = λ since c le left. inl left;
    keeps = λ since c le left. left;
    added = λ ok since le. (length p.journal, le, omega arith, ap (λ (l : List Noted). (after_each (start p.disk p.flash) l).reads) (sym (take_all (length p.journal) p.journal (omega arith))));
  }
