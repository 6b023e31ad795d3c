-- The own run of a core around a core is that of the inner one.
use Rattle.std.proofs.Common.{◌≡◌, ℕ, zero, suc, ◌+◌, ◌*◌, Bool, true, false, if◌then◌else◌, nat_lt, ◌==◌, ◌&&◌, is_some, List, [], ◌∷◌, ◌++◌, length, Option, Some, None, refl, ap, ◌∙◌}
use Rattle.bd_dev.specs.Rows.{TimedArrival}
use Rattle.flow.specs.declared.letters.Letter.{Letter}
use Rattle.flow.specs.Core.{Acts}
use Rattle.flow.specs.Own.{State, TimedLetter, after_steps, at_arrival, at_deadline, enough, letters_in_steps, own_end, own_letters, own_letters_by, own_next, own_next_by, own_sends, start, timed, unless_flooded}
use Rattle.std.specs.Prelude.{option_map}
use Rattle.waits.specs.Around.{IsAround, lift}
use Rattle.waits.specs.Waits.{ComesTo, Outcome, found_as}

module _ {C D : Type 0} (f : C → D) (inner : Acts C) (outer : Acts D) (is : IsAround f inner outer) where
  core_if : (b : Bool) (x y : C) → (if b then f x else f y) ≡ f (if b then x else y)
  core_if true x y = refl
  core_if false x y = refl

  lift_if : (b : Bool) (x y : State C) → (if b then lift f x else lift f y) ≡ lift f (if b then x else y)
  lift_if true x y = refl
  lift_if false x y = refl

  flood_around : (count : ℕ) (c : C) → unless_flooded outer count (f c) ≡ f (unless_flooded inner count c)
  flood_around count c = rw (is.deadline c, is.flooded c) (core_if ((count == 131072) && is_some (inner.deadline c)) (inner.flooded c) c)

  arrival_around : (s : State C) (x : TimedArrival) (rest : List TimedArrival) → at_arrival outer (lift f s) x rest ≡ lift f (at_arrival inner s x rest)
  arrival_around s x rest =
      ap (λ (core : D). let t : State D = record { core = core; count = s.count + 1; rest = rest; moment = x.at } in t)
      (ap (λ (core : D). unless_flooded outer (s.count + 1) core) (is.arrived s.core x.at x.arrival)
      ∙ flood_around (s.count + 1) (inner.arrived s.core x.at x.arrival))

  deadline_around : (s : State C) (d : ℕ) → at_deadline outer (lift f s) d ≡ lift f (at_deadline inner s d)
  deadline_around s d = ap (λ (core : D). let t : State D = record { core = core; count = s.count; rest = s.rest; moment = d } in t) (is.expired s.core d)

  next_by : (s : State C) (due : Option ℕ) (rest : List TimedArrival) → own_next_by outer (lift f s) due rest ≡ lift f (own_next_by inner s due rest)
  next_by s None rest = refl
  next_by s (Some d) [] = deadline_around s d
  next_by s (Some d) (x ∷ rest) =
      ap (λ (t : State D). if nat_lt x.at d then t else at_deadline outer (lift f s) d) (arrival_around s x rest)
      ∙ ap (λ (t : State D). if nat_lt x.at d then lift f (at_arrival inner s x rest) else t) (deadline_around s d)
      ∙ lift_if (nat_lt x.at d) (at_arrival inner s x rest) (at_deadline inner s d)

  letters_by : (s : State C) (due : Option ℕ) (rest : List TimedArrival) → own_letters_by outer (lift f s) due rest ≡ own_letters_by inner s due rest
  letters_by s None rest = refl
  letters_by s (Some d) [] = ap (λ (ls : List Letter). timed d ls) (is.expired_letters s.core d)
  letters_by s (Some d) (x ∷ rest) =
      ap (λ (ls : List Letter). if nat_lt x.at d then timed x.at ls else timed d (outer.expired_letters (f s.core) d)) (is.arrived_letters s.core x.at x.arrival)
      ∙ ap (λ (ls : List Letter). if nat_lt x.at d then timed x.at (inner.arrived_letters s.core x.at x.arrival) else timed d ls) (is.expired_letters s.core d)

  next_around : (s : State C) → own_next outer (lift f s) ≡ lift f (own_next inner s)
  next_around s = ap (λ (due : Option ℕ). own_next_by outer (lift f s) due s.rest) (is.deadline s.core) ∙ next_by s (inner.deadline s.core) s.rest

  letters_around : (s : State C) → own_letters outer (lift f s) ≡ own_letters inner s
  letters_around s = ap (λ (due : Option ℕ). own_letters_by outer (lift f s) due s.rest) (is.deadline s.core) ∙ letters_by s (inner.deadline s.core) s.rest

  steps_around : (k : ℕ) (s : State C) → after_steps outer k (lift f s) ≡ lift f (after_steps inner k s)
  steps_around zero s = refl
  steps_around (suc k) s = ap (λ (t : State D). after_steps outer k t) (next_around s) ∙ steps_around k (own_next inner s)

  sent_around : (k : ℕ) (s : State C) → letters_in_steps outer k (lift f s) ≡ letters_in_steps inner k s
  sent_around zero s = refl
  sent_around (suc k) s =
      ap (λ (xs : List TimedLetter). xs ++ letters_in_steps outer k (own_next outer (lift f s))) (letters_around s)
      ∙ ap (λ (t : State D). own_letters inner s ++ letters_in_steps outer k t) (next_around s)
      ∙ ap (λ (xs : List TimedLetter). own_letters inner s ++ xs) (sent_around k (own_next inner s))

  start_around : (c : C) (arrivals : List TimedArrival) → start outer (f c) arrivals ≡ lift f (start inner c arrivals)
  start_around c arrivals = ap (λ (core : D). let t : State D = record { core = core; count = 0; rest = arrivals; moment = 0 } in t) (is.begun c)

  enough_around : (s : State C) → enough outer (lift f s) ≡ enough inner s
  enough_around s = ap (λ (n : ℕ). 9 * length s.rest + n) (is.left s.core)

  -- where its own run ends
  pub end_around : (c : C) (arrivals : List TimedArrival) → own_end outer (f c) arrivals ≡ lift f (own_end inner c arrivals)
  end_around c arrivals =
      ap (λ (t : State D). after_steps outer (enough outer t) t) (start_around c arrivals)
      ∙ ap (λ (n : ℕ). after_steps outer n (lift f (start inner c arrivals))) (enough_around (start inner c arrivals))
      ∙ steps_around (enough inner (start inner c arrivals)) (start inner c arrivals)

  -- what it sends in its own run
  pub sends_around : (c : C) (arrivals : List TimedArrival) → own_sends outer (f c) arrivals ≡ own_sends inner c arrivals
  sends_around c arrivals =
      ap (λ (ls : List Letter). timed 0 ls ++ letters_in_steps outer (enough outer (start outer (f c) arrivals)) (start outer (f c) arrivals)) (is.begun_letters c)
      ∙ ap (λ (t : State D). timed 0 (inner.begun_letters c) ++ letters_in_steps outer (enough outer t) t) (start_around c arrivals)
      ∙ ap (λ (n : ℕ). timed 0 (inner.begun_letters c) ++ letters_in_steps outer n (lift f (start inner c arrivals))) (enough_around (start inner c arrivals))
      ∙ ap (λ (xs : List TimedLetter). timed 0 (inner.begun_letters c) ++ xs) (sent_around (enough inner (start inner c arrivals)) (start inner c arrivals))

  -- it comes to the outcome that the inner one comes to, with what is found read as something else
  pub comes_around : {R S : Type 0} (g : R → S) (found : C → Option R) (found' : D → Option S) → ((c : C) → found' (f c) ≡ option_map g (found c))
      → (c : C) (arrivals : List TimedArrival) (o : Outcome R) → ComesTo inner found c arrivals o → ComesTo outer found' (f c) arrivals (found_as g o)
  comes_around g found found' same c arrivals o h = record {
    found = ap (λ (s : State D). found' s.core) (end_around c arrivals) ∙ same (own_end inner c arrivals).core ∙ ap (option_map g) h.found;
    ends = ap (λ (s : State D). s.moment) (end_around c arrivals) ∙ h.ends;
    sends = sends_around c arrivals ∙ h.sends;
  }
