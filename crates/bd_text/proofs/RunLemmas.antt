-- The longest run of zero groups, sought from the left.
use Rattle.std.proofs.Common.{◌≡◌, ℕ, ◌+◌, ◌<◌, ◌≤◌, List, inl, inr, arith}
use Rattle.std.proofs.lemmas.Bool.{cases_lt}
use Rattle.bd_text.specs.V6.{IsZeroRun}

-- of the runs that start before a place, this is the first of the longest
pub record Longest (groups : List ℕ) (place start count : ℕ) : Type 0 where
  pub run : IsZeroRun groups start count
  pub longest : (s n : ℕ) → s < place → IsZeroRun groups s n → n ≤ count
  pub first : (s : ℕ) → s < place → IsZeroRun groups s count → start ≤ s
  pub early : start ≤ place

-- the front of a run is a run
pub shorter : (groups : List ℕ) (start m n : ℕ) → m ≤ n → IsZeroRun groups start n → IsZeroRun groups start m
shorter groups start m n less run = let inside = run.inside in record { inside = omega arith; zeros = λ k from below. run.zeros k from (omega arith) }

module _ (groups : List ℕ) (place start count here : ℕ) (so_far : Longest groups place start count) (zeros : IsZeroRun groups place here) (most : (n : ℕ) → IsZeroRun groups place n → n ≤ here) where
  pub replace : count < here → Longest groups (place + 1) place here
  replace more = record {
    run = zeros;
    longest = λ s n below run. elim (cases_lt s place) [
      | inl before ↦ let old = so_far.longest s n before run in omega arith
      | inr past ↦ let same : s ≡ place = omega arith in most n (rw (← same) run)
    ];
    first = λ s below run. elim (cases_lt s place) [
      | inl before ↦ let old = so_far.longest s here before run in absurd (omega arith)
      | inr past ↦ past
    ];
    early = omega arith;
  }

  pub keep : here ≤ count → Longest groups (place + 1) start count
  keep less = record {
    run = so_far.run;
    longest = λ s n below run. elim (cases_lt s place) [
      | inl before ↦ so_far.longest s n before run
      | inr past ↦ let same : s ≡ place = omega arith in let here_most = most n (rw (← same) run) in omega arith
    ];
    first = λ s below run. elim (cases_lt s place) [
      | inl before ↦ so_far.first s before run
      | inr past ↦ let early = so_far.early in omega arith
    ];
    early = let early = so_far.early in omega arith;
  }
