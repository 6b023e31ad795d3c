-- What each call of a plant in memory does, by what is noted.
use Rattle.std.proofs.Common.{◌≡◌, ◌⊎◌, inl, inr, ⊎_elim, ℕ, ◌+◌, ◌-◌, ◌*◌, ◌/◌, ◌%◌, ◌<◌, ◌≤◌, List, length, get_or, Bool, true, false, not, cond, nat_lt, nat_le, ◌&&◌, ◌||◌, IsTrue, Result, Ok, Err, OnOk, OnErr, IsOk, refl, sym, ◌∙◌, ap, subst, arith, rules}
use Rattle.std.proofs.lemmas.Bool.Decides.{nat_tests}
use Rattle.bd_dev.specs.declared.plant.Area.{Area}
use Rattle.bd_dev.specs.declared.plant.Area.TheVariants.{Disk, Flash}
use Rattle.bd_dev.specs.Calls.{after_call}
use Rattle.bd_dev.specs.Content.{Outside, window}
use Rattle.bd_dev.specs.Faults.{one_more}
use Rattle.bd_dev.specs.Plant.{written_more, ReadsBetween, Passes, OnlyReads, WritesTo, Syncs, AreUnsynced, IsSynced}
use Rattle.bd_sim.specs.declared.journal.Noted.{Noted}
use Rattle.bd_sim.specs.declared.written.Written.{Written}
use Rattle.bd_sim.specs.declared.journal.Step.TheVariants.{Write, FailedWrite, Sync}
use Rattle.bd_sim.specs.Journal.{State, of_area, same_area, in_range, patch, step}
use Rattle.bd_sim.specs.View.{PlantInMemory, after_writing, now, view_of, counted, noted, written, synced, FailsWrite}
use Rattle.bd_sim.proofs.Steps.{now_longer, passes_longer, passes_same, between_longer, between_same}
use Rattle.bd_sim.proofs.Replaying.{window_is}

pub same_area_true : (a b : Area) → same_area a b ≡ true → a ≡ b
same_area_true Disk Disk same = refl
same_area_true Flash Flash same = refl
same_area_true Disk Flash same = cc
same_area_true Flash Disk same = cc

same_area_refl : (a : Area) → same_area a a ≡ true
same_area_refl Disk = refl
same_area_refl Flash = refl

pub outside_range : (lba n s : ℕ) → (s < lba) ⊎ (lba + n ≤ s) → in_range lba n s ≡ false
outside_range lba n s (inl below) = let test : nat_le lba s ≡ false = grind (arith, nat_tests) in ap (λ b. b && nat_lt s (lba + n)) test
outside_range lba n s (inr above) = grind (arith, nat_tests)

inside_range : (lba n s : ℕ) → lba ≤ s → s < lba + n → in_range lba n s ≡ true
inside_range lba n s low high = grind (arith, nat_tests)

is_true : IsTrue true
is_true = search rules

-- the count of one area alone is higher
counts_here : (w : Written) (area : Area) (n : ℕ) → of_area (after_writing w area n).disk (after_writing w area n).flash area ≡ written_more (of_area w.disk w.flash area) n
counts_here w Disk n = refl
counts_here w Flash n = refl

counts_elsewhere : (w : Written) (area : Area) (n : ℕ) (a : Area) → (a ≡ area → ⊥) → of_area (after_writing w area n).disk (after_writing w area n).flash a ≡ of_area w.disk w.flash a
counts_elsewhere w Disk n Disk other = absurd (other refl)
counts_elsewhere w Flash n Flash other = absurd (other refl)
counts_elsewhere w Disk n Flash other = refl
counts_elsewhere w Flash n Disk other = refl

-- a call that changed nothing
pub reads_only : (p q : PlantInMemory) (b : Bool) → q ≡ counted p b → OnlyReads (view_of p) (view_of q)
reads_only p q b is = subst (λ (x : PlantInMemory). OnlyReads (view_of p) (view_of x)) (sym is) (record {
  reads = refl;
  unsynced = record { unsynced = λ a s un. un; still_unsynced = λ a s un. un };
  writes = refl;
})

pub passes_counted : (p q : PlantInMemory) (b : Bool) → q ≡ counted p b → Passes (view_of p) (view_of q)
passes_counted p q b is = subst (λ (x : PlantInMemory). Passes (view_of p) (view_of x)) (sym is) (passes_same p (after_call p.calls b) p.writes)

pub between_counted : {T E : Type 0} (r : Result T E) (p q : PlantInMemory) (b : Bool) → q ≡ counted p b → ReadsBetween r (view_of p) (view_of q)
between_counted r p q b is = subst (λ (x : PlantInMemory). ReadsBetween r (view_of p) (view_of x)) (sym is) (between_same p (after_call p.calls b) p.writes r)

-- a sync
module _ (p : PlantInMemory) (area : Area) where
  note : Noted
  note = record { number = one_more p.calls.made; step = Sync area }

  clears : (a : Area) (s : ℕ) → (now (synced p area)).unsynced a s ≡ (not (same_area a area) && (now p).unsynced a s)
  clears a s = ap (λ (st : State). st.unsynced a s) (now_longer p (record { number = one_more p.calls.made; step = Sync area }) (after_call p.calls false) p.writes)

  less : (b was : Bool) → IsTrue (not b && was) → IsTrue was
  less true was un = grind arith
  less false was un = un

  stays : (a : Area) (s : ℕ) (b : Bool) → same_area a area ≡ b → (a ≡ area → ⊥) → IsTrue ((now p).unsynced a s) → IsTrue (not b && (now p).unsynced a s)
  stays a s true same other un = absurd (other (same_area_true a area same))
  stays a s false same other un = un

  none : IsTrue false → ⊥
  none h = grind arith

  syncs_synced : Syncs area (view_of p) (view_of (synced p area))
  syncs_synced = record {
    reads = ap (λ (s : State). s.reads) (now_longer p (record { number = one_more p.calls.made; step = Sync area }) (after_call p.calls false) p.writes);
    unsynced = λ a s un. less (same_area a area) ((now p).unsynced a s) (subst (λ b. IsTrue b) (clears a s) un);
    other_unsynced = λ a s other un. subst (λ b. IsTrue b) (sym (clears a s)) (stays a s (same_area a area) refl other un);
    writes = refl;
  }

  is_synced : IsSynced (view_of (synced p area)) area
  is_synced s un = none (subst (λ b. IsTrue b) (clears area s ∙ ap (λ b. not b && (now p).unsynced area s) (same_area_refl area)) un)

pub sync_durable : {T E : Type 0} (r : Result T E) (p q : PlantInMemory) (area : Area) → OnOk r (q ≡ synced p area) → OnOk r (IsSynced (view_of q) area)
sync_durable (Ok v) p q area is = subst (λ (x : PlantInMemory). IsSynced (view_of x) area) (sym is) (is_synced p area)
sync_durable (Err e) p q area is = is

pub sync_state : {T E : Type 0} (r : Result T E) (p q : PlantInMemory) (area : Area) → OnOk r (q ≡ synced p area) → OnErr r (q ≡ counted p true) → Syncs area (view_of p) (view_of q)
sync_state (Ok v) p q area ok err = subst (λ (x : PlantInMemory). Syncs area (view_of p) (view_of x)) (sym ok) (syncs_synced p area)
sync_state (Err e) p q area ok err =
    let only = reads_only p q true err in
    record { reads = only.reads; unsynced = only.unsynced.unsynced; other_unsynced = λ a s other. only.unsynced.still_unsynced a s; writes = only.writes }

pub sync_time : {T E : Type 0} (r : Result T E) (p q : PlantInMemory) (area : Area) → OnOk r (q ≡ synced p area) → OnErr r (q ≡ counted p true) → Passes (view_of p) (view_of q)
sync_time (Ok v) p q area ok err = subst (λ (x : PlantInMemory). Passes (view_of p) (view_of x)) (sym ok)
    (passes_longer p (record { number = one_more p.calls.made; step = Sync area }) (after_call p.calls false) p.writes)
sync_time (Err e) p q area ok err = passes_counted p q true err

pub sync_between : {T E : Type 0} (r : Result T E) (p q : PlantInMemory) (area : Area) → OnOk r (q ≡ synced p area) → OnErr r (q ≡ counted p true) → ReadsBetween r (view_of p) (view_of q)
sync_between {T = T} {E = E} (Ok v) p q area ok err =
    let is_ok : IsOk {T = T} {E = E} (Ok v) = search rules in
    subst (λ (x : PlantInMemory). ReadsBetween {T = T} {E = E} (Ok v) (view_of p) (view_of x)) (sym ok)
    (between_longer p (record { number = one_more p.calls.made; step = Sync area }) (after_call p.calls false) p.writes {T = T} {E = E} (Ok v) (inl is_ok))
sync_between (Err e) p q area ok err = between_counted (Err e) p q true err

-- a write
module _ (p : PlantInMemory) (area : Area) (lba : ℕ) where
  -- a mark that a write of n sectors adds
  marked : (n : ℕ) (a : Area) (s : ℕ) (was : Bool) → Outside area lba n a s → ((same_area a area && in_range lba n s) || was) ≡ was
  marked n a s was out = elim (same_area a area) as (λ b. same_area a area ≡ b → ((b && in_range lba n s) || was) ≡ was) [
    | true ↦ λ same. ap (λ b. b || was) (outside_range lba n s (out (same_area_true a area same)))
    | false ↦ λ same. refl
  ] refl

  -- bytes that are put
  patched : (bytes : List ℕ) (a : Area) (s k : ℕ) → length bytes % 512 ≡ 0 → k < 512 → Outside area lba (length bytes / 512) a s
      → (cond (same_area a area) (patch ((now p).reads a) (512 * lba) bytes) ((now p).reads a)) (512 * s + k) ≡ (now p).reads a (512 * s + k)
  unfolding patch
  patched bytes a s k whole lt out = elim (same_area a area) as (λ b. same_area a area ≡ b → (cond b (patch ((now p).reads a) (512 * lba) bytes) ((now p).reads a)) (512 * s + k) ≡ (now p).reads a (512 * s + k)) [
    | true ↦ λ same.
        let apart : (512 * s + k < 512 * lba) ⊎ (512 * lba + length bytes ≤ 512 * s + k) = ⊎_elim (λ below. inl (omega arith)) (λ above. inr (omega arith)) (out (same_area_true a area same)) in
        ap (λ b. cond b (get_or bytes (512 * s + k - 512 * lba) 0) ((now p).reads a (512 * s + k))) (outside_range (512 * lba) (length bytes) (512 * s + k) apart)
    | false ↦ λ same. refl
  ] refl

  module _ (bytes : List ℕ) (whole : length bytes % 512 ≡ 0) where
    abbrev n : ℕ
    n = length bytes / 512

    is_now : now (written p area lba bytes) ≡ step (now p) (Write area lba bytes)
    is_now = now_longer p (record { number = one_more p.calls.made; step = Write area lba bytes }) (after_call p.calls false) (after_writing p.writes area (length bytes / 512))

    sectors : (length bytes + 511) / 512 ≡ n
    sectors = omega arith

    marks : (a : Area) (s : ℕ) → (now (written p area lba bytes)).unsynced a s ≡ ((same_area a area && in_range lba n s) || (now p).unsynced a s)
    marks a s = ap (λ (st : State). st.unsynced a s) is_now ∙ ap (λ (m : ℕ). (same_area a area && in_range lba m s) || (now p).unsynced a s) sectors

    writes_to : WritesTo area lba n (view_of p) (view_of (written p area lba bytes))
    writes_to = record {
      outside = λ a s out. record {
        reads = λ k lt. ap (λ (st : State). st.reads a (512 * s + k)) is_now ∙ patched bytes a s k whole lt out;
        unsynced = λ un. subst (λ b. IsTrue b) (marks a s ∙ marked n a s ((now p).unsynced a s) out) un;
        still_unsynced = λ un. subst (λ b. IsTrue b) (sym (marks a s ∙ marked n a s ((now p).unsynced a s) out)) un;
      };
      counted = record { here = counts_here p.writes area n; elsewhere = counts_elsewhere p.writes area n };
    }

    are_unsynced : AreUnsynced (view_of (written p area lba bytes)) area lba n
    are_unsynced s low high = subst (λ b. IsTrue b) (sym (marks area s ∙ (λ i. (same_area_refl area i && inside_range lba n s low high i) || (now p).unsynced area s))) is_true

    reads_bytes : window ((now (written p area lba bytes)).reads area) (512 * lba) (length bytes) ≡ bytes
    unfolding patch
    reads_bytes = sym (window_is ((now (written p area lba bytes)).reads area) (512 * lba) (length bytes) bytes refl (λ k lt.
        let index : 512 * lba + k - 512 * lba ≡ k = omega arith in
        ap (λ (m : ℕ). get_or bytes m 0) (sym index)
        ∙ sym (ap (λ b. cond b (get_or bytes (512 * lba + k - 512 * lba) 0) ((now p).reads area (512 * lba + k))) (inside_range (512 * lba) (length bytes) (512 * lba + k) (omega arith) (omega arith)))
        ∙ sym (ap (λ b. (cond b (patch ((now p).reads area) (512 * lba) bytes) ((now p).reads area)) (512 * lba + k)) (same_area_refl area))
        ∙ sym (ap (λ (st : State). st.reads area (512 * lba + k)) is_now)))

  -- a write that failed
  module _ (n : ℕ) where
    abbrev torn : PlantInMemory
    torn = record (noted p (FailedWrite area lba n) true) { writes = after_writing p.writes area n }

    torn_now : now torn ≡ step (now p) (FailedWrite area lba n)
    torn_now = now_longer p (record { number = one_more p.calls.made; step = FailedWrite area lba n }) (after_call p.calls true) (after_writing p.writes area n)

    torn_writes : WritesTo area lba n (view_of p) (view_of torn)
    torn_writes = record {
      outside = λ a s out. record {
        reads = λ k lt. ap (λ (st : State). st.reads a (512 * s + k)) torn_now;
        unsynced = λ un. subst (λ b. IsTrue b) (ap (λ (st : State). st.unsynced a s) torn_now ∙ marked n a s ((now p).unsynced a s) out) un;
        still_unsynced = λ un. subst (λ b. IsTrue b) (sym (ap (λ (st : State). st.unsynced a s) torn_now ∙ marked n a s ((now p).unsynced a s) out)) un;
      };
      counted = record { here = counts_here p.writes area n; elsewhere = counts_elsewhere p.writes area n };
    }

    lost_writes : WritesTo area lba n (view_of p) (view_of (record (counted p true) { writes = after_writing p.writes area n }))
    lost_writes = record {
      outside = λ a s out. record { reads = λ k lt. refl; unsynced = λ un. un; still_unsynced = λ un. un };
      counted = record { here = counts_here p.writes area n; elsewhere = counts_elsewhere p.writes area n };
    }

module _ {T E : Type 0} where
  pub write_bytes : (r : Result T E) (p q : PlantInMemory) (area : Area) (lba : ℕ) (bytes : List ℕ) → length bytes % 512 ≡ 0 → OnOk r (q ≡ written p area lba bytes)
      → OnOk r (window ((view_of q).reads area) (512 * lba) (length bytes) ≡ bytes)
  write_bytes (Ok v) p q area lba bytes whole is = subst (λ (x : PlantInMemory). window ((view_of x).reads area) (512 * lba) (length bytes) ≡ bytes) (sym is) (reads_bytes p area lba bytes whole)
  write_bytes (Err e) p q area lba bytes whole is = is

  pub write_marks : (r : Result T E) (p q : PlantInMemory) (area : Area) (lba : ℕ) (bytes : List ℕ) → length bytes % 512 ≡ 0 → OnOk r (q ≡ written p area lba bytes)
      → OnOk r (AreUnsynced (view_of q) area lba (length bytes / 512))
  write_marks (Ok v) p q area lba bytes whole is = subst (λ (x : PlantInMemory). AreUnsynced (view_of x) area lba (length bytes / 512)) (sym is) (are_unsynced p area lba bytes whole)
  write_marks (Err e) p q area lba bytes whole is = is

  pub write_state : (r : Result T E) (p q : PlantInMemory) (area : Area) (lba : ℕ) (bytes : List ℕ) → length bytes % 512 ≡ 0 → OnOk r (q ≡ written p area lba bytes)
      → OnErr r (FailsWrite p q area lba (length bytes / 512)) → WritesTo area lba (length bytes / 512) (view_of p) (view_of q)
  write_state (Ok v) p q area lba bytes whole ok err = subst (λ (x : PlantInMemory). WritesTo area lba (length bytes / 512) (view_of p) (view_of x)) (sym ok) (writes_to p area lba bytes whole)
  write_state (Err e) p q area lba bytes whole ok err = elim err [
    | inl is ↦ subst (λ (x : PlantInMemory). WritesTo area lba (length bytes / 512) (view_of p) (view_of x)) (sym is) (torn_writes p area lba (length bytes / 512))
    | inr is ↦ subst (λ (x : PlantInMemory). WritesTo area lba (length bytes / 512) (view_of p) (view_of x)) (sym is) (lost_writes p area lba (length bytes / 512))
  ]

  pub write_time : (r : Result T E) (p q : PlantInMemory) (area : Area) (lba : ℕ) (bytes : List ℕ) → OnOk r (q ≡ written p area lba bytes)
      → OnErr r (FailsWrite p q area lba (length bytes / 512)) → Passes (view_of p) (view_of q)
  write_time (Ok v) p q area lba bytes ok err = subst (λ (x : PlantInMemory). Passes (view_of p) (view_of x)) (sym ok)
      (passes_longer p (record { number = one_more p.calls.made; step = Write area lba bytes }) (after_call p.calls false) (after_writing p.writes area (length bytes / 512)))
  write_time (Err e) p q area lba bytes ok err = elim err [
    | inl is ↦ subst (λ (x : PlantInMemory). Passes (view_of p) (view_of x)) (sym is)
        (passes_longer p (record { number = one_more p.calls.made; step = FailedWrite area lba (length bytes / 512) }) (after_call p.calls true) (after_writing p.writes area (length bytes / 512)))
    | inr is ↦ subst (λ (x : PlantInMemory). Passes (view_of p) (view_of x)) (sym is) (passes_same p (after_call p.calls true) (after_writing p.writes area (length bytes / 512)))
  ]

  pub write_between : (r : Result T E) (p q : PlantInMemory) (area : Area) (lba : ℕ) (bytes : List ℕ) → OnOk r (q ≡ written p area lba bytes)
      → OnErr r (FailsWrite p q area lba (length bytes / 512)) → ReadsBetween r (view_of p) (view_of q)
  write_between (Ok v) p q area lba bytes ok err =
      let is_ok : IsOk {T = T} {E = E} (Ok v) = search rules in
      subst (λ (x : PlantInMemory). ReadsBetween {T = T} {E = E} (Ok v) (view_of p) (view_of x)) (sym ok)
      (between_longer p (record { number = one_more p.calls.made; step = Write area lba bytes }) (after_call p.calls false) (after_writing p.writes area (length bytes / 512)) {T = T} {E = E} (Ok v) (inl is_ok))
  write_between (Err e) p q area lba bytes ok err = elim err [
    | inl is ↦ subst (λ (x : PlantInMemory). ReadsBetween {T = T} {E = E} (Err e) (view_of p) (view_of x)) (sym is)
        (between_longer p (record { number = one_more p.calls.made; step = FailedWrite area lba (length bytes / 512) }) (after_call p.calls true) (after_writing p.writes area (length bytes / 512)) {T = T} {E = E} (Err e) (inr refl))
    | inr is ↦ subst (λ (x : PlantInMemory). ReadsBetween {T = T} {E = E} (Err e) (view_of p) (view_of x)) (sym is) (between_same p (after_call p.calls true) (after_writing p.writes area (length bytes / 512)) {T = T} {E = E} (Err e))
  ]
