-- How runs of calls join that touch some sectors alone.
use Rattle.std.proofs.Common.{◌≡◌, ◌⊎◌, inl, inr, ⊎_elim, ℕ, ◌+◌, ◌*◌, ◌/◌, ◌≤◌, List, length, Result, Ok, Err, IsOk, OnOk, refl, sym, subst, arith}
use Rattle.std.proofs.lemmas.Bool.{cases_lt}
use Rattle.bd_dev.specs.declared.plant.Area.{Area}
use Rattle.bd_dev.specs.Content.{Image, Outside, window}
use Rattle.bd_dev.specs.Plant.{View, IsHonest, Passes, ReadsBetween, Syncs, WritesTo}
use Rattle.bd_dev.specs.Runs.{LeavesOnly, Looks, ReadsOnly}
use Rattle.bd_dev.specs.Touching.{AgreesOutside, IsWritten, KeepsSynced, Touches}
use Rattle.bd_dev.proofs.Joins.{continues_call, continues_then, leaves_call, leaves_then, looks_now, reads_call, reads_then, same_all, same_sector_trans}

-- each image has a weaker property
pub leaves_weaker : (old new : View) (P Q : Image → Type 0) → LeavesOnly old new P → ((c : Image) → P c → Q c) → LeavesOnly old new Q
leaves_weaker old new P Q leaves weaker = record {
  later = leaves.later;
  each = λ c left. weaker c (leaves.each c left);
  before = λ t c le left. ⊎_elim (λ was. inl was) (λ p. inr (weaker c p)) (leaves.before t c le left);
  read = λ t c le read. ⊎_elim (λ was. inl was) (λ p. inr (weaker c p)) (leaves.read t c le read);
}

-- each image has both properties
pub leaves_both : (old new : View) (P Q : Image → Type 0) → LeavesOnly old new P → LeavesOnly old new Q → LeavesOnly old new (λ c. P c × Q c)
leaves_both old new P Q p q = record {
  later = p.later;
  each = λ c left. (p.each c left, q.each c left);
  before = λ t c le left. ⊎_elim (λ was. inl was) (λ one. ⊎_elim (λ was. inl was) (λ other. inr (one, other)) (q.before t c le left)) (p.before t c le left);
  read = λ t c le read. ⊎_elim (λ was. inl was) (λ one. ⊎_elim (λ was. inl was) (λ other. inr (one, other)) (q.read t c le read)) (p.read t c le read);
}

pub reads_weaker : (old new : View) (P Q : Image → Type 0) → ReadsOnly old new P → ((c : Image) → P c → Q c) → ReadsOnly old new Q
reads_weaker old new P Q reads weaker = record {
  later = reads.later;
  each = λ c read. weaker c (reads.each c read);
  before = λ t c le read. ⊎_elim (λ was. inl was) (λ p. inr (weaker c p)) (reads.before t c le read);
}

pub reads_both : (old new : View) (P Q : Image → Type 0) → ReadsOnly old new P → ReadsOnly old new Q → ReadsOnly old new (λ c. P c × Q c)
reads_both old new P Q p q = record {
  later = p.later;
  each = λ c read. (p.each c read, q.each c read);
  before = λ t c le read. ⊎_elim (λ was. inl was) (λ one. ⊎_elim (λ was. inl was) (λ other. inr (one, other)) (q.before t c le read)) (p.before t c le read);
}

-- what was read since is among what a crash since may have left
pub reads_of : (old new : View) (P : Image → Type 0) → IsHonest new → new.tells → LeavesOnly old new P → ReadsOnly old new P
reads_of old new P honest tells leaves = record {
  later = leaves.later;
  each = λ c read. leaves.each c (honest.between tells old.moment c leaves.later read);
  before = leaves.read;
}

agrees_all : (area : Area) (lba n : ℕ) (z c : Image) → c ≡ z → AgreesOutside area lba n z c
agrees_all area lba n z c same a s out = same_all z c same a s

-- one call
touch_call : {T E : Type 0} {result : Result T E} (area : Area) (lba n : ℕ) (old new : View) → IsHonest old → Passes old new → (old.tells → ReadsBetween result old new)
    → (old.tells → AgreesOutside area lba n old.reads new.reads)
    → (old.tells → (a : Area) (s : ℕ) → Outside area lba n a s → new.unsynced a s → old.unsynced a s)
    → (old.tells → (a : Area) (s : ℕ) → (a ≡ area → ⊥) → old.unsynced a s → new.unsynced a s)
    → Touches area lba n old new
touch_call area lba n old new honest passes between reads unsynced other_unsynced = record {
  continues = continues_call old new passes;
  told = λ tells. record {
    reads = reads tells;
    unsynced = unsynced tells;
    other_unsynced = other_unsynced tells;
    crash = leaves_call old new (KeepsSynced area lba n old) honest tells passes (between tells) (λ c image a s out synced. image a s synced)
        (λ c image a s out synced. same_sector_trans (old.reads a) (new.reads a) (c a) s (reads tells a s out) (image a s (λ un. synced (unsynced tells a s out un))));
    between = reads_call old new (AgreesOutside area lba n old.reads) honest tells passes (between tells) (agrees_all area lba n old.reads old.reads refl) (λ ok. reads tells);
  };
}

-- a write
pub touch_write : {T E : Type 0} {result : Result T E} (area : Area) (lba n : ℕ) (old new : View) → IsHonest old → Passes old new → (old.tells → ReadsBetween result old new) → (old.tells → WritesTo area lba n old new) → Touches area lba n old new
touch_write area lba n old new honest passes between writes = touch_call area lba n old new honest passes between
    (λ tells a s out. ((writes tells).outside a s out).reads)
    (λ tells a s out. ((writes tells).outside a s out).unsynced)
    (λ tells a s other. ((writes tells).outside a s (λ same. absurd (other same))).still_unsynced)

-- a sync
pub touch_sync : {T E : Type 0} {result : Result T E} (area : Area) (lba n : ℕ) (old new : View) → IsHonest old → Passes old new → (old.tells → ReadsBetween result old new) → (old.tells → Syncs area old new) → Touches area lba n old new
touch_sync area lba n old new honest passes between syncs = touch_call area lba n old new honest passes between
    (λ tells. agrees_all area lba n old.reads new.reads (syncs tells).reads)
    (λ tells a s out. (syncs tells).unsynced a s)
    (λ tells a s other. (syncs tells).other_unsynced a s other)

-- a run that only reads
pub touch_look : (area : Area) (lba n : ℕ) (old new : View) → Looks old new → Touches area lba n old new
touch_look area lba n old new looks = record {
  continues = looks.continues;
  told = λ tells.
      let run = looks.told tells in
      record {
        reads = agrees_all area lba n old.reads new.reads run.only.reads;
        unsynced = λ a s out. run.only.unsynced.unsynced a s;
        other_unsynced = λ a s other. run.only.unsynced.still_unsynced a s;
        crash = leaves_weaker old new _ _ run.crash (λ c image a s out synced. image a s synced);
        between = reads_weaker old new _ _ run.between (λ c same. agrees_all area lba n old.reads c same);
      };
}

-- no call
pub touch_now : (area : Area) (lba n : ℕ) (v : View) → IsHonest v → Touches area lba n v v
touch_now area lba n v honest = touch_look area lba n v v (looks_now v honest)

agrees_then : (area : Area) (lba n : ℕ) (x y z : Image) → AgreesOutside area lba n x y → AgreesOutside area lba n y z → AgreesOutside area lba n x z
agrees_then area lba n x y z first second a s out = same_sector_trans (x a) (y a) (z a) s (first a s out) (second a s out)

-- some calls, and then some more
pub touch_then : (area : Area) (lba n : ℕ) (old mid new : View) → Touches area lba n old mid → Touches area lba n mid new → Touches area lba n old new
touch_then area lba n old mid new first second = record {
  continues = continues_then old mid new first.continues second.continues;
  told = λ tells.
      let one = first.told tells in
      let two = second.told (first.continues.still_tells tells) in
      record {
        reads = agrees_then area lba n old.reads mid.reads new.reads one.reads two.reads;
        unsynced = λ a s out un. one.unsynced a s out (two.unsynced a s out un);
        other_unsynced = λ a s other un. two.other_unsynced a s other (one.other_unsynced a s other un);
        crash = leaves_then old mid new (KeepsSynced area lba n old) (KeepsSynced area lba n mid) one.crash two.crash
            (λ c keeps a s out synced. same_sector_trans (old.reads a) (mid.reads a) (c a) s (one.reads a s out) (keeps a s out (λ un. synced (one.unsynced a s out un))));
        between = reads_then old mid new (AgreesOutside area lba n old.reads) (AgreesOutside area lba n mid.reads) one.between two.between
            (λ c agrees. agrees_then area lba n old.reads mid.reads c one.reads agrees);
      };
}

-- more sectors
pub touch_wider : (area : Area) (lba n lba' n' : ℕ) (old new : View) → lba' ≤ lba → lba + n ≤ lba' + n' → Touches area lba n old new → Touches area lba' n' old new
touch_wider area lba n lba' n' old new low high touches = record {
  continues = touches.continues;
  told = λ tells.
      let run = touches.told tells in
      record {
        reads = λ a s out. run.reads a s (within a s out);
        unsynced = λ a s out. run.unsynced a s (within a s out);
        other_unsynced = run.other_unsynced;
        crash = leaves_weaker old new _ _ run.crash (λ c keeps a s out. keeps a s (within a s out));
        between = reads_weaker old new _ _ run.between (λ c agrees a s out. agrees a s (within a s out));
      };
}
  where
    within : (a : Area) (s : ℕ) → Outside area lba' n' a s → Outside area lba n a s
    within a s out same = ⊎_elim (λ below. inl (omega arith)) (λ above. inr (omega arith)) (out same)

-- no sector of the area is named
pub touch_any : (area : Area) (lba n lba' : ℕ) (old new : View) → Touches area lba' 0 old new → Touches area lba n old new
touch_any area lba n lba' old new touches = record {
  continues = touches.continues;
  told = λ tells.
      let run = touches.told tells in
      record {
        reads = λ a s out. run.reads a s (outside a s);
        unsynced = λ a s out. run.unsynced a s (outside a s);
        other_unsynced = run.other_unsynced;
        crash = leaves_weaker old new _ _ run.crash (λ c keeps a s out. keeps a s (outside a s));
        between = reads_weaker old new _ _ run.between (λ c agrees a s out. agrees a s (outside a s));
      };
}
  where
    outside : (a : Area) (s : ℕ) → Outside area lba' 0 a s
    outside a s same = ⊎_elim (λ below. inl below) (λ above. inr (omega arith)) (cases_lt s lba')

on_ok : {T E : Type 0} (r : Result T E) (P : Type 0) → OnOk r P → IsOk r → P
on_ok (Ok v) P p ok = p
on_ok (Err e) P p ok = cc

-- what is read around a write
pub reads_write : {T E : Type 0} {result : Result T E} (area : Area) (lba : ℕ) (bytes : List ℕ) (old new : View) → IsHonest old → old.tells → Passes old new → ReadsBetween result old new → WritesTo area lba (length bytes / 512) old new
    → OnOk result (window (new.reads area) (512 * lba) (length bytes) ≡ bytes) → ReadsOnly old new (λ c. (c ≡ old.reads) ⊎ IsWritten area lba bytes old.reads c)
reads_write {result = r} area lba bytes old new honest tells passes between writes is = reads_call old new _ honest tells passes between (inl refl)
    (λ ok. inr (record { outside = λ a s out. (writes.outside a s out).reads; inside = on_ok r _ is ok }))

-- and then nothing else
pub reads_written : (area : Area) (lba : ℕ) (bytes : List ℕ) (old mid new : View) → ReadsOnly old mid (λ c. (c ≡ old.reads) ⊎ IsWritten area lba bytes old.reads c) → AgreesOutside area lba (length bytes / 512) old.reads mid.reads → window (mid.reads area) (512 * lba) (length bytes) ≡ bytes
    → ReadsOnly mid new (λ c. c ≡ mid.reads) → ReadsOnly old new (λ c. (c ≡ old.reads) ⊎ IsWritten area lba bytes old.reads c)
reads_written area lba bytes old mid new first outside inside second = reads_then old mid new _ (λ c. c ≡ mid.reads) first second
    (λ c same. inr (subst (IsWritten area lba bytes old.reads) (sym same) (record { outside = outside; inside = inside })))
