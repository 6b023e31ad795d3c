-- How runs of calls join.
use Rattle.std.proofs.Common.{◌≡◌, ◌≤◌, inl, inr, ⊎_elim, ℕ, ◌+◌, ◌*◌, Result, IsOk, refl, sym, ◌∙◌, ap, subst, arith}
use Rattle.bd_dev.specs.declared.plant.Area.{Area}
use Rattle.bd_dev.specs.Content.{Image, SameSector}
use Rattle.bd_dev.specs.Plant.{View, IsImage, IsHonest, OnlyReads, Passes, ReadsBetween, WritesTo}
use Rattle.bd_dev.specs.Runs.{Continues, LeavesOnly, Looks, ReadsOnly, WritesAtMost}

pub same_sector_trans : (x y z : ℕ → ℕ) (s : ℕ) → SameSector x y s → SameSector y z s → SameSector x z s
same_sector_trans x y z s p q k lt = q k lt ∙ p k lt

pub same_all : (z c : Image) → c ≡ z → (a : Area) (s : ℕ) → SameSector (z a) (c a) s
same_all z c same a s k lt = ap (λ (w : Image). w a (512 * s + k)) same

-- what reads is an image
reads_now : (v : View) (c : Image) → c ≡ v.reads → IsImage v c
reads_now v c same a s synced = same_all v.reads c same a s

-- no call yet
pub leaves_now : (old : View) (P : Image → Type 0) → IsHonest old → old.tells → ((c : Image) → IsImage old c → P c) → LeavesOnly old old P
leaves_now old P honest tells here = record {
  later = omega arith;
  each = λ c left. here c (honest.only_now tells c left);
  before = λ t c le left. inl left;
  read = λ t c le read. inl read;
}

-- some calls more
pub leaves_then : (old mid new : View) (P Q : Image → Type 0) → LeavesOnly old mid P → LeavesOnly mid new Q → ((c : Image) → Q c → P c) → LeavesOnly old new P
leaves_then old mid new P Q first second stronger = record {
  later = omega (arith, first.later, second.later);
  each = λ c left. ⊎_elim (first.each c) (stronger c) (second.before old.moment c first.later left);
  before = λ t c le left. ⊎_elim (first.before t c le) (λ q. inr (stronger c q)) (second.before t c (omega (arith, le, first.later)) left);
  read = λ t c le read. ⊎_elim (first.read t c le) (λ q. inr (stronger c q)) (second.read t c (omega (arith, le, first.later)) read);
}

-- one call
pub leaves_call : {T E : Type 0} {result : Result T E} (old new : View) (P : Image → Type 0) → IsHonest old → old.tells → Passes old new → ReadsBetween result old new → ((c : Image) → IsImage old c → P c) → ((c : Image) → IsImage new c → P c) → LeavesOnly old new P
leaves_call old new P honest tells passes between before after = record {
  later = passes.later;
  each = λ c left. ⊎_elim (λ was. before c (honest.only_now tells c was)) (after c) ((passes.crash tells).nothing_else old.moment c (omega arith) left);
  before = λ t c le left. ⊎_elim (λ was. inl was) (λ now. inr (after c now)) ((passes.crash tells).nothing_else t c le left);
  read = λ t c le read. ⊎_elim (λ was. inl was) (λ now. inr (after c (reads_now new c now.1))) (between.nothing_else t c le read);
}

pub reads_then : (old mid new : View) (P Q : Image → Type 0) → ReadsOnly old mid P → ReadsOnly mid new Q → ((c : Image) → Q c → P c) → ReadsOnly old new P
reads_then old mid new P Q first second stronger = record {
  later = omega (arith, first.later, second.later);
  each = λ c read. ⊎_elim (first.each c) (stronger c) (second.before old.moment c first.later read);
  before = λ t c le read. ⊎_elim (first.before t c le) (λ q. inr (stronger c q)) (second.before t c (omega (arith, le, first.later)) read);
}

-- one call, after which, if it succeeded, this is read
pub reads_call : {T E : Type 0} {result : Result T E} (old new : View) (P : Image → Type 0) → IsHonest old → old.tells → Passes old new → ReadsBetween result old new → P old.reads → (IsOk result → P new.reads) → ReadsOnly old new P
reads_call old new P honest tells passes between here there = record {
  later = passes.later;
  each = λ c read. ⊎_elim (λ was. subst P (sym (honest.between_now tells c was)) here) (λ now. subst P (sym now.1) (there now.0)) (between.nothing_else old.moment c (omega arith) read);
  before = λ t c le read. ⊎_elim (λ was. inl was) (λ now. inr (subst P (sym now.1) (there now.0))) (between.nothing_else t c le read);
}

-- what a crash may leave is the same where the same is read and unsynced
same_images : (old new : View) → OnlyReads old new → (c : Image) → IsImage new c → IsImage old c
same_images old new only c image a s synced =
    same_sector_trans (old.reads a) (new.reads a) (c a) s (same_all old.reads new.reads only.reads a s) (image a s (λ un. synced (only.unsynced.unsynced a s un)))

pub continues_call : (old new : View) → Passes old new → Continues old new
continues_call old new passes = record { size = passes.size; tells = passes.tells; still_tells = passes.still_tells; later = passes.later }

-- a read
pub looks_read : {T E : Type 0} {result : Result T E} (old new : View) → IsHonest old → Passes old new → (old.tells → ReadsBetween result old new) → (old.tells → OnlyReads old new) → Looks old new
looks_read old new honest passes between state = record {
  continues = continues_call old new passes;
  told = λ tells. record {
    only = state tells;
    crash = leaves_call old new (IsImage old) honest tells passes (between tells) (λ c image. image) (same_images old new (state tells));
    between = reads_call old new (λ c. c ≡ old.reads) honest tells passes (between tells) refl (λ ok. (state tells).reads);
  };
}

-- no call
pub looks_now : (v : View) → IsHonest v → Looks v v
looks_now v honest = record {
  continues = record { size = λ a. refl; tells = λ t. t; still_tells = λ t. t; later = omega arith };
  told = λ tells. record {
    only = record { reads = refl; unsynced = record { unsynced = λ a s un. un; still_unsynced = λ a s un. un }; writes = refl };
    crash = leaves_now v (IsImage v) honest tells (λ c image. image);
    between = record { later = omega arith; each = λ c read. honest.between_now tells c read; before = λ t c le read. inl read };
  };
}

only_then : (old mid new : View) → OnlyReads old mid → OnlyReads mid new → OnlyReads old new
only_then old mid new first second = record {
  reads = second.reads ∙ first.reads;
  unsynced = record {
    unsynced = λ a s un. first.unsynced.unsynced a s (second.unsynced.unsynced a s un);
    still_unsynced = λ a s un. second.unsynced.still_unsynced a s (first.unsynced.still_unsynced a s un);
  };
  writes = second.writes ∙ first.writes;
}

pub continues_then : (old mid new : View) → Continues old mid → Continues mid new → Continues old new
continues_then old mid new first second = record {
  size = λ a. second.size a ∙ first.size a;
  tells = λ t. first.tells (second.tells t);
  still_tells = λ t. second.still_tells (first.still_tells t);
  later = omega (arith, first.later, second.later);
}

-- a run that only reads, and then another
pub looks_then : (old mid new : View) → Looks old mid → Looks mid new → Looks old new
looks_then old mid new first second = record {
  continues = continues_then old mid new first.continues second.continues;
  told = λ tells.
      let one = first.told tells in
      let two = second.told (first.continues.still_tells tells) in
      record {
        only = only_then old mid new one.only two.only;
        crash = leaves_then old mid new (IsImage old) (IsImage mid) one.crash two.crash (same_images old mid one.only);
        between = reads_then old mid new (λ c. c ≡ old.reads) (λ c. c ≡ mid.reads) one.between two.between (λ c same. same ∙ one.only.reads);
      };
}

-- runs that write join, and the counts add up
pub writes_then : (area : Area) (n m : ℕ) (old mid new : View) → WritesAtMost area n old mid → WritesAtMost area m mid new → WritesAtMost area (n + m) old new
writes_then area n m old mid new first second = record {
  here = (let a = first.here in let b = second.here in omega (arith, a, b));
  elsewhere = λ a other. second.elsewhere a other ∙ first.elsewhere a other;
}

pub writes_wider : (area : Area) (n m : ℕ) (old new : View) → n ≤ m → WritesAtMost area n old new → WritesAtMost area m old new
writes_wider area n m old new few writes = record {
  here = (let a = writes.here in omega (arith, a, few));
  elsewhere = writes.elsewhere;
}

-- a run that writes nothing
pub writes_none : (area : Area) (n : ℕ) (old new : View) → new.writes ≡ old.writes → WritesAtMost area n old new
writes_none area n old new same = record {
  here = (let a : new.writes area ≡ old.writes area = ap (λ (w : Area → ℕ). w area) same in omega (arith, a));
  elsewhere = λ a other. ap (λ (w : Area → ℕ). w a) same;
}

-- one write
pub writes_call : (area : Area) (lba n : ℕ) (old new : View) → WritesTo area lba n old new → WritesAtMost area n old new
writes_call area lba n old new writes = record {
  here = (let a = writes.counted.here in omega (arith, a));
  elsewhere = writes.counted.elsewhere;
}
