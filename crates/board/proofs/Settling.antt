-- An opening: both areas are synced, and at most the lesser copy of the table is touched.
use Rattle.std.proofs.Common.{◌≡◌, ◌≢◌, inl, inr, ⊎_elim, ℕ, ◌+◌, ◌≤◌, Option, Some, None, refl, sym, ◌∙◌, ap, subst, arith}
use Rattle.bd_dev.specs.declared.plant.Area.{Area}
use Rattle.bd_dev.specs.declared.plant.Area.TheVariants.{Disk}
use Rattle.bd_dev.specs.Content.{Image, Outside}
use Rattle.bd_dev.specs.Plant.{View, IsImage, IsSynced, OnlyReads}
use Rattle.bd_dev.specs.Runs.{Looks, WritesAtMost}
use Rattle.bd_dev.specs.Touching.{KeepsSynced}
use Rattle.bd_dev.proofs.Joins.{leaves_then, same_all, same_sector_trans, writes_none, writes_then, writes_wider}
use Rattle.bd_dev.proofs.Touch.{leaves_weaker}
use Rattle.gpt_copy.specs.declared.table.Table.{Table}
use Rattle.storage_model.specs.Disk.{copy_lba, found, table_of}
use Rattle.storage_model.specs.Copies.{ReadsBoth, TouchesAtMost, TouchesLesser, WritesNothing, other_copy}
use Rattle.cuts.proofs.Openings.{IsQuiet, quiet_look, quiet_then}

-- what a quiet run leaves alone, and what comes behind it

pub quiet_lesser : (old mid : View) → IsQuiet old mid → TouchesLesser old mid
quiet_lesser old mid quiet f is = record {
  reads = λ a s out. same_all old.reads mid.reads quiet.reads a s;
  unsynced = λ a s out. quiet.unsynced a s;
  crash = leaves_weaker old mid _ _ quiet.crash (λ c image a s out synced. image a s synced);
}

pub lesser_then : (old mid new : View) → IsQuiet old mid → TouchesLesser mid new → TouchesLesser old new
lesser_then old mid new quiet then f is =
    let sizes = quiet.continues.size Disk in
    let lba = copy_lba (other_copy f.copy) (old.size Disk) in
    let second = then f ((λ i. found (sizes i) (quiet.reads i Disk)) ∙ is) in
    let same : copy_lba (other_copy f.copy) (mid.size Disk) ≡ lba = ap (λ (n : ℕ). copy_lba (other_copy f.copy) n) sizes in
    record {
      reads = λ a s out. same_sector_trans (old.reads a) (mid.reads a) (new.reads a) s (same_all old.reads mid.reads quiet.reads a s)
          (second.reads a s (subst (λ (n : ℕ). Outside Disk n 33 a s) (sym same) out));
      unsynced = λ a s out un. quiet.unsynced a s (second.unsynced a s (subst (λ (n : ℕ). Outside Disk n 33 a s) (sym same) out) un);
      crash = leaves_then old mid new _ _ (leaves_weaker old mid _ _ quiet.crash (λ c image a s out synced. image a s synced)) second.crash
          (λ c keeps a s out synced. same_sector_trans (old.reads a) (mid.reads a) (c a) s (same_all old.reads mid.reads quiet.reads a s)
          (keeps a s (subst (λ (n : ℕ). Outside Disk n 33 a s) (sym same) out) (λ un. synced (quiet.unsynced a s un))));
    }

-- a run that only reads behind it
pub lesser_look : (old new last : View) → TouchesLesser old new → new.tells → Looks new last → TouchesLesser old last
lesser_look old new last first tells looks f is =
    let one = first f is in
    let run = looks.told tells in
    record {
      reads = λ a s out. same_sector_trans (old.reads a) (new.reads a) (last.reads a) s (one.reads a s out) (same_all new.reads last.reads run.only.reads a s);
      unsynced = λ a s out un. one.unsynced a s out (run.only.unsynced.unsynced a s un);
      crash = leaves_then old new last _ _ one.crash run.crash
          (λ c image a s out synced. same_sector_trans (old.reads a) (new.reads a) (c a) s (one.reads a s out) (image a s (λ un. synced (one.unsynced a s out un))));
    }

-- runs that write nothing
pub nothing_then : (old mid new : View) → WritesNothing old mid → WritesNothing mid new → WritesNothing old new
nothing_then old mid new first second = record { reads = second.reads ∙ first.reads; writes = second.writes ∙ first.writes }

pub nothing_look : (old new : View) → old.tells → Looks old new → WritesNothing old new
nothing_look old new tells looks = let run = looks.told tells in record { reads = run.only.reads; writes = run.only.writes }

pub wears_then : (old mid new : View) → WritesNothing old mid → WritesAtMost Disk 33 mid new → WritesAtMost Disk 33 old new
wears_then old mid new nothing second = writes_then Disk 0 33 old mid new (writes_none Disk 0 old mid nothing.writes) second

pub wears_look : (old new last : View) → WritesAtMost Disk 33 old new → WritesNothing new last → WritesAtMost Disk 33 old last
wears_look old new last first nothing = writes_then Disk 33 0 old new last first (writes_none Disk 0 new last nothing.writes)

pub wears_nothing : (old new : View) → WritesNothing old new → WritesAtMost Disk 33 old new
wears_nothing old new nothing = writes_none Disk 33 old new nothing.writes

-- the table and its copies are what they were
pub none_kept : (old mid : View) → ((a : Area) → mid.size a ≡ old.size a) → mid.reads ≡ old.reads → table_of (old.size Disk) (old.reads Disk) ≡ None → table_of (mid.size Disk) (mid.reads Disk) ≡ None
none_kept old mid sizes reads none = (λ i. table_of (sizes Disk i) (reads i Disk)) ∙ none

pub both_kept : (old mid : View) (t : Table) → ((a : Area) → mid.size a ≡ old.size a) → mid.reads ≡ old.reads → ReadsBoth (old.size Disk) (old.reads Disk) t → ReadsBoth (mid.size Disk) (mid.reads Disk) t
both_kept old mid t sizes reads both = subst (λ (T : Type 0). T) (λ i. ReadsBoth (sym (sizes Disk) i) (sym reads i Disk) t) both

-- What an opening leaves: it was settled, then the table was opened.
module _ (old one mid new : View) (tells : old.tells) (quiet : IsQuiet old one) (writes : one.writes ≡ old.writes) (looks : Looks one mid) where
  told_one : one.tells
  told_one = quiet.continues.still_tells tells

  pub quiet_mid : IsQuiet old mid
  quiet_mid = quiet_then old one mid quiet (quiet_look one mid told_one looks)

  pub nothing_mid : WritesNothing old mid
  nothing_mid = nothing_then old one mid (record { reads = quiet.reads; writes = writes }) (nothing_look one mid told_one looks)

  only_nothing : OnlyReads mid new → WritesNothing old new
  only_nothing only = nothing_then old mid new nothing_mid (record { reads = only.reads; writes = only.writes })

  pub none_unwritten : (table_of (mid.size Disk) (mid.reads Disk) ≡ None → OnlyReads mid new) → table_of (old.size Disk) (old.reads Disk) ≡ None → WritesNothing old new
  none_unwritten only none = only_nothing (only (none_kept old mid quiet_mid.continues.size quiet_mid.reads none))

  pub both_unwritten : ((t : Table) → ReadsBoth (mid.size Disk) (mid.reads Disk) t → OnlyReads mid new) → (t : Table) → ReadsBoth (old.size Disk) (old.reads Disk) t → WritesNothing old new
  both_unwritten only t both = only_nothing (only t (both_kept old mid t quiet_mid.continues.size quiet_mid.reads both))

  pub wears_opened : WritesAtMost Disk 33 mid new → WritesAtMost Disk 33 old new
  wears_opened second = wears_then old mid new nothing_mid second

  pub lesser_opened : TouchesLesser mid new → TouchesLesser old new
  lesser_opened second = lesser_then old mid new quiet_mid second
