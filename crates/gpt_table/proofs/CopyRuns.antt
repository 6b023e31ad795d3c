-- Runs that write one copy, while the other stands.
use Rattle.std.proofs.Common.{◌≡◌, ◌⊎◌, inl, inr, ℕ, ◌+◌, ◌-◌, ◌*◌, ◌/◌, ◌<◌, ◌≤◌, List, length, Some, sym, subst, ◌∙◌, ap, arith}
use Rattle.bd_dev.specs.declared.plant.Area.{Area}
use Rattle.bd_dev.specs.declared.plant.Area.TheVariants.{Disk}
use Rattle.bd_dev.specs.Content.{Image, SameSector, window}
use Rattle.bd_dev.specs.Plant.{View}
use Rattle.bd_dev.proofs.Windows.{at_byte, same_window}
use Rattle.storage_model.specs.Copies.{AgreesOffTable, KeepsOffTable, OffCopies, OffTable, TouchesCopies, other_copy}
use Rattle.gpt_copy.specs.declared.table.Table.{Table}
use Rattle.gpt_copy.specs.declared.table.Which.{Which}
use Rattle.gpt_copy.specs.declared.table.Which.TheVariants.{Primary, Backup}
use Rattle.gpt_copy.specs.Copy.{reading}
use Rattle.bd_dev.specs.Runs.{Looks}
use Rattle.bd_dev.specs.Touching.{AgreesOutside, IsWritten, KeepsSynced, Touches}
use Rattle.bd_dev.proofs.Joins.{continues_then, leaves_then, reads_then, same_sector_trans}
use Rattle.bd_dev.proofs.Touch.{leaves_weaker, reads_weaker, touch_look}
use Rattle.storage_model.specs.Disk.{copy_lba, copy_of}
use Rattle.gpt_table.specs.Copies.{IsCopyWritten}

-- a sector of a copy
abbrev InCopy : Which → ℕ → ℕ → Type 0
InCopy which size s = (copy_lba which size ≤ s) × (s < copy_lba which size + 33)

-- contents that agree on a copy's sectors read it alike
pub copy_same : (which : Which) (size : ℕ) (z c : ℕ → ℕ) → ((s : ℕ) → InCopy which size s → SameSector z c s) → copy_of which size c ≡ copy_of which size z
copy_same which size z c same =
    let lba = copy_lba which size in
    ap (reading which (size - 1)) (same_window z c (512 * lba) 16896 (λ k low high. at_byte z c k (same (k / 512) (omega arith, omega arith))))

-- the copies are apart
apart : (which : Which) (size s : ℕ) → 68 ≤ size → InCopy (other_copy which) size s → (s < copy_lba which size) ⊎ (copy_lba which size + 33 ≤ s)
apart Primary size s large here = inr (let low = here.0 in omega arith)
apart Backup size s large here = inl (let high = here.1 in omega arith)

-- a sector off both copies is in neither
off_one : (which : Which) (size s : ℕ) → 68 ≤ size → OffCopies size s → (s < copy_lba which size) ⊎ (copy_lba which size + 33 ≤ s)
off_one Primary size s large (inl start) = inl (omega arith)
off_one Primary size s large (inr between) = let low = between.0 in inr (omega arith)
off_one Backup size s large (inl start) = inl (omega arith)
off_one Backup size s large (inr between) = let high = between.1 in inl (omega arith)

in_no_gap : (which : Which) (size s : ℕ) → 68 ≤ size → InCopy which size s → OffCopies size s → ⊥
in_no_gap Primary size s large here (inl start) = let low = here.0 in omega arith
in_no_gap Primary size s large here (inr between) = let low = between.0 in let high = here.1 in omega arith
in_no_gap Backup size s large here (inl start) = let low = here.0 in omega arith
in_no_gap Backup size s large here (inr between) = let high = between.1 in let low = here.0 in omega arith

module _ (which : Which) (size : ℕ) (large : 68 ≤ size) where
  -- the other copy is as it was
  pub other_agrees : (z c : Image) → AgreesOutside Disk (copy_lba which size) 33 z c → copy_of (other_copy which) size (c Disk) ≡ copy_of (other_copy which) size (z Disk)
  other_agrees z c agrees = copy_same (other_copy which) size (z Disk) (c Disk) (λ s here. agrees Disk s (λ same. apart which size s large here))

  -- the other copy stands, where it was synced
  pub other_stands : (v : View) (c : Image) → ((s : ℕ) → v.unsynced Disk s → OffCopies size s) → KeepsSynced Disk (copy_lba which size) 33 v c → copy_of (other_copy which) size (c Disk) ≡ copy_of (other_copy which) size (v.reads Disk)
  other_stands v c synced keeps = copy_same (other_copy which) size (v.reads Disk) (c Disk)
      (λ s here. keeps Disk s (λ same. apart which size s large here) (λ un. in_no_gap (other_copy which) size s large here (synced s un)))

-- a run that touches a copy touches the copies
pub touches_copies : (which : Which) (size : ℕ) (old new : View) → size ≡ old.size Disk → 68 ≤ size → Touches Disk (copy_lba which size) 33 old new → TouchesCopies old new
touches_copies which size old new is large touches = record {
  continues = touches.continues;
  told = λ tells.
      let run = touches.told tells in
      record {
        reads = λ a s off. run.reads a s (λ same. outside s (off same));
        unsynced = λ a s off. run.unsynced a s (λ same. outside s (off same));
        crash = leaves_weaker old new _ _ run.crash (λ c keeps a s off. keeps a s (λ same. outside s (off same)));
        between = reads_weaker old new _ _ run.between (λ c agrees a s off. agrees a s (λ same. outside s (off same)));
      };
}
  where
    outside : (s : ℕ) → OffCopies (old.size Disk) s → (s < copy_lba which size) ⊎ (copy_lba which size + 33 ≤ s)
    outside s off = off_one which size s large (subst (λ (n : ℕ). OffCopies n s) (sym is) off)

-- a run that only reads
pub look_touches : (old new : View) → Looks old new → TouchesCopies old new
look_touches old new looks =
    let touches = touch_look Disk 0 0 old new looks in
    record {
      continues = touches.continues;
      told = λ tells.
          let run = touches.told tells in
          let none : (a : Area) (s : ℕ) → (a ≡ Disk) → (s < 0) ⊎ (0 + 0 ≤ s) = λ a s same. inr (omega arith) in
          record {
            reads = λ a s off. run.reads a s (none a s);
            unsynced = λ a s off. run.unsynced a s (none a s);
            crash = leaves_weaker old new _ _ run.crash (λ c keeps a s off. keeps a s (none a s));
            between = reads_weaker old new _ _ run.between (λ c agrees a s off. agrees a s (none a s));
          };
    }

-- some calls, and then some more
pub copies_then : (old mid new : View) → TouchesCopies old mid → TouchesCopies mid new → TouchesCopies old new
copies_then old mid new first second = record {
  continues = continues_then old mid new first.continues second.continues;
  told = λ tells.
      let one = first.told tells in
      let two = second.told (first.continues.still_tells tells) in
      record {
        reads = λ a s off. same_sector_trans (old.reads a) (mid.reads a) (new.reads a) s (one.reads a s off) (two.reads a s (later a s off));
        unsynced = λ a s off un. one.unsynced a s off (two.unsynced a s (later a s off) un);
        crash = leaves_then old mid new (KeepsOffTable old) (KeepsOffTable mid) one.crash two.crash
            (λ c keeps a s off synced. same_sector_trans (old.reads a) (mid.reads a) (c a) s (one.reads a s off) (keeps a s (later a s off) (λ un. synced (one.unsynced a s off un))));
        between = reads_then old mid new (AgreesOffTable (old.size Disk) old.reads) (AgreesOffTable (mid.size Disk) mid.reads) one.between two.between
            (λ c agrees a s off. same_sector_trans (old.reads a) (mid.reads a) (c a) s (one.reads a s off) (agrees a s (later a s off)));
      };
}
  where
    later : (a : Area) (s : ℕ) → OffTable (old.size Disk) a s → OffTable (mid.size Disk) a s
    later a s off same = subst (λ (n : ℕ). OffCopies n s) (sym (first.continues.size Disk)) (off same)

-- bytes that were written over a copy, and are read so
pub written_copy : (which : Which) (size : ℕ) (t : Table) (lba : ℕ) (bytes : List ℕ) (z c : Image) → lba ≡ copy_lba which size → length bytes ≡ 16896 → reading which (size - 1) bytes ≡ Some t
    → IsWritten Disk lba bytes z c → IsCopyWritten which size t z c
written_copy which size t lba bytes z c at long reads written = record {
  outside = subst (λ (n : ℕ). AgreesOutside Disk n 33 z c) at (subst (λ (n : ℕ). AgreesOutside Disk lba n z c) (let n33 : length bytes / 512 ≡ 33 = omega (arith, long) in n33) written.outside);
  inside = ap (λ (n : ℕ). reading which (size - 1) (window (c Disk) (512 * n) 16896)) (sym at) ∙ ap (λ (n : ℕ). reading which (size - 1) (window (c Disk) (512 * lba) n)) (sym long) ∙ ap (reading which (size - 1)) written.inside ∙ reads;
}
