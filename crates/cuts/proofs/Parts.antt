-- A cut of a part of a run is a cut of the run.
use Rattle.std.proofs.Common.{◌≡◌, inl, inr, ℕ, ◌+◌, ◌≤◌, List, ◌++◌, length, take, slice_get, Option, Some, None, IfSome, sym, ◌∙◌, subst, arith, length-append}
use Rattle.std.proofs.Math.Seq.{take-append-add}
use Rattle.std.proofs.lemmas.Bool.{cases_lt}
use Rattle.std.proofs.lemmas.List.{take-append-le}
use Rattle.std.proofs.lemmas.Option.{slice_get_past}
use Rattle.bd_dev.specs.declared.plant.Area.{Area}
use Rattle.bd_dev.specs.declared.plant.Area.TheVariants.{Disk}
use Rattle.bd_dev.specs.Content.{Image}
use Rattle.gpt_copy.specs.declared.table.Table.{Table}
use Rattle.gpt_copy.specs.declared.table.Which.TheVariants.{Primary, Backup}
use Rattle.storage_model.specs.Disk.{copy_of}
use Rattle.storage_model.specs.Copies.{OneOf, Only}
use Rattle.cuts.specs.declared.effect.Effect.{Effect}
use Rattle.cuts.specs.declared.effect.Effect.TheVariants.{Put, Sync, Table as SetTable, Vars as SetVars}
use Rattle.cuts.specs.States.{State, after, pending}
use Rattle.cuts.specs.Cuts.{IsCleanFor, IsCut, IsCutAt, IsSomeCleanCut, MayBeCut, MayBeCutAt, MayBeSomeCut}
use Rattle.cuts.proofs.Copying.{table_of_both}
use Rattle.cuts.proofs.Runs.{after-append, get_back, get_front, pending-append}

-- a cut at rest is one of whatever runs next

cut_rests : (size : Area → ℕ) (s : State) (U : ℕ → Type 0) (x : Option Effect) (c : Image) → IsCutAt size s U None c → IsCutAt size s U x c
cut_rests size s U None c cut = cut
cut_rests size s U (Some (Put lba bytes)) c cut = record { table = cut.table; variables = cut.variables; sectors = λ q lt off pends runs. cut.sectors q lt off pends (λ none. none) }
cut_rests size s U (Some Sync) c cut = record { table = cut.table; variables = cut.variables; sectors = cut.sectors }
cut_rests size s U (Some (SetTable t)) c cut = record { table = inl cut.table; variables = cut.variables; sectors = cut.sectors }
cut_rests size s U (Some (SetVars text)) c cut = record { table = cut.table; variables = inl cut.variables; sectors = cut.sectors }

may_rests : (size : Area → ℕ) (s : State) (U : ℕ → Type 0) (x : Option Effect) (c : Image) → MayBeCutAt size s U None c → MayBeCutAt size s U x c
may_rests size s U None c cut = cut
may_rests size s U (Some (Put lba bytes)) c cut = record { table = cut.table; variables = cut.variables; sectors = λ q lt off pends runs. cut.sectors q lt off pends (λ none. none) }
may_rests size s U (Some Sync) c cut = record { table = cut.table; variables = cut.variables; sectors = cut.sectors }
may_rests size s U (Some (SetTable t)) c cut = record { table = λ clean. inl (table_of_both (size Disk) (c Disk) s.table cut.table); variables = cut.variables; sectors = cut.sectors }
may_rests size s U (Some (SetVars text)) c cut = record { table = cut.table; variables = inl cut.variables; sectors = cut.sectors }

widen : (old new : Table) (copy : Option Table) → IfSome copy (Only old) → IfSome copy (OneOf old new)
widen old new None is = is
widen old new (Some t) is = inl is

clean_rests : (size : ℕ) (old : Table) (x : Option Effect) (c : Image) → IsCleanFor size old None c → IsCleanFor size old x c
clean_rests size old None c clean = clean
clean_rests size old (Some (Put lba bytes)) c clean = clean
clean_rests size old (Some Sync) c clean = clean
clean_rests size old (Some (SetTable t)) c clean = record { primary = widen old t (copy_of Primary size (c Disk)) clean.primary; backup = widen old t (copy_of Backup size (c Disk)) clean.backup }
clean_rests size old (Some (SetVars text)) c clean = clean

-- both at once
CleanCutAt : (Area → ℕ) → State → (ℕ → Type 0) → Option Effect → Image → Type 0
CleanCutAt size s U x c = MayBeCutAt size s U x c × IsCleanFor (size Disk) s.table x c

-- what all forms of cuts share
module _ (G : State → (ℕ → Type 0) → Option Effect → Image → Type 0)
    (rests : (s : State) (U : ℕ → Type 0) (x : Option Effect) (c : Image) → G s U None c → G s U x c)
    (s : State) (P : ℕ → Type 0) (xs ys : List Effect) where
  in_front : (k : ℕ) → k ≤ length xs → (c : Image) → G (after s (take k xs)) (pending P (take k xs)) (slice_get xs k) c → G (after s (take k (xs ++ ys))) (pending P (take k (xs ++ ys))) (slice_get (xs ++ ys) k) c
  in_front k le c cut = subst (λ (l : List Effect). G (after s l) (pending P l) (slice_get (xs ++ ys) k) c) (sym (take-append-le k xs ys le)) (elim (cases_lt k (length xs)) [
    | inl lt ↦ subst (λ (x : Option Effect). G (after s (take k xs)) (pending P (take k xs)) x c) (sym (get_front xs ys k lt)) cut
    | inr all ↦ rests (after s (take k xs)) (pending P (take k xs)) (slice_get (xs ++ ys) k) c (subst (λ (x : Option Effect). G (after s (take k xs)) (pending P (take k xs)) x c) (slice_get_past xs k all) cut)
  ])

  in_back : (k : ℕ) (c : Image) → G (after (after s xs) (take k ys)) (pending (pending P xs) (take k ys)) (slice_get ys k) c
      → G (after s (take (length xs + k) (xs ++ ys))) (pending P (take (length xs + k) (xs ++ ys))) (slice_get (xs ++ ys) (length xs + k)) c
  in_back k c cut = subst (λ (T : Type 0). T) same cut
    where
      same : G (after (after s xs) (take k ys)) (pending (pending P xs) (take k ys)) (slice_get ys k) c ≡ G (after s (take (length xs + k) (xs ++ ys))) (pending P (take (length xs + k) (xs ++ ys))) (slice_get (xs ++ ys) (length xs + k)) c
      same =
          (λ i. G (sym (after-append s xs (take k ys)) i) (sym (pending-append P xs (take k ys)) i) (sym (get_back xs ys k) i) c)
          ∙ (λ i. G (after s (sym (take-append-add xs ys k) i)) (pending P (sym (take-append-add xs ys k) i)) (slice_get (xs ++ ys) (length xs + k)) c)

pub cut_front : (size : Area → ℕ) (s : State) (P : ℕ → Type 0) (xs ys : List Effect) (k : ℕ) → k ≤ length xs → (c : Image) → IsCut size s P xs k c → IsCut size s P (xs ++ ys) k c
cut_front size s P xs ys = in_front (IsCutAt size) (cut_rests size) s P xs ys

pub cut_back : (size : Area → ℕ) (s : State) (P : ℕ → Type 0) (xs ys : List Effect) (k : ℕ) (c : Image) → IsCut size (after s xs) (pending P xs) ys k c → IsCut size s P (xs ++ ys) (length xs + k) c
cut_back size s P xs ys = in_back (IsCutAt size) (cut_rests size) s P xs ys

pub may_front : (size : Area → ℕ) (s : State) (P : ℕ → Type 0) (xs ys : List Effect) (k : ℕ) → k ≤ length xs → (c : Image) → MayBeCut size s P xs k c → MayBeCut size s P (xs ++ ys) k c
may_front size s P xs ys = in_front (MayBeCutAt size) (may_rests size) s P xs ys

pub may_back : (size : Area → ℕ) (s : State) (P : ℕ → Type 0) (xs ys : List Effect) (k : ℕ) (c : Image) → MayBeCut size (after s xs) (pending P xs) ys k c → MayBeCut size s P (xs ++ ys) (length xs + k) c
may_back size s P xs ys = in_back (MayBeCutAt size) (may_rests size) s P xs ys

pub some_front : (size : Area → ℕ) (s : State) (P : ℕ → Type 0) (xs ys : List Effect) (c : Image) → MayBeSomeCut size s P xs c → MayBeSomeCut size s P (xs ++ ys) c
some_front size s P xs ys c some = (some.0, omega (arith, some.1, length-append xs ys), may_front size s P xs ys some.0 some.1 c some.2)

pub some_back : (size : Area → ℕ) (s : State) (P : ℕ → Type 0) (xs ys : List Effect) (c : Image) → MayBeSomeCut size (after s xs) (pending P xs) ys c → MayBeSomeCut size s P (xs ++ ys) c
some_back size s P xs ys c some = (length xs + some.0, omega (arith, some.1, length-append xs ys), may_back size s P xs ys some.0 c some.2)

both_rest : (size : Area → ℕ) (s : State) (U : ℕ → Type 0) (x : Option Effect) (c : Image) → CleanCutAt size s U None c → CleanCutAt size s U x c
unfolding CleanCutAt
both_rest size s U x c both = (may_rests size s U x c both.0, clean_rests (size Disk) s.table x c both.1)

pub clean_front : (size : Area → ℕ) (s : State) (P : ℕ → Type 0) (xs ys : List Effect) (c : Image) → IsSomeCleanCut size s P xs c → IsSomeCleanCut size s P (xs ++ ys) c
unfolding CleanCutAt
clean_front size s P xs ys c some =
    let both = in_front (CleanCutAt size) (both_rest size) s P xs ys some.0 some.1 c (some.2, some.3) in
    (some.0, omega (arith, some.1, length-append xs ys), both.0, both.1)

pub clean_back : (size : Area → ℕ) (s : State) (P : ℕ → Type 0) (xs ys : List Effect) (c : Image) → IsSomeCleanCut size (after s xs) (pending P xs) ys c → IsSomeCleanCut size s P (xs ++ ys) c
unfolding CleanCutAt
clean_back size s P xs ys c some =
    let both = in_back (CleanCutAt size) (both_rest size) s P xs ys some.0 c (some.2, some.3) in
    (length xs + some.0, omega (arith, some.1, length-append xs ys), both.0, both.1)
