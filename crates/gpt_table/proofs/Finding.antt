-- Which copy's table is found, by what the copies read as.
use Rattle.std.proofs.Common.{◌≡◌, ℕ, ◌<◌, ◌≤◌, Bool, true, false, if◌then◌else◌, nat_lt, Option, Some, None, refl, sym, subst, ◌∙◌, ap}
use Rattle.std.specs.Prelude.{option_map}
use Rattle.std.proofs.lemmas.Bool.{lt-ltb, le-ltb}
use Rattle.gpt_copy.specs.declared.table.Table.{Table}
use Rattle.gpt_copy.specs.declared.table.Which.{Which}
use Rattle.gpt_copy.specs.declared.table.Which.TheVariants.{Primary, Backup}
use Rattle.storage_model.specs.Disk.{Found, copy_of, found, found_in, or_else, least_disk, table_of}

-- what is found, by whether the disk is too small and what its copies read as
abbrev by_copies : Bool → Option Table → Option Table → Option Found
by_copies small primary backup = if small then None else or_else (found_in Primary primary) (found_in Backup backup)

found_by : (size : ℕ) (disk : ℕ → ℕ) (small : Bool) (primary backup : Option Table)
    → nat_lt size least_disk ≡ small → copy_of Primary size disk ≡ primary → copy_of Backup size disk ≡ backup → found size disk ≡ by_copies small primary backup
unfolding found
found_by size disk small primary backup s p b =
    ap (λ (x : Bool). by_copies x (copy_of Primary size disk) (copy_of Backup size disk)) s
    ∙ ap (λ (x : Option Table). by_copies small x (copy_of Backup size disk)) p
    ∙ ap (λ (x : Option Table). by_copies small primary x) b

pub found_small : (size : ℕ) (disk : ℕ → ℕ) → size < 68 → found size disk ≡ None
found_small size disk lt =
    let small : nat_lt size least_disk ≡ true = lt-ltb size 68 lt in
    found_by size disk true (copy_of Primary size disk) (copy_of Backup size disk) small (λ i. copy_of Primary size disk) (λ i. copy_of Backup size disk)

pub found_primary : (size : ℕ) (disk : ℕ → ℕ) (t : Table) → 68 ≤ size → copy_of Primary size disk ≡ Some t → found size disk ≡ Some (record { table = t; copy = Primary })
found_primary size disk t le p =
    let large : nat_lt size least_disk ≡ false = le-ltb size 68 le in
    found_by size disk false (Some t) (copy_of Backup size disk) large p (λ i. copy_of Backup size disk)

pub found_backup : (size : ℕ) (disk : ℕ → ℕ) (t : Table) → 68 ≤ size → copy_of Primary size disk ≡ None → copy_of Backup size disk ≡ Some t → found size disk ≡ Some (record { table = t; copy = Backup })
found_backup size disk t le p b =
    let large : nat_lt size least_disk ≡ false = le-ltb size 68 le in
    found_by size disk false None (Some t) large p b

pub found_none : (size : ℕ) (disk : ℕ → ℕ) → 68 ≤ size → copy_of Primary size disk ≡ None → copy_of Backup size disk ≡ None → found size disk ≡ None
found_none size disk le p b =
    let large : nat_lt size least_disk ≡ false = le-ltb size 68 le in
    found_by size disk false None None large p b

-- the disk's table, by the same
pub table_found : (size : ℕ) (disk : ℕ → ℕ) (found_so : Option Found) → found size disk ≡ found_so → table_of size disk ≡ option_map (λ f. f.table) found_so
table_found size disk found_so is = ap (λ (o : Option Found). option_map (λ f. f.table) o) is

pub table_primary : (size : ℕ) (disk : ℕ → ℕ) (t : Table) → 68 ≤ size → copy_of Primary size disk ≡ Some t → table_of size disk ≡ Some t
table_primary size disk t le p = table_found size disk _ (found_primary size disk t le p)

pub table_backup : (size : ℕ) (disk : ℕ → ℕ) (t : Table) → 68 ≤ size → copy_of Primary size disk ≡ None → copy_of Backup size disk ≡ Some t → table_of size disk ≡ Some t
table_backup size disk t le p b = table_found size disk _ (found_backup size disk t le p b)

some_inj : (a b : Found) → Some a ≡ Some b → a ≡ b
some_inj a b same = cc

-- what is found is the copy's table, and the backup's only where the primary has none
pub found_tells : (size : ℕ) (disk : ℕ → ℕ) (t : Table) (which : Which) → 68 ≤ size → found size disk ≡ Some (record { table = t; copy = which }) → (copy_of which size disk ≡ Some t) × (which ≡ Backup → copy_of Primary size disk ≡ None)
found_tells size disk t which le is = by_copy (copy_of Primary size disk) (copy_of Backup size disk) refl refl
  where
    by_copy : (p b : Option Table) → copy_of Primary size disk ≡ p → copy_of Backup size disk ≡ b → (copy_of which size disk ≡ Some t) × (which ≡ Backup → copy_of Primary size disk ≡ None)
    by_copy (Some x) b p_is b_is =
        let same = some_inj (record { table = x; copy = Primary }) (record { table = t; copy = which }) (sym (found_primary size disk x le p_is) ∙ is) in
        let copy : Primary ≡ which = ap (λ (f : Found). f.copy) same in
        (subst (λ (w : Which). copy_of w size disk ≡ Some t) copy (p_is ∙ ap (λ (f : Found). Some f.table) same), λ backup. absurd cc)
    by_copy None (Some x) p_is b_is =
        let same = some_inj (record { table = x; copy = Backup }) (record { table = t; copy = which }) (sym (found_backup size disk x le p_is b_is) ∙ is) in
        (subst (λ (w : Which). copy_of w size disk ≡ Some t) (ap (λ (f : Found). f.copy) same) (b_is ∙ ap (λ (f : Found). Some f.table) same), λ backup. p_is)
    by_copy None None p_is b_is = let no = sym (found_none size disk le p_is b_is) ∙ is in absurd cc
