-- What the copies of the table read as, and the disk's table.
use Rattle.std.proofs.Common.{◌≡◌, inl, inr, ℕ, ◌+◌, ◌-◌, ◌*◌, ◌/◌, ◌<◌, ◌≤◌, List, Option, Some, None, Bool, true, false, cond, ◌&&◌, nat_le, nat_lt, refl, sym, ◌∙◌, ap, subst, arith}
use Rattle.std.proofs.lemmas.Bool.{leb-true, le-ltb}
use Rattle.std.specs.Option.{option_map}
use Rattle.bd_dev.specs.Content.{SameSector}
use Rattle.bd_dev.proofs.Windows.{at_byte, same_window}
use Rattle.gpt_copy.specs.declared.table.Table.{Table}
use Rattle.gpt_copy.specs.declared.table.Which.{Which}
use Rattle.gpt_copy.specs.declared.table.Which.TheVariants.{Primary, Backup}
use Rattle.gpt_copy.specs.Copy.{FitsDisk, entry_bytes, header_of, is_readable, reading, table_from}
use Rattle.gpt_copy.specs.Header.{has_checksums, has_form, has_layout, has_parts, has_usable}
use Rattle.gpt_copy.specs.Rows.{number_at}
use Rattle.storage_model.specs.Disk.{Found, copy_bytes, copy_lba, copy_of, found, found_in, or_else, table_of}
use Rattle.storage_model.specs.Copies.{OffCopies, ReadsBoth}

left : (a b : Bool) → (a && b) ≡ true → a ≡ true
left true b is = refl
left false b is = is

right : (a b : Bool) → (a && b) ≡ true → b ≡ true
right true b is = is
right false b is = cc

-- a readable copy's usable range lies between the copies
readable_fits : (which : Which) (last : ℕ) (bytes : List ℕ) → is_readable which last bytes ≡ true → FitsDisk last (table_from (header_of which bytes) (entry_bytes which bytes))
unfolding table_from
readable_fits which last bytes rows =
    let header = header_of which bytes in
    let layout = left (has_layout which last header) (has_checksums header (entry_bytes which bytes)) rows in
    let places = right (has_form header) (has_usable last header && has_parts which last header) layout in
    let usable = left (has_usable last header) (has_parts which last header) places in
    let low = number_at 40 8 header in
    let high = number_at 48 8 header in
    let last_usable = last - 33 in
    let both = left (nat_le 34 low && nat_le low high) (nat_le high last_usable) usable in
    let from : 34 ≤ low = leb-true 34 low (left (nat_le 34 low) (nat_le low high) both) in
    let ordered : low ≤ high = leb-true low high (right (nat_le 34 low) (nat_le low high) both) in
    let until : high ≤ last - 33 = leb-true high last_usable (right (nat_le 34 low && nat_le low high) (nat_le high last_usable) usable) in
    record { from = from; ordered = ordered; until = omega (arith, from, ordered, until) }

reading_fits : (which : Which) (last : ℕ) (bytes : List ℕ) (t : Table) → reading which last bytes ≡ Some t → FitsDisk last t
unfolding reading
reading_fits which last bytes t is = by_test (is_readable which last bytes) refl
  where
    read : Table
    read = table_from (header_of which bytes) (entry_bytes which bytes)

    by_test : (b : Bool) → is_readable which last bytes ≡ b → FitsDisk last t
    by_test true test =
        let one : Some read ≡ Some t = sym (ap (λ b. cond b (Some read) None) test) ∙ is in
        let same : read ≡ t = cc in
        subst (λ (x : Table). FitsDisk last x) same (readable_fits which last bytes test)
    by_test false test =
        let none : None ≡ Some t = sym (ap (λ b. cond b (Some read) None) test) ∙ is in
        cc

pub copy_fits : (which : Which) (size : ℕ) (z : ℕ → ℕ) (t : Table) → copy_of which size z ≡ Some t → FitsDisk (size - 1) t
copy_fits which size z t is = reading_fits which (size - 1) (copy_bytes which size z) t is

-- so a disk with a readable copy has room for both copies and a usable sector
pub copy_room : (which : Which) (size : ℕ) (z : ℕ → ℕ) (t : Table) → copy_of which size z ≡ Some t → 68 ≤ size
copy_room which size z t is = let fits = copy_fits which size z t is in omega (arith, fits.from, fits.ordered, fits.until)

-- the disk's table is that of a copy
pub table_fits : (size : ℕ) (z : ℕ → ℕ) (t : Table) → table_of size z ≡ Some t → FitsDisk (size - 1) t
unfolding found
table_fits size z t is = by_room (nat_lt size 68) refl
  where
    by_copies : (p b : Option Table) → copy_of Primary size z ≡ p → copy_of Backup size z ≡ b → option_map (λ (f : Found). f.table) (or_else (found_in Primary p) (found_in Backup b)) ≡ Some t → FitsDisk (size - 1) t
    by_copies (Some x) b first second here = copy_fits Primary size z t (first ∙ here)
    by_copies None (Some x) first second here = copy_fits Backup size z t (second ∙ here)
    by_copies None None first second here = cc

    by_room : (small : Bool) → nat_lt size 68 ≡ small → FitsDisk (size - 1) t
    by_room true test =
        let none : None ≡ Some t = sym (ap (λ (b : Bool). option_map (λ (f : Found). f.table) (cond b None (or_else (found_in Primary (copy_of Primary size z)) (found_in Backup (copy_of Backup size z))))) test) ∙ is in
        cc
    by_room false test = by_copies (copy_of Primary size z) (copy_of Backup size z) refl refl
        (sym (ap (λ (b : Bool). option_map (λ (f : Found). f.table) (cond b None (or_else (found_in Primary (copy_of Primary size z)) (found_in Backup (copy_of Backup size z))))) test) ∙ is)

-- where both copies read as a table, it is the disk's
pub table_of_both : (size : ℕ) (z : ℕ → ℕ) (t : Table) → ReadsBoth size z t → table_of size z ≡ Some t
unfolding found
table_of_both size z t both =
    let room : nat_lt size 68 ≡ false = le-ltb size 68 (copy_room Primary size z t both.primary) in
    ap (λ (b : Bool). option_map (λ (f : Found). f.table) (cond b None (or_else (found_in Primary (copy_of Primary size z)) (found_in Backup (copy_of Backup size z))))) room
    ∙ ap (λ (o : Option Table). option_map (λ (f : Found). f.table) (or_else (found_in Primary o) (found_in Backup (copy_of Backup size z)))) both.primary

-- a copy reads as its 33 sectors do
copy_kept : (which : Which) (size : ℕ) (z c : ℕ → ℕ) → ((q : ℕ) → copy_lba which size ≤ q → q < copy_lba which size + 33 → SameSector z c q) → copy_of which size c ≡ copy_of which size z
copy_kept which size z c same = ap (λ (l : List ℕ). reading which (size - 1) l)
    (same_window z c (512 * copy_lba which size) 16896 (λ k le lt. at_byte z c k (same (k / 512) (omega arith) (omega arith))))

in_primary : (size q : ℕ) → 1 ≤ q → q < 34 → OffCopies size q → ⊥
in_primary size q le lt (inl start) = omega arith
in_primary size q le lt (inr between) = omega (arith, between.0)

in_backup : (size q : ℕ) → 68 ≤ size → size - 33 ≤ q → OffCopies size q → ⊥
in_backup size q large le (inl start) = omega arith
in_backup size q large le (inr between) = omega (arith, between.1)

-- both copies stand where all sectors but some off the copies do
pub both_kept : (size : ℕ) (z c : ℕ → ℕ) (t : Table) → ReadsBoth size z t → ((q : ℕ) → (OffCopies size q → ⊥) → SameSector z c q) → ReadsBoth size c t
both_kept size z c t both same = record {
  primary = copy_kept Primary size z c (λ q le lt. same q (in_primary size q le lt)) ∙ both.primary;
  backup = copy_kept Backup size z c (λ q le lt. same q (in_backup size q (copy_room Primary size z t both.primary) le)) ∙ both.backup;
}
