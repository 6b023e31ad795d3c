-- A header that is written is one whose rows hold, and it reads as the table's.
use Rattle.std.proofs.Common.{◌≡◌, ℕ, ◌+◌, ◌-◌, ◌^◌, ◌<◌, ◌==◌, Bool, false, true, ◌&&◌, if◌then◌else◌, nat_le, Some, None, List, [], ◌∷◌, ◌++◌, length, take, drop, replicate, refl, sym, ap, ◌∙◌, arith, length-append}
use Rattle.std.proofs.lemmas.Bool.{eq-eqb, le-leb}
use Rattle.std.proofs.lemmas.List.{append_assoc, drop-drop, drop_at, take_at}
use Rattle.byteorder.specs.Endian.{little_number}
use Rattle.byteorder.specs.Numbers.{little_number-reads_back}
use Rattle.bd_bytes.specs.Crc.{crc32_of}
use Rattle.bd_bytes.proofs.Checksum.{crc32_of-lt}
use Rattle.bd_text.specs.declared.guid.Guid.{Guid}
use Rattle.gpt_copy.specs.declared.table.Table.{Table}
use Rattle.gpt_copy.specs.declared.table.Which.{Which}
use Rattle.gpt_copy.specs.declared.table.Which.TheVariants.{Primary, Backup}
use Rattle.gpt_copy.specs.Copy.{FitsDisk, entry_bytes, header_of, reading, table_from}
use Rattle.gpt_copy.specs.Entries.{entries_of}
use Rattle.gpt_copy.specs.Header.{alternate_lba, entries_lba, own_lba, has_checksums, has_form, has_layout, has_parts, has_places, has_rows, has_usable, without_checksum}
use Rattle.gpt_copy.specs.Rows.{guid_at, number_at}
use Rattle.gpt_copy.specs.Writing.{bytes_4, bytes_8, copy_spelling, entries_spelling, rows_spelling, sector_spelling, signature}

abbrev guid_of : List ℕ → Guid
guid_of bytes = record { bytes = bytes }

-- the rows before the header's checksum
abbrev before : List ℕ
before = signature ++ bytes_4 0x00010000 ++ bytes_4 92

-- the rows behind it, up to the disk's GUID
abbrev between : Table → Which → ℕ → List ℕ
between t which last =
    bytes_4 0 ++ bytes_8 (own_lba which last) ++ bytes_8 (alternate_lba which last) ++ bytes_8 t.first_usable ++ bytes_8 t.last_usable

-- the rows behind the disk's GUID
abbrev behind : Which → ℕ → ℕ → List ℕ
behind which last checksum = bytes_8 (entries_lba which last) ++ bytes_4 128 ++ bytes_4 128 ++ bytes_4 checksum

-- the header's sector, with such checksums
abbrev sector : Table → Which → ℕ → ℕ → ℕ → List ℕ
sector t which last own checksum = rows_spelling t which last own checksum ++ replicate 420 0

-- the rows behind the header's checksum
abbrev after : Table → Which → ℕ → ℕ → List ℕ
after t which last checksum = between t which last ++ (t.disk.bytes ++ behind which last checksum)

grouped : (mark : List ℕ) (t : Table) (which : Which) (last own checksum : ℕ)
    → mark ++ bytes_4 0x00010000 ++ bytes_4 92 ++ bytes_4 own ++ bytes_4 0 ++ bytes_8 (own_lba which last) ++ bytes_8 (alternate_lba which last) ++ bytes_8 t.first_usable ++ bytes_8 t.last_usable
    ++ t.disk.bytes ++ bytes_8 (entries_lba which last) ++ bytes_4 128 ++ bytes_4 128 ++ bytes_4 checksum
    ≡ (mark ++ bytes_4 0x00010000 ++ bytes_4 92) ++ (bytes_4 own ++ after t which last checksum)
grouped mark t which last own checksum = simp append_assoc

rows-parts : (t : Table) (which : Which) (last own checksum : ℕ) → rows_spelling t which last own checksum ≡ before ++ (bytes_4 own ++ after t which last checksum)
unfolding rows_spelling
rows-parts t which last own checksum = grouped signature t which last own checksum

behind_rows : (front own rest zeros : List ℕ) → (front ++ (own ++ rest)) ++ zeros ≡ front ++ (own ++ (rest ++ zeros))
behind_rows front own rest zeros = simp append_assoc

behind_disk : (front disk rest zeros : List ℕ) → (front ++ (disk ++ rest)) ++ zeros ≡ front ++ (disk ++ (rest ++ zeros))
behind_disk front disk rest zeros = simp append_assoc

sector-parts : (t : Table) (which : Which) (last own checksum : ℕ) → sector t which last own checksum ≡ before ++ (bytes_4 own ++ (after t which last checksum ++ replicate 420 0))
sector-parts t which last own checksum =
    ap (λ (l : List ℕ). l ++ replicate 420 0) (rows-parts t which last own checksum) ∙ behind_rows before (bytes_4 own) (after t which last checksum) (replicate 420 0)

-- what is behind the header's checksum
to_after : (t : Table) (which : Which) (last own checksum : ℕ) → drop 20 (sector t which last own checksum) ≡ after t which last checksum ++ replicate 420 0
unfolding bytes_4
to_after t which last own checksum = ap (drop 20) (sector-parts t which last own checksum)

-- what is behind the rows up to the disk's GUID
to_disk : (t : Table) (which : Which) (last own checksum : ℕ) → drop 56 (sector t which last own checksum) ≡ t.disk.bytes ++ (behind which last checksum ++ replicate 420 0)
unfolding bytes_4 bytes_8
to_disk t which last own checksum =
    sym (drop-drop 36 20 (sector t which last own checksum))
    ∙ ap (drop 36) (to_after t which last own checksum ∙ behind_disk (between t which last) t.disk.bytes (behind which last checksum) (replicate 420 0))

past_disk : (t : Table) (which : Which) (last own checksum : ℕ) → length t.disk.bytes ≡ 16 → drop 72 (sector t which last own checksum) ≡ behind which last checksum ++ replicate 420 0
past_disk t which last own checksum disk =
    sym (drop-drop 16 56 (sector t which last own checksum)) ∙ ap (drop 16) (to_disk t which last own checksum) ∙ drop_at t.disk.bytes (behind which last checksum ++ replicate 420 0) 16 disk

-- what stands behind the disk's GUID
further : (n : ℕ) (t : Table) (which : Which) (last own checksum : ℕ) → length t.disk.bytes ≡ 16
    → drop (72 + n) (sector t which last own checksum) ≡ drop n (behind which last checksum ++ replicate 420 0)
further n t which last own checksum disk = sym (drop-drop n 72 (sector t which last own checksum)) ∙ ap (drop n) (past_disk t which last own checksum disk)

form-holds : (t : Table) (which : Which) (last own checksum : ℕ) → length t.disk.bytes ≡ 16 → has_form (sector t which last own checksum) ≡ true
unfolding bytes_4 bytes_8 rows_spelling
form-holds t which last own checksum disk =
    let count : number_at 80 4 (sector t which last own checksum) ≡ 128 = ap (little_number 4) (further 8 t which last own checksum disk) in
    let size : number_at 84 4 (sector t which last own checksum) ≡ 128 = ap (little_number 4) (further 12 t which last own checksum disk) in
    ap (λ (n : ℕ). (n == 128) && (number_at 84 4 (sector t which last own checksum) == 128)) count ∙ ap (λ (n : ℕ). n == 128) size

-- ---- the tests

and : (a b : Bool) → a ≡ true → b ≡ true → (a && b) ≡ true
and true b is also = also
and false b is also = cc

equal : (m n : ℕ) → m ≡ n → (m == n) ≡ true
equal m n same = eq-eqb m n same

-- ---- what the rows read as

first-reads : (t : Table) (which : Which) (last own checksum : ℕ) → t.first_usable < 256 ^ 8 → number_at 40 8 (sector t which last own checksum) ≡ t.first_usable
unfolding bytes_4 bytes_8 rows_spelling
first-reads t which last own checksum fits = little_number-reads_back 8 t.first_usable [] fits

last-reads : (t : Table) (which : Which) (last own checksum : ℕ) → t.last_usable < 256 ^ 8 → number_at 48 8 (sector t which last own checksum) ≡ t.last_usable
unfolding bytes_4 bytes_8 rows_spelling
last-reads t which last own checksum fits = little_number-reads_back 8 t.last_usable [] fits

own-reads : (t : Table) (which : Which) (last own checksum : ℕ) → own_lba which last < 256 ^ 8 → number_at 24 8 (sector t which last own checksum) ≡ own_lba which last
unfolding bytes_4 bytes_8 rows_spelling
own-reads t which last own checksum fits = little_number-reads_back 8 (own_lba which last) [] fits

alternate-reads : (t : Table) (which : Which) (last own checksum : ℕ) → alternate_lba which last < 256 ^ 8 → number_at 32 8 (sector t which last own checksum) ≡ alternate_lba which last
unfolding bytes_4 bytes_8 rows_spelling
alternate-reads t which last own checksum fits = little_number-reads_back 8 (alternate_lba which last) [] fits

entries-reads : (t : Table) (which : Which) (last own checksum : ℕ) → length t.disk.bytes ≡ 16 → entries_lba which last < 256 ^ 8
    → number_at 72 8 (sector t which last own checksum) ≡ entries_lba which last
unfolding bytes_4 bytes_8
entries-reads t which last own checksum disk fits =
    ap (little_number 8) (past_disk t which last own checksum disk) ∙ little_number-reads_back 8 (entries_lba which last) [] fits

sum-reads : (t : Table) (which : Which) (last own checksum : ℕ) → own < 256 ^ 4 → number_at 16 4 (sector t which last own checksum) ≡ own
unfolding bytes_4 bytes_8 rows_spelling
sum-reads t which last own checksum fits = little_number-reads_back 4 own [] fits

checksum-reads : (t : Table) (which : Which) (last own checksum : ℕ) → length t.disk.bytes ≡ 16 → checksum < 256 ^ 4 → number_at 88 4 (sector t which last own checksum) ≡ checksum
unfolding bytes_4 bytes_8
checksum-reads t which last own checksum disk fits =
    ap (little_number 4) (further 16 t which last own checksum disk) ∙ little_number-reads_back 4 checksum [] fits

disk-reads : (t : Table) (which : Which) (last own checksum : ℕ) → length t.disk.bytes ≡ 16 → guid_at 56 (sector t which last own checksum) ≡ t.disk
disk-reads t which last own checksum disk =
    let is : take 16 (drop 56 (sector t which last own checksum)) ≡ t.disk.bytes =
    ap (take 16) (to_disk t which last own checksum) ∙ take_at t.disk.bytes (behind which last checksum ++ replicate 420 0) 16 disk in
    ap (λ (b : List ℕ). guid_of b) is

length-after : (t : Table) (which : Which) (last checksum : ℕ) → length t.disk.bytes ≡ 16 → length (after t which last checksum) ≡ 72
unfolding bytes_4 bytes_8
length-after t which last checksum disk =
    omega (arith, length-append (between t which last) (t.disk.bytes ++ behind which last checksum), length-append t.disk.bytes (behind which last checksum))

-- without its checksum the header is that with zero in its place
cleared : (t : Table) (which : Which) (last own checksum : ℕ) → length t.disk.bytes ≡ 16 → without_checksum (sector t which last own checksum) ≡ rows_spelling t which last 0 checksum
unfolding bytes_4
cleared t which last own checksum disk =
    let front : take 16 (sector t which last own checksum) ≡ before = ap (take 16) (sector-parts t which last own checksum) in
    let rest : take 72 (drop 20 (sector t which last own checksum)) ≡ after t which last checksum =
    ap (take 72) (to_after t which last own checksum) ∙ take_at (after t which last checksum) (replicate 420 0) 72 (length-after t which last checksum disk) in
    ap (λ (l : List ℕ). l ++ 0 ∷ 0 ∷ 0 ∷ 0 ∷ take 72 (drop 20 (sector t which last own checksum))) front
    ∙ ap (λ (l : List ℕ). before ++ 0 ∷ 0 ∷ 0 ∷ 0 ∷ l) rest
    ∙ sym (rows-parts t which last 0 checksum)

-- ---- the whole

own-fits : (which : Which) (last : ℕ) → last < 256 ^ 8 → own_lba which last < 256 ^ 8
own-fits Primary last fits = omega arith
own-fits Backup last fits = fits

alternate-fits : (which : Which) (last : ℕ) → last < 256 ^ 8 → alternate_lba which last < 256 ^ 8
alternate-fits Primary last fits = fits
alternate-fits Backup last fits = omega arith

entries-fits : (which : Which) (last : ℕ) → last < 256 ^ 8 → entries_lba which last < 256 ^ 8
entries-fits Primary last fits = omega arith
entries-fits Backup last fits = omega arith

usable-holds : (t : Table) (which : Which) (last own checksum : ℕ) → last < 256 ^ 8 → FitsDisk last t → has_usable last (sector t which last own checksum) ≡ true
usable-holds t which last own checksum fits disk =
    let s = sector t which last own checksum in
    let low : number_at 40 8 s ≡ t.first_usable = first-reads t which last own checksum (omega (arith, disk.from, disk.ordered, disk.until)) in
    let high : number_at 48 8 s ≡ t.last_usable = last-reads t which last own checksum (omega (arith, disk.ordered, disk.until)) in
    and (nat_le 34 (number_at 40 8 s) && nat_le (number_at 40 8 s) (number_at 48 8 s)) (nat_le (number_at 48 8 s) (last - 33))
    (and (nat_le 34 (number_at 40 8 s)) (nat_le (number_at 40 8 s) (number_at 48 8 s))
    (le-leb 34 (number_at 40 8 s) (omega (arith, low, disk.from)))
    (le-leb (number_at 40 8 s) (number_at 48 8 s) (omega (arith, low, high, disk.ordered))))
    (le-leb (number_at 48 8 s) (last - 33) (omega (arith, high, disk.until)))

parts-hold : (t : Table) (which : Which) (last own checksum : ℕ) → length t.disk.bytes ≡ 16 → last < 256 ^ 8 → has_parts which last (sector t which last own checksum) ≡ true
parts-hold t which last own checksum disk fits =
    let s = sector t which last own checksum in
    and ((number_at 24 8 s == own_lba which last) && (number_at 32 8 s == alternate_lba which last)) (number_at 72 8 s == entries_lba which last)
    (and (number_at 24 8 s == own_lba which last) (number_at 32 8 s == alternate_lba which last)
    (equal (number_at 24 8 s) (own_lba which last) (own-reads t which last own checksum (own-fits which last fits)))
    (equal (number_at 32 8 s) (alternate_lba which last) (alternate-reads t which last own checksum (alternate-fits which last fits))))
    (equal (number_at 72 8 s) (entries_lba which last) (entries-reads t which last own checksum disk (entries-fits which last fits)))

checksums-hold : (t : Table) (which : Which) (last own checksum : ℕ) (entries : List ℕ) → length t.disk.bytes ≡ 16 → own ≡ crc32_of (rows_spelling t which last 0 checksum) → checksum ≡ crc32_of entries
    → has_checksums (sector t which last own checksum) entries ≡ true
checksums-hold t which last own checksum entries disk is_own is_checksum =
    let s = sector t which last own checksum in
    let own_fits : own < 256 ^ 4 = omega (arith, is_own, crc32_of-lt (rows_spelling t which last 0 checksum)) in
    let checksum_fits : checksum < 256 ^ 4 = omega (arith, is_checksum, crc32_of-lt entries) in
    and (number_at 16 4 s == crc32_of (without_checksum s)) (number_at 88 4 s == crc32_of entries)
    (equal (number_at 16 4 s) (crc32_of (without_checksum s)) (sum-reads t which last own checksum own_fits ∙ is_own ∙ ap crc32_of (sym (cleared t which last own checksum disk))))
    (equal (number_at 88 4 s) (crc32_of entries) (checksum-reads t which last own checksum disk checksum_fits ∙ is_checksum))

-- all rows hold of the sector that is written for entries
pub sector-holds : (t : Table) (which : Which) (last checksum : ℕ) (entries : List ℕ) → length t.disk.bytes ≡ 16 → last < 256 ^ 8 → FitsDisk last t → checksum ≡ crc32_of entries
    → has_rows which last (sector_spelling t which last checksum) entries ≡ true
unfolding sector_spelling
sector-holds t which last checksum entries disk fits usable is =
    let own = crc32_of (rows_spelling t which last 0 checksum) in
    let s = sector t which last own checksum in
    and (has_layout which last s) (has_checksums s entries)
    (and (has_form s) (has_places which last s) (form-holds t which last own checksum disk)
    (and (has_usable last s) (has_parts which last s) (usable-holds t which last own checksum fits usable) (parts-hold t which last own checksum disk fits)))
    (checksums-hold t which last own checksum entries disk refl is)

-- and it reads as the table's header
pub sector-reads : (t : Table) (which : Which) (last checksum : ℕ) (entries : List ℕ) → length t.disk.bytes ≡ 16 → last < 256 ^ 8 → FitsDisk last t → entries_of entries ≡ t.entries
    → table_from (sector_spelling t which last checksum) entries ≡ t
unfolding sector_spelling table_from
sector-reads t which last checksum entries disk fits usable are =
    let own = crc32_of (rows_spelling t which last 0 checksum) in
    let low = first-reads t which last own checksum (omega (arith, usable.from, usable.ordered, usable.until)) in
    let high = last-reads t which last own checksum (omega (arith, usable.ordered, usable.until)) in
    let guid = disk-reads t which last own checksum disk in
    rw (guid, low, high, are) refl

pub length-sector : (t : Table) (which : Which) (last checksum : ℕ) → length t.disk.bytes ≡ 16 → length (sector_spelling t which last checksum) ≡ 512
unfolding sector_spelling bytes_4
length-sector t which last checksum disk =
    let own = crc32_of (rows_spelling t which last 0 checksum) in
    ap length (sector-parts t which last own checksum)
    ∙ omega (arith, length-append (after t which last checksum) (replicate 420 0), length-after t which last checksum disk)

-- ---- a copy

reading-is : (t : Table) (which : Which) (last : ℕ) (bytes header entries : List ℕ) → header_of which bytes ≡ header → entry_bytes which bytes ≡ entries
    → has_rows which last header entries ≡ true → table_from header entries ≡ t → reading which last bytes ≡ Some t
unfolding reading
reading-is t which last bytes header entries is_header is_entries holds is =
    ap (λ (h : List ℕ). if has_rows which last h (entry_bytes which bytes) then Some (table_from h (entry_bytes which bytes)) else None) is_header
    ∙ ap (λ (e : List ℕ). if has_rows which last header e then Some (table_from header e) else None) is_entries
    ∙ ap (λ (b : Bool). if b then Some (table_from header entries) else None) holds
    ∙ ap Some is

-- what is written reads as the table
pub copy-reads : (t : Table) (which : Which) (last : ℕ) → length t.disk.bytes ≡ 16 → last < 256 ^ 8 → FitsDisk last t → entries_of (entries_spelling t.entries) ≡ t.entries
    → length (entries_spelling t.entries) ≡ 16384 → reading which last (copy_spelling t which last) ≡ Some t
unfolding copy_spelling
copy-reads t Primary last disk fits usable are long =
    let entries = entries_spelling t.entries in
    let header = sector_spelling t Primary last (crc32_of entries) in
    let size = length-sector t Primary last (crc32_of entries) disk in
    reading-is t Primary last (header ++ entries) header entries (take_at header entries 512 size) (drop_at header entries 512 size)
    (sector-holds t Primary last (crc32_of entries) entries disk fits usable refl) (sector-reads t Primary last (crc32_of entries) entries disk fits usable are)
copy-reads t Backup last disk fits usable are long =
    let entries = entries_spelling t.entries in
    let header = sector_spelling t Backup last (crc32_of entries) in
    reading-is t Backup last (entries ++ header) header entries (drop_at entries header 16384 long) (take_at entries header 16384 long)
    (sector-holds t Backup last (crc32_of entries) entries disk fits usable refl) (sector-reads t Backup last (crc32_of entries) entries disk fits usable are)
