use Rattle.std.proofs.Common.{◌≡◌, ℕ, ◌+◌, ◌≤◌, List, ◌++◌, length, take, sym, ap, ◌∙◌, arith, length-append, length-drop}
use Rattle.std.proofs.lemmas.List.{take_at}
use Rattle.bd_bytes.specs.Crc.{crc32_of}
use borrow.Rule.Slice.PartMut.{put_mid, post_of}
use Rattle.gpt_copy.specs.declared.table.Which.{Which}
use Rattle.gpt_copy.specs.declared.table.Which.TheVariants.{Primary, Backup}
use Rattle.gpt_copy.specs.Copy.{reading}
use Rattle.gpt_copy.specs.Entries.{entries_of}
use Rattle.gpt_copy.specs.Writing.{copy_spelling, entries_spelling, sector_spelling}
use Rattle.gpt_copy.proofs.HeaderReads.{copy-reads}
use Rattle.gpt_copy.proofs.Written.{post_put, put_last}
use Rattle.gpt_copy.proofs.writing.write_copy.Goals as goal

pub returns-in-Primary-clause-written : goal.returns-in-Primary-clause-written
unfolding copy_spelling
returns-in-Primary-clause-written c =
    let t = c.args.table.now in
    let last = c.args.last_lba in
    let entries = c.write_entries-checksum.new.out in
    let rest : post_of 0 512 (put_mid 512 16384 c.args.out.now entries) ≡ entries = post_put 512 16384 c.args.out.now entries (omega arith) in
    let header : c.write_sector.new.out ≡ sector_spelling t Primary last (crc32_of (entries_spelling t.entries)) =
    c.write_sector.ensures.is ∙ ap (sector_spelling t c.args.which last) c.write_entries-checksum.ensures.checksum
    ∙ ap (λ (w : Which). sector_spelling t w last (crc32_of (entries_spelling t.entries))) c.in-Primary.is in
    ap (λ (l : List ℕ). c.write_sector.new.out ++ l) (rest ∙ c.write_entries-checksum.ensures.written)
    ∙ ap (λ (l : List ℕ). l ++ entries_spelling t.entries) header
    ∙ ap (λ (w : Which). copy_spelling t w last) (sym c.in-Primary.is)

pub returns-in-Primary-clause-reads : goal.returns-in-Primary-clause-reads
returns-in-Primary-clause-reads c =
    let t = c.args.table.now in
    let e = c.write_entries-checksum.ensures in
    let are : entries_of (entries_spelling t.entries) ≡ t.entries = sym (ap entries_of e.written) ∙ e.reads in
    let long : length (entries_spelling t.entries) ≡ 16384 = sym (ap length e.written) ∙ omega arith in
    ap (reading c.args.which c.args.last_lba) (returns-in-Primary-clause-written c)
    ∙ copy-reads t c.args.which c.args.last_lba c.write_sector.ensures.disk (omega arith) c.requires.fits are long

pub returns-in-Backup-clause-written : goal.returns-in-Backup-clause-written
unfolding copy_spelling
returns-in-Backup-clause-written c =
    let t = c.args.table.now in
    let last = c.args.last_lba in
    let entries = c.write_entries-checksum-in-Backup.new.out in
    let long : length entries ≡ 16384 = omega arith in
    let front : take 16384 (entries ++ post_of 0 16384 c.args.out.now) ≡ entries = take_at entries (post_of 0 16384 c.args.out.now) 16384 long in
    let size : length (entries ++ post_of 0 16384 c.args.out.now) ≤ 16384 + 512 = omega (arith, length-append entries (post_of 0 16384 c.args.out.now), length-drop 16384 c.args.out.now) in
    let header : c.write_sector-in-Backup.new.out ≡ sector_spelling t Backup last (crc32_of (entries_spelling t.entries)) =
    c.write_sector-in-Backup.ensures.is ∙ ap (sector_spelling t c.args.which last) c.write_entries-checksum-in-Backup.ensures.checksum
    ∙ ap (λ (w : Which). sector_spelling t w last (crc32_of (entries_spelling t.entries))) c.in-Backup.is in
    put_last 16384 512 (entries ++ post_of 0 16384 c.args.out.now) c.write_sector-in-Backup.new.out entries size front
    ∙ ap (λ (l : List ℕ). l ++ c.write_sector-in-Backup.new.out) c.write_entries-checksum-in-Backup.ensures.written
    ∙ ap (λ (l : List ℕ). entries_spelling t.entries ++ l) header
    ∙ ap (λ (w : Which). copy_spelling t w last) (sym c.in-Backup.is)

pub returns-in-Backup-clause-reads : goal.returns-in-Backup-clause-reads
returns-in-Backup-clause-reads c =
    let t = c.args.table.now in
    let e = c.write_entries-checksum-in-Backup.ensures in
    let are : entries_of (entries_spelling t.entries) ≡ t.entries = sym (ap entries_of e.written) ∙ e.reads in
    let long : length (entries_spelling t.entries) ≡ 16384 = sym (ap length e.written) ∙ omega arith in
    ap (reading c.args.which c.args.last_lba) (returns-in-Backup-clause-written c)
    ∙ copy-reads t c.args.which c.args.last_lba c.write_sector-in-Backup.ensures.disk (omega arith) c.requires.fits are long
