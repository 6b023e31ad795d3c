use Rattle.std.proofs.Common.{◌≡◌, ℕ, ◌+◌, length, take, sym, ap, ◌∙◌, arith}
use Rattle.std.proofs.lemmas.List.{take_all}
use Rattle.bd_bytes.specs.Crc.{crc32_of}
use Rattle.gpt_copy.specs.Writing.{rows_spelling, sector_spelling}
use Rattle.gpt_copy.proofs.Written.{row}
use Rattle.gpt_copy.proofs.writing.header.write_sector.Goals as goal

pub returns-clause-is : goal.returns-clause-is
unfolding sector_spelling
returns-clause-is c =
    let t = c.args.table.now in
    let rows = rows_spelling t c.args.which c.args.last_lba in
    let header = c.header_with-header.ensures.is ∙ ap (λ (n : ℕ). rows n c.args.checksum) (c.crc32.ensures ∙ ap crc32_of c.header_with-cleared.ensures.is) in
    let size : 92 ≡ 0 + length c.header_with-header.result = omega arith in
    let front : take 92 c.write_bytes.new.out ≡ c.header_with-header.result = ap (λ (n : ℕ). take n c.write_bytes.new.out) size ∙ c.write_bytes.ensures in
    let whole = take_all 512 c.write_bytes-2.new.out (omega (arith, c.write_bytes-2.auto.out)) in
    sym whole ∙ row _ _ _ _ c.write_bytes-2.ensures (front ∙ header)
