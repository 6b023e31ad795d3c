use Rattle.std.proofs.Common.{sym, ◌∙◌, arith}
use Rattle.std.proofs.lemmas.List.{take_all}
use Rattle.gpt_copy.specs.Writing.{rows_spelling}
use Rattle.gpt_copy.proofs.Written.{row, row_of}
use Rattle.gpt_copy.proofs.writing.header.header_with.Goals as goal

pub returns-clause-is : goal.returns-clause-is
unfolding rows_spelling
returns-clause-is c =
    let header = c.write_u32-7.new.out in
    let whole = take_all 92 header (omega (arith, c.write_u32-7.auto.out)) in
    let lba = c.places-place.ensures in
    let form = row _ _ _ _ c.write_u32-3.ensures (row _ _ _ _ c.write_u32-2.ensures (row _ _ _ _ c.write_u32.ensures c.write_bytes.ensures)) in
    let places = row_of _ _ _ _ _ c.write_u64-2.ensures.written lba.alternate (row_of _ _ _ _ _ c.write_u64.ensures.written lba.own (row _ _ _ _ c.write_u32-4.ensures form)) in
    let usable = row _ _ _ _ c.write_u64-4.ensures.written (row _ _ _ _ c.write_u64-3.ensures.written places) in
    let array = row_of _ _ _ _ _ c.write_u64-5.ensures.written lba.entries (row _ _ _ _ c.write_guid.ensures.written usable) in
    sym whole ∙ row _ _ _ _ c.write_u32-7.ensures (row _ _ _ _ c.write_u32-6.ensures (row _ _ _ _ c.write_u32-5.ensures array))
