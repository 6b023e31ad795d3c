use Rattle.std.proofs.Common.{◌≡◌, ℕ, ◌-◌, List, ◌++◌, length, sym, ap, ◌∙◌, arith}
use Rattle.gpt_copy.specs.Entries.{entry_of, units_of}
use Rattle.gpt_copy.specs.Writing.{bytes_8, entry_spelling, name_spelling}
use Rattle.gpt_copy.proofs.Written.{row, put_last, entry_reads}
use Rattle.gpt_copy.proofs.writing.entries.write_entry.Goals as goal

pub returns-clause-written : goal.returns-clause-written
unfolding entry_spelling
returns-clause-written c =
    let e = c.args.entry.now in
    let out = c.write_u64-3.new.out in
    let front = row _ _ _ _ c.write_u64-3.ensures.written (row _ _ _ _ c.write_u64-2.ensures.written (row _ _ _ _ c.write_u64.ensures.written (row _ _ _ _ c.write_guid-2.ensures.written c.write_guid.ensures.written))) in
    put_last 56 (length out - 56) out c.write_name.new.out _ (omega arith) front
    ∙ ap (λ (l : List ℕ). e.kind.bytes ++ e.guid.bytes ++ bytes_8 e.first ++ bytes_8 e.last ++ bytes_8 e.attributes ++ l) c.write_name.ensures.written

pub returns-clause-reads : goal.returns-clause-reads
returns-clause-reads c =
    let e = c.args.entry.now in
    let name : length (name_spelling e.name) ≡ 72 = sym (ap length c.write_name.ensures.written) ∙ omega arith in
    let units : units_of (name_spelling e.name) ≡ e.name = sym (ap units_of c.write_name.ensures.written) ∙ c.write_name.ensures.reads in
    ap entry_of (returns-clause-written c) ∙ entry_reads e c.write_guid.ensures.long c.write_guid-2.ensures.long name c.write_u64.ensures.small c.write_u64-2.ensures.small c.write_u64-3.ensures.small units
