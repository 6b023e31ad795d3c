use Rattle.std.proofs.Common.{◌≡◌, ◌*◌, ◌≤◌, List, length, take, sym, ap, ◌∙◌, arith}
use Rattle.std.specs.List.{flat_map}
use Rattle.std.proofs.lemmas.List.{take_all}
use Rattle.gpt_copy.specs.declared.table.Entry.{Entry}
use Rattle.gpt_copy.specs.Entries.{entries_of, entry_of}
use Rattle.gpt_copy.specs.Writing.{entries_spelling, entry_spelling}
use Rattle.gpt_copy.proofs.Written.{each_more, more_written, parts-flat_map}
use Rattle.gpt_copy.proofs.writing.entries.write_each.Goals as goal

pub loop-place-preserved : goal.loop-place-preserved
loop-place-preserved c =
    let entries = c.as_slice-entries.result.now in
    let place = c.loop-place.place in
    let new = c.write_entry.new.out in
    let before = c.loop-place.invariant in
    let lt = c.loop-place-test.true in
    let size : length entries ≡ 128 = ap length c.as_slice-entries.ensures ∙ c.told-entries in
    let room : 128 * place ≤ length c.loop-place.out = omega arith in
    let long : length new ≡ 128 = omega arith in
    let here = c.write_entry.ensures.written in
    record {
      written = more_written entry_spelling 128 entries _ c.loop-place.out new _ place room lt long here before.written;
      long = each_more (λ (e : Entry). length (entry_spelling e) ≡ 128) entries place _ lt (sym (ap length here) ∙ long) before.long;
      reads = each_more (λ (e : Entry). entry_of (entry_spelling e) ≡ e) entries place _ lt (sym (ap entry_of here) ∙ c.write_entry.ensures.reads) before.reads;
    }

whole : goal.returns-clause-written
unfolding entries_spelling
whole c =
    let entries = c.as_slice-entries.result.now in
    let place = c.loop-place.place in
    let many : length entries ≡ 128 = ap length c.as_slice-entries.ensures ∙ c.told-entries in
    let all : take place entries ≡ c.args.entries.now = take_all place entries (omega arith) ∙ c.as_slice-entries.ensures in
    let size : length c.loop-place.out ≡ 128 * place = omega arith in
    sym (take_all (128 * place) c.loop-place.out (omega (arith, size))) ∙ c.loop-place.invariant.written ∙ ap (flat_map entry_spelling) all

pub returns-clause-written : goal.returns-clause-written
returns-clause-written c = whole c

pub returns-clause-reads : goal.returns-clause-reads
unfolding entries_spelling
returns-clause-reads c =
    let entries = c.as_slice-entries.result.now in
    let size : length entries ≡ 128 = ap length c.as_slice-entries.ensures ∙ c.told-entries in
    ap entries_of (whole c)
    ∙ ap (λ (es : List Entry). entries_of (flat_map entry_spelling es)) (sym c.as_slice-entries.ensures)
    ∙ parts-flat_map 128 entry_of entry_spelling 128 entries size (λ k d lt. c.loop-place.invariant.long k d (omega arith)) (λ k d lt. c.loop-place.invariant.reads k d (omega arith))
    ∙ c.as_slice-entries.ensures
