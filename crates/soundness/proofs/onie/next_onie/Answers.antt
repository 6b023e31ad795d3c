use Rattle.std.proofs.Common.{◌≡◌, ⊎_elim, Some, IsTrue, slice_get, sym, ◌∙◌, ap, arith}
use Rattle.std.proofs.lemmas.Bool.{cases_lt}
use Rattle.std.proofs.lemmas.Option.{get_or_from_slice_get, slice_get-get_or}
use Rattle.gpt_copy.specs.declared.table.Entry.{Entry}
use Rattle.soundness.proofs.onie.next_onie.Goals as goal

pub returns-then-is_onie : goal.returns-then-is_onie
returns-then-is_onie c = record {
  entry = _;
  is = slice_get-get_or c.args.entries.now c.loop-place.place _ c.loop-place-test.true;
  kind = c.is_onie.ensures.0 c.if-is_onie.true;
  behind = c.loop-place.auto.place;
  none_before = c.loop-place.invariant;
}

pub loop-place-preserved : goal.loop-place-preserved
loop-place-preserved c = λ i e low high is kind.
    ⊎_elim
    (λ before. c.loop-place.invariant i e low before is kind)
    (λ here.
    let same : i ≡ c.loop-place.place = omega arith in
    let at : slice_get c.args.entries.now c.loop-place.place ≡ Some e = ap (slice_get c.args.entries.now) (sym same) ∙ is in
    let test : IsTrue c.is_onie.result = c.is_onie.ensures.1 (ap (λ (x : Entry). x.kind) (get_or_from_slice_get c.args.entries.now c.loop-place.place e _ at) ∙ kind) in
    let fails = c.if-is_onie.false in
    cc)
    (cases_lt i c.loop-place.place)
