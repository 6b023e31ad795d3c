use Rattle.std.proofs.Common.{◌<◌, List, length, IsTrue, sym, subst, arith}
use Rattle.gpt_copy.specs.declared.table.Entry.{Entry}
use Rattle.std.proofs.lemmas.Option.{slice_get_within}
use Rattle.gpt_table.proofs.Standing.{sane_from_stands, stands_from_sane}
use Rattle.gpt_table.proofs.sanity.sane.Goals as goal

pub returns-then-not-stands : goal.returns-then-not-stands
returns-then-not-stands c = (
  λ t. cc,
  λ sane.
      let holds : IsTrue c.stands.result = c.stands.ensures.1 (stands_from_sane c.args.table.now sane c.loop-place.place) in
      let fails = c.if-not-stands.true in
      cc,
)

pub returns : goal.returns
returns c = (
  λ t. sane_from_stands c.args.table.now (λ i e has.
      let within = subst (λ (l : List Entry). i < length l) (sym c.as_slice-entries.ensures) (slice_get_within c.args.table.now.entries i e has.is) in
      let ends = c.loop-place-test.false in
      c.loop-place.invariant i (omega arith) e has),
  λ sane. cc,
)
