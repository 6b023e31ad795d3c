use Rattle.std.proofs.Common.{eqb, length, take, get_or, ap, ◌∙◌, arith}
use Rattle.bd_text.specs.declared.digits.Case.TheVariants.{Lower}
use Rattle.bd_text.specs.Digits.{shortest}
use Rattle.bd_text.specs.V6.{groups_text}
use Rattle.bd_text.proofs.Joins.{join-more, length-marked}
use Rattle.bd_text.proofs.PrintLemmas.{marked-behind}
use Rattle.bd_text.proofs.v6.push_groups.Goals as goal

pub loop-place-preserved : goal.loop-place-preserved
loop-place-preserved c =
    let groups = c.args.groups.now in
    let i = c.loop-place.place in
    let before = c.args.text.now.bytes in
    let more = join-more 58 (shortest Lower 16) groups i c.loop-place-test.true in
    let marked = length-marked 58 i c.loop-place.text.bytes in
    record {
      bytes = c.push_shortest.ensures.bytes ∙ rw (c.push_mark.ensures, c.from.ensures, c.loop-place.invariant.bytes, more) (marked-behind (eqb i 0) before (groups_text (take i groups)) (shortest Lower 16 (get_or groups i 0)));
      short = omega (arith, ap length c.push_mark.ensures);
    }
