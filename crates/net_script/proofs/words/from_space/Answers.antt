use Rattle.std.proofs.Common.{get_or, eqb, arith}
use Rattle.std.proofs.lemmas.Bool.Decides.{Decides-eqb}
use Rattle.net_script.proofs.Splitting.{drop_to}
use Rattle.net_script.proofs.words.from_space.Goals as goal
use Rattle.net_script.proofs.words.from_space.Goals.{then-loop-at-test+else-text-at-ne32, else-loop-at-test}

pub returns : goal.returns
returns c =
    let text = c.args.text.now in
    let at = c.loop-at.at in
    drop_to (λ b. eqb b 0x20) text at c.loop-at.invariant.within c.loop-at.invariant.passed
    (λ inside. elim c.loop-at-test.branch [
      | then-loop-at-test+else-text-at-ne32 w ↦ (Decides-eqb (get_or text at 0) 0x20).1 (let is = w.if-text-at-ne32.false in omega (arith, is))
      | else-loop-at-test w ↦ absurd (let out = w.loop-at-test.false in omega (arith, inside, out))
    ])
