use Rattle.std.proofs.Common.{get_or, not, eqb, ap, arith}
use Rattle.std.proofs.lemmas.Bool.{false_from_ne_true}
use Rattle.std.proofs.lemmas.Bool.Decides.{Decides-eqb}
use Rattle.net_script.proofs.Splitting.{drop_to}
use Rattle.net_script.proofs.words.from_word.Goals as goal
use Rattle.net_script.proofs.words.from_word.Goals.{then-loop-at-test+else-text-at-eq32, else-loop-at-test}

pub returns : goal.returns
returns c =
    let text = c.args.text.now in
    let at = c.loop-at.at in
    drop_to (λ b. not (eqb b 0x20)) text at c.loop-at.invariant.within (λ k lt. ap not (c.loop-at.invariant.passed k lt))
    (λ inside. elim c.loop-at-test.branch [
      | then-loop-at-test+else-text-at-eq32 w ↦ ap not (false_from_ne_true (eqb (get_or text at 0) 0x20) (λ yes'. w.if-text-at-eq32.false ((Decides-eqb (get_or text at 0) 0x20).0 yes')))
      | else-loop-at-test w ↦ absurd (let out = w.loop-at-test.false in omega (arith, inside, out))
    ])
