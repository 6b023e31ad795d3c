use Rattle.std.proofs.Common.{◌≡◌, ℕ, ◌+◌, ◌≤◌, inl, inr, ◌∙◌, ap, subst, arith}
use Rattle.std.proofs.lemmas.Bool.{cases_lt}
use Rattle.gpt_table.specs.NewGuid.{IsTaken, numbered}
use Rattle.gpt_table.proofs.Taking.{one_is_free}
use Rattle.gpt_table.proofs.guids.new_guid.Goals as goal

pub returns : goal.returns
returns c =
    let t = c.args.table.now in
    let named = c.args.named in
    let some = c.count.ensures in
    let end = c.loop-number-test.false in
    let enough : c.count.result + 2 ≡ 130 = omega arith in
    let all : 130 ≤ c.loop-number.number = omega arith in
    let last : c.with_number.result ≡ numbered t.disk 130 = c.with_number.ensures.is ∙ ap (numbered t.disk) enough in
    record {
      number = 130;
      positive = omega arith;
      is = last;
      free = λ taken. one_is_free t named c.with_number.ensures.long c.count.ensures.all (λ n positive below. elim (cases_lt n 130) [
        | inl lower ↦ c.loop-number.invariant.taken n positive (omega arith)
        | inr ge ↦
            let same : 130 ≡ n = omega arith in
            subst (λ (k : ℕ). IsTaken t named (numbered t.disk k)) same (subst (IsTaken t named) last taken)
      ]);
      least = λ n positive below. c.loop-number.invariant.taken n positive (omega arith);
    }
