use Rattle.std.proofs.Common.{◌≡◌, ℕ, take, sym, ap, ◌∙◌, arith}
use Rattle.dhcp_lease.specs.Texts.{trimmed}
use Rattle.dhcp_lease.proofs.Trimming.{trimmed-shorter, trimmed-stays}
use Rattle.dhcp_lease.proofs.texts.trimmed.Goals as goal
use Rattle.dhcp_lease.proofs.texts.trimmed.Goals.{then-end-test+else-value-end-eq0, else-end-test}

pub end-preserved : goal.end-preserved
end-preserved c =
    (omega arith, trimmed-shorter c.args.value.now c.end.end c.end-test.true c.end.invariant.0 c.if-value-end-eq0.true ∙ c.end.invariant.1)

pub returns : goal.returns
returns c =
    let value = c.args.value.now in
    elim c.end-test.branch [
      | then-end-test+else-value-end-eq0 w ↦ sym (trimmed-stays value c.end.end w.end-test.true c.end.invariant.0 w.if-value-end-eq0.false) ∙ c.end.invariant.1
      | else-end-test w ↦
          let none : c.end.end ≡ 0 = omega arith in
          ap (λ (n : ℕ). take n value) none ∙ sym (ap (λ (n : ℕ). trimmed (take n value)) none) ∙ c.end.invariant.1
    ]
