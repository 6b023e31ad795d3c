use Rattle.std.proofs.Common.{◌≡◌, ◌+◌, ◌-◌, ◌^◌, min, take, ap, length, arith}
use Rattle.sh_expand.specs.Environment.{size}
use Rattle.sh_expand.proofs.Variables.{size_more}
use Rattle.sh_expand.proofs.env.size_of.Goals as goal

pub loop-name-preserved : goal.loop-name-preserved
loop-name-preserved c =
    let h = size_more c.args.variables.now c.loop-name.name-index c.loop-name-item.result c.loop-name-test.true c.loop-name-item.is in
    let a = ap length c.as_slice.ensures in
    let b = ap length c.as_slice-in-loop-name.ensures in
    let g : c.saturating_add-total.result ≡ min (size (take (c.loop-name.name-index + 1) c.args.variables.now)) (2 ^ 64 - 1) = omega (arith, h, a, b, c.loop-name.invariant, c.saturating_add.ensures, c.saturating_add-total.ensures) in
    g
