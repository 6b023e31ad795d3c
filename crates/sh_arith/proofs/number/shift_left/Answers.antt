use Rattle.std.proofs.Common.{◌<◌, arith}
use Rattle.std.proofs.Math.Pow.{pow-lt}
use Rattle.sh_arith.proofs.number.shift_left.Goals as goal

pub pow-requires : goal.pow-requires
pow-requires c = let p : c.args.by < 63 = omega arith in record { sfits = pow-lt p }
