use Rattle.std.proofs.Common.{arith}
use Rattle.byteorder.specs.Numbers.{big_from-lt}
use Rattle.bd_text.proofs.endian.read_u48.Goals as goal

pub returns-clause-bound : goal.returns-clause-bound
returns-clause-bound c =
    let bound = big_from-lt 0 6 c.args.bytes.now (λ k. omega (arith, c.type_inv.bytes k)) in
    rw c.read_u48.ensures bound
