use Rattle.std.proofs.Common.{◌≡◌, ◌-◌, ◌++◌, List, Bool, false}
use Rattle.std.specs.Prelude.{replicate}
use Rattle.bd_bytes.specs.Crc.{bits}
use Rattle.bd_bytes.specs.Register.{remainder_with}
use Rattle.bd_bytes.proofs.crc.after_byte.Given as goal

abbrev pub invariant-loop : goal.invariant-loop
invariant-loop l =
    (rest : List Bool)
    → remainder_with l.register (bits 8 l.byte ++ rest) ≡ remainder_with l.mixed (replicate (8 - l.counter) false ++ rest)
