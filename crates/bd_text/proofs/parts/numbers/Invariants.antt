use Rattle.std.proofs.Common.{map}
use Rattle.std.specs.List.{AllZip}
use Rattle.bd_text.specs.Parts.{SpellsIn}
use Rattle.bd_text.proofs.parts.numbers.Given as goal

abbrev pub invariant-loop-part : goal.invariant-loop-part
invariant-loop-part l = AllZip (SpellsIn l.form) l.numbers.items (map (λ x. x.now) l.yielded)
