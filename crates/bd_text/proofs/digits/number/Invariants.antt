use Rattle.std.proofs.Common.{take}
use Rattle.bd_text.proofs.DigitLemmas.{ReadsTo}
use Rattle.bd_text.proofs.digits.number.Given as goal

abbrev pub invariant-loop-digit : goal.invariant-loop-digit
invariant-loop-digit l = ReadsTo l.base l.number (take l.digit-index l.digits)
