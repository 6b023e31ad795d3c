use Rattle.std.proofs.Common.{lit<, lit≤}
use Rattle.bd_text.proofs.DigitLemmas.{SpellsHex-byte}
use Rattle.bd_text.proofs.mac.Mac.parse.Goals as goal

pub joined_bytes-requires : goal.joined_bytes-requires
joined_bytes-requires c = (lit< tt, (lit< tt, (lit≤ tt, (lit≤ tt, SpellsHex-byte))))

pub returns-in_err-bytes-clause-only : goal.returns-in_err-bytes-clause-only
returns-in_err-bytes-clause-only c = λ bytes spelled. let none = c.in_err-bytes.ensures.only bytes spelled.six spelled.pairs in absurd cc

pub returns : goal.returns
returns c = record {
  sound = record { six = c.in_ok-bytes.ensures.size; pairs = c.in_ok-bytes.ensures.sound };
  only = λ bytes spelled. let same = c.in_ok-bytes.ensures.only bytes spelled.six spelled.pairs in cc;
}
