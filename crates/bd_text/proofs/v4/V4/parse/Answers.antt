use Rattle.std.proofs.Common.{lit<, lit≤}
use Rattle.bd_text.proofs.v4.V4.parse.Goals as goal

pub joined_bytes-requires : goal.joined_bytes-requires
joined_bytes-requires c = (lit< tt, (lit< tt, (lit≤ tt, (lit≤ tt, λ n part spelled. spelled.small))))

pub returns-in_err-bytes-clause-only : goal.returns-in_err-bytes-clause-only
returns-in_err-bytes-clause-only c = λ bytes spelled. let none = c.in_err-bytes.ensures.only bytes spelled.four spelled.octets in absurd cc

pub returns : goal.returns
returns c = record {
  sound = record { four = c.in_ok-bytes.ensures.size; octets = c.in_ok-bytes.ensures.sound };
  only = λ bytes spelled. let same = c.in_ok-bytes.ensures.only bytes spelled.four spelled.octets in cc;
}
