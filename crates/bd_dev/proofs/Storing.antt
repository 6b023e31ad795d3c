-- What bytes that are written over the front of a list leave of it.
use Rattle.std.proofs.Common.{◌≡◌, ℕ, ◌+◌, ◌-◌, max, List, ◌++◌, length, take, drop, rules, arith}
use Rattle.std.proofs.lemmas.Slice.{between_is}
use Rattle.std.proofs.Math.Seq.{take-append-add}

-- after it, a front as long as before, or as the bytes where these are more, has the bytes and what the front held behind them
pub take_overwritten : (bytes held : List ℕ) (len : ℕ) → take (max len (length bytes)) (bytes ++ drop (length bytes) held) ≡ bytes ++ drop (length bytes) (take len held)
take_overwritten bytes held len =
    let both : max len (length bytes) ≡ length bytes + (len - length bytes) = omega arith in
    rw both (rw take-append-add (search (rules, between_is)))
