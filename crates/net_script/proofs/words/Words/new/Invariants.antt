use Rattle.std.proofs.Common.{◌≡◌, map}
use Rattle.net_script.specs.Words.{nonempty}
use Rattle.net_script.proofs.words.Words.new.Given as goal

abbrev pub invariant-loop-part : goal.invariant-loop-part
invariant-loop-part l = map (λ x. x.now) l.items.items ≡ nonempty (map (λ x. x.now) l.yielded)
