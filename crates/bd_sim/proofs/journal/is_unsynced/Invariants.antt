use Rattle.std.proofs.Common.{◌≡◌, [], take}
use Rattle.bd_sim.specs.Journal.{after_each, start}
use Rattle.bd_sim.proofs.journal.is_unsynced.Given as goal

abbrev pub invariant-loop-noted : goal.invariant-loop-noted
invariant-loop-noted l = l.unsynced ≡ (after_each (start [] []) (take l.noted-index l.journal)).unsynced l.area l.lba
