use Rattle.std.proofs.Common.{◌≡◌, ◌≤◌, List, ℕ, take}
use Rattle.bd_sim.specs.Journal.{after_each, start}
use Rattle.bd_sim.proofs.journal.synced_until.Given as goal

abbrev pub invariant-loop-index : goal.invariant-loop-index
invariant-loop-index l = record {
  past : l.synced ≤ l.index;
  durable : (disk flash : List ℕ) → (after_each (start disk flash) (take l.index l.journal)).durable l.area ≡ (after_each (start disk flash) (take l.synced l.journal)).reads l.area;
}
