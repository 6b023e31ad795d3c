use Rattle.std.proofs.Common.{ℕ, ◌<◌, ◌≤◌}
use Rattle.gpt_table.specs.NewGuid.{IsTaken, numbered}
use Rattle.gpt_table.proofs.guids.new_guid.Given as goal

-- the numbers so far are taken
abbrev pub invariant-loop-number : goal.invariant-loop-number
invariant-loop-number l = record {
  from : 1 ≤ l.number;
  taken : (n : ℕ) → 0 < n → n < l.number → IsTaken l.table l.named (numbered l.table.disk n);
}
