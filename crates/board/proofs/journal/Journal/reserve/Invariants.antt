use Rattle.std.proofs.Common.{◌≡◌, ◌≤◌, ℕ}
use Rattle.board.proofs.journal.Journal.reserve.Given as goal

-- the effects stay, and each turn sets memory aside for one more
pub record Reserved (effects counter before now : ℕ) : Type 0 where
  pub enough : counter ≤ effects → counter ≤ now
  pub kept : before ≤ now

abbrev pub invariant-loop : goal.invariant-loop
invariant-loop l = (l.self.effects ≡ l.initial.self.effects) × Reserved l.effects l.counter l.initial.self.spare l.self.spare
