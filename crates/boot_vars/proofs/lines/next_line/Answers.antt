use Rattle.std.proofs.Common.{◌+◌, ◌≤◌, ℕ, List, length, sym, subst}
use Rattle.boot_vars.proofs.LineParts.{line_within}
use Rattle.boot_vars.proofs.lines.next_line.Goals as goal

pub returns-then-is_none-clause-within : goal.returns-then-is_none-clause-within
returns-then-is_none-clause-within c =
    let cut = c.in_ok-line.ensures.cut in
    subst (λ (l : List ℕ). length l + 1 ≤ length c.args.rest.now) (sym cut.1) (line_within c.args.rest.now cut.0)
