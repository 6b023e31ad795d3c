use Rattle.std.proofs.Common.{◌≡◌, ℕ, List, ◌++◌, subst}
use Rattle.std.specs.Prelude.{IfOk, codes}
use Rattle.std.specs.Fmt.{decimal}
use Rattle.std.specs.String.{string_bytes}
use Rattle.sh_probe.proofs.fault_line.Goals as goal

pub returns : goal.returns
returns c =
    subst (λ (kind : List ℕ). IfOk c.format.result (λ text. string_bytes text ≡ codes "line " ++ (decimal c.args.line ++ (codes ": " ++ (kind ++ codes "\n"))))) c.named.ensures c.format.ensures.ok
