use Rattle.std.proofs.Common.{◌∙◌, ap, List, ℕ}
use Rattle.slot_pair.specs.Head.{number_in}
use Rattle.slot_pair.proofs.Heads.{head_says}
use Rattle.slot_pair.proofs.head.slot_number.Goals as goal

pub returns-clause-number : goal.returns-clause-number
returns-clause-number g c = λ tells.
    c.head_number.ensures ∙ ap (λ (l : List ℕ). number_in c.args.sectors l) (c.in_ok-read_sectors.ensures.bytes tells) ∙ head_says c.args.sectors _ c.args.gate
