use Rattle.std.proofs.Common.{sym, ◌∙◌}
use Rattle.gpt_table.proofs.Sameness.{is_same}
use Rattle.gpt_table.proofs.copies.is_table.Goals as goal

pub returns : goal.returns
returns c =
    let same = is_same c.args.read c.args.table.now in
    (λ is. same.0 (sym c.eq.ensures ∙ is), λ is. c.eq.ensures ∙ same.1 is)
