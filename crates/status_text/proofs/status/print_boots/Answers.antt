use Rattle.std.proofs.Common.{ℕ, List, [], ◌++◌, codes, OnOk, sym, subst}
use Rattle.bd_dev.specs.Sink.{Appends}
use Rattle.soundness.specs.declared.outcome.Boots.{Boots}
use Rattle.status_text.specs.StatusText.{boots_line}
use Rattle.status_text.proofs.status.print_boots.Goals as goal

pub returns-in-Onie-clause-written : goal.returns-in-Onie-clause-written
returns-in-Onie-clause-written g c =
    let took = λ (line : List ℕ). OnOk c.write_parts.result (Appends (g.C.Sink.taken c.args.console.now) (g.C.Sink.taken c.write_parts.new.console) line) in
    let line = subst (λ (text : List ℕ). took (codes "boots onie " ++ (text ++ (codes "\n" ++ [])))) c.text.ensures c.write_parts.ensures.written in
    subst (λ (boots : Boots). took (boots_line boots)) (sym c.in-Onie.is) line
