use Rattle.std.proofs.Common.{[], false, refl}
use Rattle.bd_dev.specs.declared.plant.Area.TheVariants.{Disk}
use Rattle.bd_dev.specs.Plant.{View}
use Rattle.cuts.specs.Spans.{Value}
use Rattle.cuts.proofs.Beginning.{board_starts}
use Rattle.cuts.proofs.Joins.{spans_now}
use Rattle.board.proofs.board.Board.over.Goals as goal

pub returns-clause-start : goal.returns-clause-start
returns-clause-start g c = λ tells.
    let v : View = g.P.Plant.view c.args.plant.now in
    let value : Value = record { view = v; disk = v.reads Disk; table = c.args.opened.table; text = c.args.opened.vars.text; number = c.args.opened.vars.pair.number; journal = []; failed = false } in
    board_starts value (record { table = c.requires.both tells; variables = c.requires.variables.kept tells }) (c.requires.sound tells) (c.requires.text tells)
    (record { onie = λ i e one q none. absurd none; named = λ i e named q none. absurd none })

pub returns-clause-span : goal.returns-clause-span
returns-clause-span g c = λ tells.
    spans_now _ (g.met.P.Plant.honest c.args.plant.now) tells (record { table = c.requires.both tells; variables = c.requires.variables.kept tells })
    (record { disk = λ q un. absurd (c.requires.disk tells q un); copies = λ s un. absurd (c.requires.disk tells s un); flash = c.requires.flash tells; held = λ q pends k lt. refl })
