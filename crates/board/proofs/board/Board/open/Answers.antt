use Rattle.std.proofs.Common.{sym, subst}
use Rattle.storage_model.specs.Copies.{WritesNothing}
use Rattle.board.proofs.board.Board.open.Goals as goal

pub returns-clause-agreeing : goal.returns-clause-agreeing
returns-clause-agreeing g c = λ told t both.
    subst (λ plant. WritesNothing (g.P.Plant.view c.args.plant.now) (g.P.Plant.view plant)) (sym c.over.ensures.plant) (c.in_ok-opened.ensures.agreeing told t both)
