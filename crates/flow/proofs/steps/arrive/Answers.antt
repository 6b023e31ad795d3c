use Rattle.std.proofs.Common.{subst, sym}
use Rattle.flow.proofs.Due.{early_due}
use Rattle.flow.proofs.steps.arrive.Goals as goal

pub flood-requires-clause-begun : goal.flood-requires-clause-begun
flood-requires-clause-begun g c =
    let e = early_due c.args.at (g.C.Core.acts.deadline c.args.core.now) c.requires.early in
    let l = g.met.C.Core.lawful.arrives c.args.core.now e.0 c.args.at c.args.arrival.now c.requires.begun e.1 e.2 in
    subst g.C.Core.HasBegun (sym c.in_ok-arrive.ensures.core) l.begun
