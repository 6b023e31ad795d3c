use Rattle.std.proofs.Common.{Some, List, ℕ, subst, sym}
use Rattle.bd_dev.specs.Volumes.{file_of}
use Rattle.net_script.specs.Serving.{IsBodyOf, net_volume}
use Rattle.net_script.proofs.Keeping.{bodies_more}
use Rattle.net_script.proofs.serving.keep.Goals as goal

pub returns : goal.returns
returns c = λ volumes known is.
    let same = subst (λ (b : List ℕ). IsBodyOf (file_of volumes net_volume c.args.name.items) (Some b)) (sym c.in_ok-body.ensures) is in
    bodies_more volumes c.args.known.now c.insert.new.self c.args.name c.in_ok-body.body known same c.in_ok-insert.ensures.updates
