use Rattle.std.proofs.Common.{ap, subst}
use Rattle.std.proofs.lemmas.Result.{IfOk-weaker}
use Rattle.bd_sim.specs.Image.{IsLeft}
use Rattle.bd_sim.specs.Open.{Kept}
use Rattle.bd_sim.specs.View.{PlantInMemory}
use Rattle.bd_sim.proofs.Crashes.{crashes}
use Rattle.bd_sim.proofs.Opening.{are_allowed, on_ok_always}
use Rattle.bd_sim.proofs.Shorts.{left_too}
use Rattle.bd_sim.proofs.snapshot.Snapshot.image.Goals as goal

pub returns-clause-left : goal.returns-clause-left
returns-clause-left c = λ p moment taken.
    let short = ap (λ (k : Kept). k.short) c.self.view_is in
    IfOk-weaker c.left_by.result (IsLeft c.self.inside.short 2 c.args.picks.now) (IsLeft p moment c.args.picks.now)
    (λ q left. left_too p moment c.args.self.now.short c.args.picks.now q taken.short (subst (λ (x : PlantInMemory). IsLeft x 2 c.args.picks.now q) short left)) c.left_by.ensures

pub returns-clause-crash : goal.returns-clause-crash
returns-clause-crash c = λ p moment taken.
    on_ok_always c.left_by.result _ (crashes p moment c.args.picks.now (are_allowed p moment c.args.picks.now c.args.self.now.sectors taken.made taken.sectors c.requires))
