use Rattle.std.proofs.Common.{◌≡◌, List, Option, ap, sym, subst, ◌∙◌}
use Rattle.bd_dev.specs.Net.{Closes}
use Rattle.arrival_player.specs.declared.flows.Flow.{Flow}
use Rattle.arrival_player.specs.Flows.{AreClosed, IsSound, flows_of}
use Rattle.arrival_player.specs.Played.{Played, flow_at}
use Rattle.arrival_player.proofs.Holding.{closes_at, sound_close}
use Rattle.arrival_player.proofs.player.Player.close.Goals as goal

pub invariant_of-self : goal.invariant_of-self
invariant_of-self g c =
    let made = g.F.Feeds.arrival c.self.inside.feeds in
    let rows = g.F.Feeds.rows c.self.inside.feeds in
    let closed = subst (λ (fs : List (Option Flow)). AreClosed fs c.first_open-self-inside.result) (c.deref.ensures.value ∙ c.close_at.ensures) c.first_open-self-inside.ensures in
    subst (λ (fs : List (Option Flow)). IsSound made rows fs c.self.inside.time c.first_open-self-inside.result) (sym c.close_at.ensures)
    (sound_close made rows c.self.inside.flows.items c.self.inside.time c.self.inside.shut c.args.flow c.first_open-self-inside.result c.self.invariant closed)

pub returns-clause-closes : goal.returns-clause-closes
returns-clause-closes g c =
    let flows : flows_of c.self.inside.flows.items ≡ c.args.self.now.flows = ap (λ (n : Played). n.flows) c.self.view_is in
    subst (λ old. Closes c.args.flow (flow_at old) (flow_at (flows_of c.close_at.new.flows.items))) flows
    (subst (λ (new : List (Option Flow)). Closes c.args.flow (flow_at (flows_of c.self.inside.flows.items)) (flow_at (flows_of new))) (sym c.close_at.ensures)
    (closes_at c.self.inside.flows.items c.args.flow))
