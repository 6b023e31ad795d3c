use Rattle.std.proofs.Common.{◌≡◌, ◌<◌, ◌^◌, ◌-◌, ◌∙◌, ℕ, List, Option, length, map, ap, sym, subst, refl, arith}
use Rattle.std.proofs.lemmas.List.{length-map}
use Rattle.std.specs.Option.{option_map}
use Rattle.bd_dev.specs.Net.{OpenFlow, Opens}
use Rattle.bd_dev.specs.Rows.{arrivals}
use Rattle.arrival_player.specs.declared.flows.Flow.{Flow}
use Rattle.arrival_player.specs.Flows.{IsSound, flow_of, flows_of}
use Rattle.arrival_player.specs.Played.{Played, flow_at}
use Rattle.arrival_player.specs.Spots.{timed_of}
use Rattle.arrival_player.proofs.Holding.{opens_push, sound_push}
use Rattle.arrival_player.proofs.player.Player.open.Goals as goal

pub invariant_of-self-2 : goal.invariant_of-self-2
invariant_of-self-2 g c =
    let made = g.F.Feeds.arrival c.self.inside.feeds in
    let rows = g.F.Feeds.rows c.self.inside.feeds in
    let old = c.self.inside.flows.items in
    let f : Flow = record { since = c.self.inside.time; round = c.args.round; label = c.in_ok-from_slice.field-0; given = 0; spots = c.in_ok-spots.field-0 } in
    let flows : flows_of old ≡ c.args.self.now.flows = ap (λ (n : Played). n.flows) c.self.view_is in
    let long : length old ≡ length c.args.self.now.flows = sym (length-map old (option_map flow_of)) ∙ ap length flows in
    let room : length old < 2 ^ 32 - 1 = (let few = c.requires in omega (arith, few, long)) in
    let mine : map (timed_of made) f.spots.items ≡ arrivals rows f.round f.label = c.in_ok-spots.ensures ∙ ap (λ (l : List ℕ). arrivals rows c.args.round l) (sym c.in_ok-from_slice.ensures) in
    subst (λ (new : List (Option Flow)). IsSound made rows new c.self.inside.time c.self.inside.shut) (sym c.in_ok-push.ensures.pushed)
    (sound_push made rows old c.self.inside.time c.self.inside.shut f room c.self.invariant mine refl)

pub returns-clause-opens : goal.returns-clause-opens
returns-clause-opens g c =
    let old = c.self.inside.flows.items in
    let f : Flow = record { since = c.self.inside.time; round = c.args.round; label = c.in_ok-from_slice.field-0; given = 0; spots = c.in_ok-spots.field-0 } in
    let flows : flows_of old ≡ c.args.self.now.flows = ap (λ (n : Played). n.flows) c.self.view_is in
    let time : c.self.inside.time ≡ c.args.self.now.time = ap (λ (n : Played). n.time) c.self.view_is in
    let is : flow_of f ≡ record { since = c.self.inside.time; round = c.args.round; label = c.args.label.now; given = 0 } = ap (λ (l : List ℕ). record { since = c.self.inside.time; round = c.args.round; label = l; given = 0 }) c.in_ok-from_slice.ensures in
    let opens = opens_push old c.self.inside.time c.args.round c.args.label.now f is in
    let pushed = subst (λ (new : List (Option Flow)). Opens c.self.inside.time c.args.round c.args.label.now (length old) (flow_at (flows_of old)) (flow_at (flows_of new))) (sym c.in_ok-push.ensures.pushed) opens in
    let numbered = subst (λ n. Opens c.self.inside.time c.args.round c.args.label.now n (flow_at (flows_of old)) (flow_at (flows_of c.push.new.flows.items))) (sym (length-map old (option_map flow_of))) pushed in
    subst (λ t. Opens t c.args.round c.args.label.now (length c.args.self.now.flows) (flow_at c.args.self.now.flows) (flow_at (flows_of c.push.new.flows.items))) time
    (subst (λ (fs : List (Option OpenFlow)). Opens c.self.inside.time c.args.round c.args.label.now (length fs) (flow_at fs) (flow_at (flows_of c.push.new.flows.items))) flows numbered)
