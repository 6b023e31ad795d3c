use Rattle.std.proofs.Common.{◌≡◌, ◌<◌, ◌≤◌, ◌^◌, ℕ, Bool, List, Option, Some, length, map, ap, subst, sym, arith}
use Rattle.std.specs.Prelude.{slice_get}
use Rattle.bd_dev.specs.Net.{GivesTo, IsNextOf, NoneBefore, OpenFlow}
use Rattle.arrival_player.specs.declared.flows.Flow.{Flow}
use Rattle.arrival_player.specs.Earliest.{IsFirst, Precedes, next_time_of}
use Rattle.arrival_player.specs.Flows.{IsAt, WaitsAt, flows_of}
use Rattle.arrival_player.specs.Played.{ComesAt, Played, flow_at}
use Rattle.arrival_player.proofs.Holding.{comes_first, gives_to, is_next_of, none_before, not_before, picked, sound_after, sound_quiet, waits_at}
use Rattle.arrival_player.proofs.player.Player.next.Goals as goal

none_read : (until : ℕ) (seen flows : List (Option Flow)) → seen ≡ flows → ((k t : ℕ) → k < length seen → slice_get (map next_time_of seen) k ≡ Some (Some t) → until ≤ t) → (k t : ℕ) → k < length flows → slice_get (map next_time_of flows) k ≡ Some (Some t) → until ≤ t
none_read until seen flows is none =
    subst (λ (fs : List (Option Flow)). (k t : ℕ) → k < length fs → slice_get (map next_time_of fs) k ≡ Some (Some t) → until ≤ t) is none

first_read : (late : Bool) (until : ℕ) (seen flows : List (Option Flow)) (number time : ℕ) → seen ≡ flows → IsFirst late until (map next_time_of seen) (length seen) number time → IsFirst late until (map next_time_of flows) (length flows) number time
first_read late until seen flows number time is first =
    subst (λ (fs : List (Option Flow)). IsFirst late until (map next_time_of fs) (length fs) number time) is first

pub next_spot-spot-requires : goal.next_spot-spot-requires
next_spot-spot-requires g c =
    let old = c.self.inside.flows.items in
    let first = first_read c.self.inside.late c.args.until c.deref.result.now old c.in-Some.number c.in-Some.time c.deref.ensures.value c.in-Some.ensures in
    subst (λ (fs : List (Option Flow)). WaitsAt fs c.in-Some.number) (sym c.deref-in-Some.ensures.value) (waits_at c.self.inside.late c.args.until old c.in-Some.number c.in-Some.time first)

pub advance_at-requires : goal.advance_at-requires
advance_at-requires g c =
    let old = c.self.inside.flows.items in
    waits_at c.self.inside.late c.args.until old c.in-Some.number c.in-Some.time (first_read c.self.inside.late c.args.until c.deref.result.now old c.in-Some.number c.in-Some.time c.deref.ensures.value c.in-Some.ensures)

pub invariant_of-self : goal.invariant_of-self
invariant_of-self g c =
    let made = g.F.Feeds.arrival c.self.inside.feeds in
    let rows = g.F.Feeds.rows c.self.inside.feeds in
    let old = c.self.inside.flows.items in
    let fits : c.args.until < 2 ^ 64 = omega arith in
    let none = none_read c.args.until c.deref.result.now old c.deref.ensures.value c.in-None.ensures in
    sound_quiet made rows old c.self.inside.time c.self.inside.shut c.args.until fits c.self.invariant none

pub invariant_of-self-in-Some : goal.invariant_of-self-in-Some
invariant_of-self-in-Some g c =
    let made = g.F.Feeds.arrival c.self.inside.feeds in
    let rows = g.F.Feeds.rows c.self.inside.feeds in
    let old = c.self.inside.flows.items in
    let fits : c.args.until < 2 ^ 64 = omega arith in
    let first = first_read c.self.inside.late c.args.until c.deref.result.now old c.in-Some.number c.in-Some.time c.deref.ensures.value c.in-Some.ensures in
    sound_after made c.self.inside.late c.args.until rows old c.advance_at.new.flows.items c.self.inside.time c.self.inside.shut c.in-Some.number c.in-Some.time fits c.self.invariant first c.advance_at.ensures

pub returns-in-None-clause-earliest : goal.returns-in-None-clause-earliest
returns-in-None-clause-earliest g c =
    let made = g.F.Feeds.arrival c.self.inside.feeds in
    let rows = g.F.Feeds.rows c.self.inside.feeds in
    let old = c.self.inside.flows.items in
    let fits : c.args.until < 2 ^ 64 = omega arith in
    let none = none_read c.args.until c.deref.result.now old c.deref.ensures.value c.in-None.ensures in
    subst (λ (n : Played). NoneBefore n.rows (flow_at n.flows) c.args.until) c.self.view_is (none_before made rows old c.self.inside.time c.self.inside.shut c.args.until c.self.invariant fits none)

pub returns-in_ok-arrival-in-Some-clause-answers : goal.returns-in_ok-arrival-in-Some-clause-answers
returns-in_ok-arrival-in-Some-clause-answers g c =
    let made = g.F.Feeds.arrival c.self.inside.feeds in
    let rows = g.F.Feeds.rows c.self.inside.feeds in
    let old = c.self.inside.flows.items in
    let fits : c.args.until < 2 ^ 64 = omega arith in
    let first = first_read c.self.inside.late c.args.until c.deref.result.now old c.in-Some.number c.in-Some.time c.deref.ensures.value c.in-Some.ensures in
    let comes = comes_first c.self.inside.late c.args.until old c.in-Some.number c.in-Some.time fits first in
    let time : c.self.inside.time ≡ c.args.self.now.time = ap (λ (n : Played). n.time) c.self.view_is in
    let le = not_before made rows old c.self.inside.time c.self.inside.shut c.in-Some.number c.in-Some.time c.self.invariant comes in (
      subst (λ (n : Played). GivesTo c.in-Some.number (flow_at n.flows) (flow_at (flows_of c.advance_at.new.flows.items))) c.self.view_is (gives_to old c.advance_at.new.flows.items c.in-Some.number c.advance_at.ensures),
      omega (arith, le, time),
      first.early,
    )

pub returns-in_ok-arrival-in-Some-clause-earliest : goal.returns-in_ok-arrival-in-Some-clause-earliest
returns-in_ok-arrival-in-Some-clause-earliest g c =
    let made = g.F.Feeds.arrival c.self.inside.feeds in
    let rows = g.F.Feeds.rows c.self.inside.feeds in
    let old = c.self.inside.flows.items in
    let fits : c.args.until < 2 ^ 64 = omega arith in
    let first = first_read c.self.inside.late c.args.until c.deref.result.now old c.in-Some.number c.in-Some.time c.deref.ensures.value c.in-Some.ensures in
    let comes = comes_first c.self.inside.late c.args.until old c.in-Some.number c.in-Some.time fits first in
    let early : c.in-Some.time < 2 ^ 64 = (let lt = first.early in omega (arith, lt, fits)) in
    let at = subst (λ (fs : List (Option Flow)). IsAt fs c.in-Some.number c.next_spot-spot.result) c.deref-in-Some.ensures.value c.next_spot-spot.ensures in
    let next = is_next_of made rows old c.self.inside.time c.self.inside.shut c.in-Some.number c.next_spot-spot.result c.in_ok-arrival-in-Some.arrival c.in-Some.time c.self.invariant comes at c.in_ok-arrival-in-Some.ensures in
    let none = none_before made rows old c.self.inside.time c.self.inside.shut c.in-Some.time c.self.invariant early first.least in (
      subst (λ (n : Played). (flow : OpenFlow) → flow_at n.flows c.in-Some.number ≡ Some flow → IsNextOf n.rows flow c.in_ok-arrival-in-Some.arrival c.in-Some.time) c.self.view_is next,
      subst (λ (n : Played). NoneBefore n.rows (flow_at n.flows) c.in-Some.time) c.self.view_is none,
    )

pub returns-in_ok-arrival-in-Some-clause-picked : goal.returns-in_ok-arrival-in-Some-clause-picked
returns-in_ok-arrival-in-Some-clause-picked g c =
    let made = g.F.Feeds.arrival c.self.inside.feeds in
    let rows = g.F.Feeds.rows c.self.inside.feeds in
    let old = c.self.inside.flows.items in
    let fits : c.args.until < 2 ^ 64 = omega arith in
    let first = first_read c.self.inside.late c.args.until c.deref.result.now old c.in-Some.number c.in-Some.time c.deref.ensures.value c.in-Some.ensures in
    let chosen = picked made c.self.inside.late c.args.until rows old c.self.inside.time c.self.inside.shut c.in-Some.number c.in-Some.time fits c.self.invariant first in
    subst (λ (n : Played). (other : ℕ) (flow : OpenFlow) → flow_at n.flows other ≡ Some flow → ComesAt n.rows flow c.in-Some.time → Precedes n.late c.in-Some.number other) c.self.view_is chosen
