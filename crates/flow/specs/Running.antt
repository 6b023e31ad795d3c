-- Where a run of flows stands between two answers of the network.
use Rattle.std.specs.Prelude.{◌≡◌, ◌≢◌, ◌≤◌, ◌<◌, ◌⊎◌, ℕ, ◌+◌, ◌*◌, ◌-◌, nat_le, if◌then◌else◌, List, [], ◌++◌, length, map, drop, sum, sum_by, replicate, Option, Some, None, slice_get, slice_index}
use Rattle.bd_dev.specs.Rows.{Row, TimedArrival, arrivals}
use Rattle.bd_dev.specs.Net.{OpenFlow, Outgoing}
use Rattle.flow.specs.declared.letters.Letter.{Letter}
use Rattle.flow.specs.declared.sends.Sent.{Sent}
use Rattle.flow.specs.declared.flows.Flow.{Flow}
use Rattle.flow.specs.Core.{Acts}
use Rattle.flow.specs.Own.{State, TimedLetter, timed, start, after_steps, letters_in_steps}
use Rattle.flow.specs.Sends.{sent_at, sent_of, of_flow, ArePosted, AreUntil, Files, PostsAll}
use Rattle.flow.specs.Phase.{time_limit}

-- the flow with another core
abbrev pub with_core : {C : Type 0} → Flow C → C → Flow C
with_core f core = record { label = f.label; core = core }

-- no flow is open but those of count numbers from first on
abbrev pub IsShut : ℕ → ℕ → (ℕ → Option OpenFlow) → Type 0
IsShut first count flows = (m : ℕ) → (m < first) ⊎ (first + count ≤ m) → flows m ≡ None

-- the flow of this number is closed where its core is done, and no other flow changes
pub record ClosesIfDone
    (number : ℕ) (due : Option ℕ) (old new : ℕ → Option OpenFlow) : Type 0 where
  pub done : due ≡ None → new number ≡ None
  pub waits : (d : ℕ) → due ≡ Some d → new number ≡ old number
  pub others : (m : ℕ) → m ≢ number → new m ≡ old m

-- a flow's letters are given to the network and filed, and it is closed where its core is done
pub record GoesOn
    (time round number : ℕ) (label : List ℕ) (letters : List Letter) (due : Option ℕ)
    (open_old open_new : ℕ → Option OpenFlow) (old new : List Sent)
    (net_old net_new : Option (List Outgoing)) : Type 0 where
  pub files : Files time number (map (sent_at time round number label) letters) old new
  pub posts : PostsAll (map (sent_at time round number label) letters) net_old net_new
  pub closes : ClosesIfDone number due open_old open_new

-- the better of the best so far and this deadline
abbrev pub sooner_of : Option (ℕ × ℕ) → ℕ → Option ℕ → Option (ℕ × ℕ)
sooner_of best place None = best
sooner_of None place (Some due) = Some (place, due)
sooner_of (Some p) place (Some due) = if nat_le p.1 due then Some p else Some (place, due)

-- the deadline of the flow at this place is the first of the first n flows
pub record IsFirstDue
    {C : Type 0} (acts : Acts C) (flows : List (Flow C)) (n place d : ℕ) : Type 0 where
  pub within : place < n
  pub due : (f : Flow C) → slice_get flows place ≡ Some f → acts.deadline f.core ≡ Some d
  pub least : (k e : ℕ) (f : Flow C) → k < n → slice_get flows k ≡ Some f
      → acts.deadline f.core ≡ Some e → d ≤ e

-- none of the first n flows waits, or this is the first deadline
abbrev pub IsDueBelow : {C : Type 0} → Acts C → List (Flow C) → ℕ → Option (ℕ × ℕ) → Type 0
IsDueBelow {C} acts flows n None =
    (k : ℕ) (f : Flow C) → k < n → slice_get flows k ≡ Some f → acts.deadline f.core ≡ None
IsDueBelow acts flows n (Some p) = IsFirstDue acts flows n p.0 p.1

-- some steps of the own run lead from one state to the other, and send this
pub record Reaches
    {C : Type 0} (acts : Acts C) (begin end : State C) (out : List TimedLetter) : Type 0 where
  pub steps : ℕ
  pub state : after_steps acts steps begin ≡ end
  pub sent : out ≡ letters_in_steps acts steps begin

-- the core stands where its own run leads after so many arrivals
pub record Follows
    {C : Type 0} (acts : Acts C) (core0 : C) (comes : List TimedArrival) (core : C) (count : ℕ)
    (out : List TimedLetter) : Type 0 where
  pub moment : ℕ
  pub reaches : Reaches acts (start acts core0 comes)
      (record { core = core; count = count; rest = drop count comes; moment = moment }) out

-- so much time can still pass before a core is done
abbrev pub time_left : ℕ → ℕ → ℕ
time_left count left = 60000 * (9 * (131072 - count) + left)

-- a core that is not done waits on its open flow
pub record Waits
    (since round : ℕ) (label : List ℕ) (now : ℕ) (open_as : Option OpenFlow) (count left d : ℕ)
    : Type 0 where
  pub open_is : open_as ≡ Some (record { since = since; round = round; label = label; given = count })
  pub counted : count < 131072
  pub later : now ≤ since + d
  pub soon : d + time_left count left ≤ time_limit

-- a flow that has begun
pub record InProgress
    {C : Type 0} (acts : Acts C) (HasBegun : C → Type 0) (since round : ℕ) (now : ℕ)
    (open_as : Option OpenFlow) (f : Flow C) (count : ℕ) : Type 0 where
  pub begun : HasBegun f.core
  pub few : acts.left f.core ≤ 8
  pub counted : count ≤ 131072
  pub done : acts.deadline f.core ≡ None → open_as ≡ None
  pub waits : (d : ℕ) → acts.deadline f.core ≡ Some d
      → Waits since round f.label now open_as count (acts.left f.core) d

-- the core and what it has sent so far are those of its own run
pub record FollowsOwn
    {C : Type 0} (acts : Acts C) (since round number : ℕ) (rows : List Row) (f0 f : Flow C)
    (count now : ℕ) (sends : List Sent) : Type 0 where
  pub out : List TimedLetter
  pub follows : Follows acts f0.core (arrivals rows round f.label) f.core count out
  pub past : since + follows.moment ≤ now
  pub sent : of_flow number sends
      ≡ map (sent_of since round number f.label) (timed 0 (acts.begun_letters f0.core) ++ out)

-- the time is that of the last call of this flow's core
pub record ReachedBy
    {C : Type 0} (acts : Acts C) (since round : ℕ) (rows : List Row) (flows0 flows : List (Flow C))
    (counts : List ℕ) (now i : ℕ) : Type 0 where
  pub flow : Flow C
  pub flow0 : Flow C
  pub here : slice_get flows i ≡ Some flow
  pub here0 : slice_get flows0 i ≡ Some flow0
  pub out : List TimedLetter
  pub follows :
      Follows acts flow0.core (arrivals rows round flow.label) flow.core (slice_index counts i) out
  pub now_is : since + follows.moment ≡ now

-- no time has passed, or the time is that of the last call of a core
abbrev pub IsReached :
    {C : Type 0} → Acts C → ℕ → ℕ → List Row → List (Flow C) → List (Flow C) → List ℕ → ℕ → Type 0
IsReached acts since round rows flows0 flows counts now =
    (now ≡ since) ⊎ ((i : ℕ) × ReachedBy acts since round rows flows0 flows counts now i)

-- the first n of the flows have begun
pub record AreInProgress
    {C : Type 0} (acts : Acts C) (HasBegun : C → Type 0) (since round first n : ℕ)
    (flows : List (Flow C)) (counts : List ℕ) (open_flows : ℕ → Option OpenFlow) (now : ℕ)
    (sends : List Sent) : Type 0 where
  pub few_flows : length flows ≤ 16
  pub counts_long : length counts ≡ 16
  pub counts_small : (k : ℕ) → slice_index counts k ≤ 131072
  pub within : n ≤ length flows
  pub since_then : since ≤ now
  pub soon : now ≤ since + time_limit
  pub each : (i : ℕ) (f : Flow C) → i < n → slice_get flows i ≡ Some f
      → InProgress acts HasBegun since round now (open_flows (first + i)) f (slice_index counts i)
  pub others : IsShut first n open_flows
  pub until : AreUntil first (first + length flows) now sends

-- the first n of the flows follow their own runs, from flows0 on
pub record FollowOwnRuns
    {C : Type 0} (acts : Acts C) (since round first n : ℕ) (flows0 flows : List (Flow C))
    (counts : List ℕ) (rows : Option (List Row)) (now : ℕ) (sends : List Sent) : Type 0 where
  pub long : length flows ≡ length flows0
  pub labels : (i : ℕ) (f f0 : Flow C) → slice_get flows i ≡ Some f → slice_get flows0 i ≡ Some f0
      → f.label ≡ f0.label
  pub each : (told : List Row) → rows ≡ Some told → (i : ℕ) (f f0 : Flow C) → i < n
      → slice_get flows i ≡ Some f → slice_get flows0 i ≡ Some f0
      → FollowsOwn acts since round (first + i) told f0 f (slice_index counts i) now sends
  pub reached : (told : List Row) → rows ≡ Some told
      → IsReached acts since round told flows0 flows counts now

-- at most how many calls of cores are left
abbrev pub calls_left : {C : Type 0} → Acts C → List (Flow C) → List ℕ → ℕ
calls_left acts flows counts =
    9 * (16 * 131072 - sum counts) + sum_by (λ f. acts.left f.core) flows

-- nothing has come yet
abbrev pub no_counts : List ℕ
no_counts = replicate 16 0

-- the first i of the flows have begun at this time, and the others are as they were
pub record IsOpening
    {C : Type 0} (acts : Acts C) (HasBegun : C → Type 0) (since round first i : ℕ)
    (flows0 flows : List (Flow C)) (open_flows : ℕ → Option OpenFlow) (rows : Option (List Row))
    (sends : List Sent) (net net' : Option (List Outgoing)) : Type 0 where
  pub progress : AreInProgress acts HasBegun since round first i flows no_counts open_flows since sends
  pub follow : FollowOwnRuns acts since round first i flows0 flows no_counts rows since sends
  pub posted : ArePosted sends net net'
  pub fresh : (k : ℕ) (f : Flow C) → i ≤ k → slice_get flows k ≡ Some f
      → slice_get flows0 k ≡ Some f
  pub unsent : (k : ℕ) → i ≤ k → of_flow (first + k) sends ≡ []

-- the flows went on until all cores were done
pub record HasRun
    {C : Type 0} (acts : Acts C) (HasBegun : C → Type 0) (since round first : ℕ)
    (old new : List (Flow C)) (open_flows : ℕ → Option OpenFlow) (now : ℕ) (rows : Option (List Row))
    (before after : List Sent) (net net' : Option (List Outgoing)) : Type 0 where
  pub counts : List ℕ
  pub progress : AreInProgress acts HasBegun since round first (length new) new counts open_flows now after
  pub follow : (flows0 : List (Flow C))
      → FollowOwnRuns acts since round first (length old) flows0 old no_counts rows since before
      → FollowOwnRuns acts since round first (length new) flows0 new counts rows now after
  pub posted : (start : Option (List Outgoing))
      → ArePosted before start net → ArePosted after start net'
  pub done : (i : ℕ) (f : Flow C) → i < length new → slice_get new i ≡ Some f
      → acts.deadline f.core ≡ None

-- one answer of the network later: fewer calls are left
pub record TurnsOn
    {C : Type 0} (acts : Acts C) (HasBegun : C → Type 0) (since round first : ℕ)
    (old new : List (Flow C)) (counts counts' : List ℕ) (open_flows : ℕ → Option OpenFlow)
    (now now' : ℕ) (rows : Option (List Row)) (before after : List Sent)
    (net net' : Option (List Outgoing)) : Type 0 where
  pub progress : AreInProgress acts HasBegun since round first (length new) new counts' open_flows now' after
  pub follow : (flows0 : List (Flow C))
      → FollowOwnRuns acts since round first (length old) flows0 old counts rows now before
      → FollowOwnRuns acts since round first (length new) flows0 new counts' rows now' after
  pub posted : (start : Option (List Outgoing))
      → ArePosted before start net → ArePosted after start net'
  pub falls : calls_left acts new counts' < calls_left acts old counts

-- the flow of a number was opened and its core begun; it is closed where the core is done at once
pub record BeginsAt
    (time round number : ℕ) (label : List ℕ) (letters : List Letter) (due : Option ℕ)
    (open_old open_new : ℕ → Option OpenFlow) (old new : List Sent)
    (net_old net_new : Option (List Outgoing)) : Type 0 where
  pub files : Files time number (map (sent_at time round number label) letters) old new
  pub posts : PostsAll (map (sent_at time round number label) letters) net_old net_new
  pub done : due ≡ None → open_new number ≡ None
  pub waits : (d : ℕ) → due ≡ Some d
      → open_new number ≡ Some (record { since = time; round = round; label = label; given = 0 })
  pub others : (m : ℕ) → m ≢ number → open_new m ≡ open_old m
