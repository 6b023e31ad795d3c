-- What the calls of a network do.
use Rattle.std.specs.Prelude.{◌≡◌, ◌≢◌, ◌≤◌, ◌<◌, ℕ, ◌+◌, List, [], ◌∷◌, ◌++◌, Option, Some, None, option_map, slice_get}
use Rattle.bd_dev.specs.declared.net.Arrival.{Arrival}
use Rattle.bd_dev.specs.declared.net.Next.{Next}
use Rattle.bd_dev.specs.declared.net.Next.TheVariants.{Came, Quiet}
use Rattle.bd_dev.specs.Rows.{Row, TimedArrival, arrivals}

-- an open flow: the time of its opening, its round and label, and how many arrivals it was given
pub record OpenFlow : Type 0 where
  pub since : ℕ
  pub round : ℕ
  pub label : List ℕ
  pub given : ℕ

-- bytes that were sent, with the time, the flow's number and the port they went to
pub record Outgoing : Type 0 where
  pub at : ℕ
  pub flow : ℕ
  pub port : ℕ
  pub bytes : List ℕ

-- these bytes were sent last
abbrev pub Posts : Option (List Outgoing) → Option (List Outgoing) → Outgoing → Type 0
Posts old new out = new ≡ option_map (λ sent. sent ++ out ∷ []) old

-- the flow of this number is open now, and the others are as they were
pub record Opens
    (time round : ℕ) (label : List ℕ) (number : ℕ) (old new : ℕ → Option OpenFlow) : Type 0 where
  pub this : new number ≡ Some (record { since = time; round = round; label = label; given = 0 })
  pub others : (n : ℕ) → n ≢ number → new n ≡ old n

-- the flow of this number is not open now, and the others are as they were
pub record Closes (number : ℕ) (old new : ℕ → Option OpenFlow) : Type 0 where
  pub this : new number ≡ None
  pub others : (n : ℕ) → n ≢ number → new n ≡ old n

-- the open flow of this number was given one arrival more, and the others are as they were
pub record GivesTo (number : ℕ) (old new : ℕ → Option OpenFlow) : Type 0 where
  pub flow : OpenFlow
  pub was : old number ≡ Some flow
  pub this : new number ≡ Some (record flow { given = flow.given + 1 })
  pub others : (n : ℕ) → n ≢ number → new n ≡ old n

-- an open flow is given an arrival before that time, or the time comes
abbrev pub Answers : ℕ → (ℕ → Option OpenFlow) → ℕ → Next → (ℕ → Option OpenFlow) → ℕ → Type 0
Answers until old before (Came flow arrival) new now =
    GivesTo flow old new × (before ≤ now) × (now < until)
Answers until old before Quiet new now = ((n : ℕ) → new n ≡ old n) × (now ≡ until)

-- no arrival that is still to come to an open flow is before this time
abbrev pub NoneBefore : List Row → (ℕ → Option OpenFlow) → ℕ → Type 0
NoneBefore rows flows time = (n : ℕ) (flow : OpenFlow) (next : TimedArrival)
    → flows n ≡ Some flow
    → slice_get (arrivals rows flow.round flow.label) flow.given ≡ Some next
    → time ≤ flow.since + next.at

-- this is the next arrival of this flow, and comes at this time
pub record IsNextOf
    (rows : List Row) (flow : OpenFlow) (arrival : Arrival) (time : ℕ) : Type 0 where
  pub next : TimedArrival
  pub stands : slice_get (arrivals rows flow.round flow.label) flow.given ≡ Some next
  pub same : next.arrival ≡ arrival
  pub comes : time ≡ flow.since + next.at

-- what comes is the flow's next arrival, and none of an open flow is before it; or none is before until
abbrev pub IsEarliest : ℕ → List Row → (ℕ → Option OpenFlow) → Next → ℕ → Type 0
IsEarliest until rows flows (Came number arrival) now =
    ((flow : OpenFlow) → flows number ≡ Some flow → IsNextOf rows flow arrival now)
    × NoneBefore rows flows now
IsEarliest until rows flows Quiet now = NoneBefore rows flows until
