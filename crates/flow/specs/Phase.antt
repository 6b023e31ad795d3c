-- What a run of flows does.
use Rattle.std.specs.Prelude.{◌≡◌, ℕ, ◌+◌, ◌*◌, max, List, [], ◌∷◌, ◌++◌, length, map, Option, Some, None, slice_get}
use Rattle.std.specs.Option.{ForSome}
use Rattle.bd_dev.specs.Rows.{Row, arrivals}
use Rattle.bd_dev.specs.Net.{Outgoing}
use Rattle.flow.specs.declared.sends.Sent.{Sent}
use Rattle.flow.specs.declared.flows.Flow.{Flow}
use Rattle.flow.specs.Core.{Acts}
use Rattle.flow.specs.Own.{State, own_end, own_sends}
use Rattle.flow.specs.Sends.{sent_of, ArePosted, IsMergeOf}

-- the end of the own run of a flow's core, with what comes to its label in this round
abbrev pub flow_end : {C : Type 0} → Acts C → ℕ → List Row → Flow C → State C
flow_end acts round rows f = own_end acts f.core (arrivals rows round f.label)

-- what the flow of this number, opened at since, sends in its own run; without a flow nothing
abbrev pub flow_sends :
    {C : Type 0} → Acts C → ℕ → ℕ → ℕ → List Row → Option (Flow C) → List Sent
flow_sends acts since round number rows None = []
flow_sends acts since round number rows (Some f) =
    map (sent_of since round number f.label) (own_sends acts f.core (arrivals rows round f.label))

-- how long the longest of the own runs takes
abbrev pub longest : {C : Type 0} → Acts C → ℕ → List Row → List (Flow C) → ℕ
longest acts round rows [] = 0
longest acts round rows (f ∷ flows) =
    max ((flow_end acts round rows f).moment) (longest acts round rows flows)

-- No run takes longer: each of 131,072 arrivals and eight deadlines after each of them, and before
-- the first, sets the next deadline at most a minute on.
abbrev pub time_limit : ℕ
time_limit = 60000 * (9 * 131072 + 9)

-- Each core ends as in its own run, whatever other flows there are and however ties between them
-- fall. All that is sent is what each sends in its own run, put together. The last core's end is
-- the end.
pub record RunsAlone
    {C : Type 0} (acts : Acts C) (since round first : ℕ) (rows : List Row)
    (old new : List (Flow C)) (sends : List Sent) (end : ℕ) : Type 0 where
  pub ends : (i : ℕ) (f f0 : Flow C) → slice_get new i ≡ Some f → slice_get old i ≡ Some f0
      → f.core ≡ (flow_end acts round rows f0).core
  pub sent : IsMergeOf first (length old)
      (λ i. flow_sends acts since round (first + i) rows (slice_get old i)) sends
  pub last : end ≡ since + longest acts round rows old

-- Each flow keeps its label, and its core has begun and is done. What was sent stands at the end of
-- the list, and the network was given that. Where the network tells its rows, each core runs as
-- alone with them.
pub record IsPhase
    {C : Type 0} (acts : Acts C) (HasBegun : C → Type 0) (since round first : ℕ) (rows : Option (List Row))
    (old new : List (Flow C)) (before after : List Sent) (net net' : Option (List Outgoing))
    (end : ℕ) : Type 0 where
  pub labels : (i : ℕ) (f f0 : Flow C) → slice_get new i ≡ Some f → slice_get old i ≡ Some f0
      → f.label ≡ f0.label
  pub begun : (i : ℕ) (f : Flow C) → slice_get new i ≡ Some f → HasBegun f.core
  pub done : (i : ℕ) (f : Flow C) → slice_get new i ≡ Some f → acts.deadline f.core ≡ None
  pub sent : List Sent
  pub filed : after ≡ before ++ sent
  pub posted : ArePosted sent net net'
  pub alone : ForSome rows (λ told. RunsAlone acts since round first told old new sent end)
