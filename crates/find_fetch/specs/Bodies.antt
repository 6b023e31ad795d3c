-- The client that fetches a body: it does what its inner client does.
use Rattle.std.specs.Prelude.{ℕ, List, Option, option_map, Result, Ok, Err}
use Rattle.bd_dev.specs.Rows.{TimedArrival}
use Rattle.bd_dev.specs.declared.net.Arrival.{Arrival}
use Rattle.flow.specs.Core.{Acts}
use Rattle.flow.specs.declared.letters.Letter.{Letter}
use Rattle.waits.specs.Waits.{Outcome, found_as, new_waiter, outcome}
use Rattle.waits.specs.Laws.{HasWaiterBegun, IsNewWaiter}
use Rattle.tftp_client.specs.Transfer.{none_taken, tftp, tftp_acts}
use Rattle.tftp_client.specs.declared.tftp_core.TftpMiss.{TftpMiss}
use Rattle.find_fetch.specs.declared.request.Aim.{Aim}
use Rattle.find_fetch.specs.declared.request.Way.{Way}
use Rattle.find_fetch.specs.declared.request.Way.TheVariants as ways
use Rattle.find_fetch.specs.declared.body_core.BodyCore.{BodyCore}
use Rattle.find_fetch.specs.declared.body_core.BodyCore.TheVariants as bodies
use Rattle.find_fetch.specs.declared.fetched.Fetched.{Fetched}
use Rattle.find_fetch.specs.declared.fetched.Fetched.TheVariants as fetched
use Rattle.find_fetch.specs.declared.fetched.Miss.TheVariants as misses

abbrev pub body_begun : BodyCore → BodyCore
body_begun (bodies.Tftp c) = bodies.Tftp (tftp_acts.begun c)

abbrev pub body_begun_letters : BodyCore → List Letter
body_begun_letters (bodies.Tftp c) = tftp_acts.begun_letters c

abbrev pub body_arrived : BodyCore → ℕ → Arrival → BodyCore
body_arrived (bodies.Tftp c) at a = bodies.Tftp (tftp_acts.arrived c at a)

abbrev pub body_arrived_letters : BodyCore → ℕ → Arrival → List Letter
body_arrived_letters (bodies.Tftp c) at a = tftp_acts.arrived_letters c at a

abbrev pub body_expired : BodyCore → ℕ → BodyCore
body_expired (bodies.Tftp c) at = bodies.Tftp (tftp_acts.expired c at)

abbrev pub body_expired_letters : BodyCore → ℕ → List Letter
body_expired_letters (bodies.Tftp c) at = tftp_acts.expired_letters c at

abbrev pub body_flooded : BodyCore → BodyCore
body_flooded (bodies.Tftp c) = bodies.Tftp (tftp_acts.flooded c)

abbrev pub body_deadline : BodyCore → Option ℕ
body_deadline (bodies.Tftp c) = tftp_acts.deadline c

abbrev pub body_left : BodyCore → ℕ
body_left (bodies.Tftp c) = tftp_acts.left c

-- what each call does
abbrev pub body_acts : Acts BodyCore
body_acts = record {
  begun = body_begun;
  begun_letters = body_begun_letters;
  arrived = body_arrived;
  arrived_letters = body_arrived_letters;
  expired = body_expired;
  expired_letters = body_expired_letters;
  flooded = body_flooded;
  deadline = body_deadline;
  left = body_left;
}

-- a client that has not begun
abbrev pub IsNewBody : BodyCore → Type 0
IsNewBody (bodies.Tftp c) = IsNewWaiter tftp c

-- a client that has begun
abbrev pub HasBodyBegun : BodyCore → Type 0
HasBodyBegun (bodies.Tftp c) = HasWaiterBegun c

-- a body, or why a transfer gives none
abbrev pub by_tftp : Result (List ℕ) TftpMiss → Fetched
by_tftp (Ok body) = fetched.Body body
by_tftp (Err miss) = fetched.Miss (misses.Tftp miss)

-- what it found, where it is done
abbrev pub body_result : BodyCore → Option Fetched
body_result (bodies.Tftp c) = option_map by_tftp c.found

-- the client for a request
abbrev pub way_client : ℕ → Way → BodyCore
way_client port (ways.Tftp path) = bodies.Tftp (new_waiter tftp (none_taken port path))

abbrev pub client_of : Aim → BodyCore
client_of aim = way_client aim.port aim.way

-- what a request comes to where this comes: what it finds, what is sent for it, and when its client ends
abbrev pub way_outcome : ℕ → Way → List TimedArrival → Outcome Fetched
way_outcome port (ways.Tftp path) arrivals = found_as by_tftp (outcome tftp (none_taken port path) arrivals)

abbrev pub outcome_of : Aim → List TimedArrival → Outcome Fetched
outcome_of aim arrivals = way_outcome aim.port aim.way arrivals
