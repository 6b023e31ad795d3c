-- What a fetch gives, and what fetches make of a network and of the trace.
use Rattle.std.specs.Prelude.{◌≡◌, ◌≤◌, ℕ, ◌+◌, ◌-◌, ◌*◌, ◌^◌, Bool, if◌then◌else◌, List, [], ◌∷◌, ◌++◌, Option, Some, None, map, option_map}
use Rattle.std.specs.Option.{ForSome}
use Rattle.bd_dev.specs.Net.{OpenFlow}
use Rattle.bd_dev.specs.Rows.{Row, TimedArrival, arrivals}
use Rattle.bd_dev.specs.Sink.{Appends, AppendsFront}
use Rattle.bd_dev.specs.Volumes.{Volume, file_of}
use Rattle.flow.specs.Own.{TimedLetter}
use Rattle.flow.specs.Sends.{sent_of}
use Rattle.trace_text.specs.TraceText.{trace_text}
use Rattle.url_waterfall.specs.Candidates.{is_file}
use Rattle.url_waterfall.specs.declared.candidate.Candidate.{Candidate}
use Rattle.url_waterfall.specs.declared.candidate.Place.{Place}
use Rattle.url_waterfall.specs.declared.candidate.Place.TheVariants as places
use Rattle.find_fetch.specs.declared.request.Aim.{Aim}
use Rattle.find_fetch.specs.declared.request.Aimed.{Aimed}
use Rattle.find_fetch.specs.declared.request.Aimed.TheVariants as aimeds
use Rattle.find_fetch.specs.declared.request.Spot.{Spot}
use Rattle.find_fetch.specs.declared.request.Spot.TheVariants.{At, Called}
use Rattle.find_fetch.specs.declared.fetched.Fetched.{Fetched}
use Rattle.find_fetch.specs.declared.fetched.Fetched.TheVariants.{Miss}
use Rattle.find_fetch.specs.declared.fetched.Miss.TheVariants.{NoFile, NoServer}
use Rattle.find_fetch.specs.Aim.{aim_of, label_of}
use Rattle.find_fetch.specs.Bodies.{outcome_of}
use Rattle.find_fetch.specs.Local.{local_of}

-- ---- what it gives

-- the candidate is a file of a local medium
abbrev pub is_local : Candidate → Bool
is_local c = is_file c

-- the file at a place
abbrev pub local_at : List Volume → Place → Fetched
local_at volumes (places.Local volume name) = local_of (file_of volumes volume name)
local_at volumes _ = Miss NoFile

-- what a request finds at a spot; a name is not looked up without a name server
abbrev pub sought : List Row → ℕ → Aim → Spot → Fetched
sought rows round aim (At host) = (outcome_of aim (arrivals rows round (label_of aim host))).found
sought rows round aim (Called host) = Miss NoServer

-- by what is to be done
abbrev pub fetched_by : List Row → List Volume → ℕ → Place → Aimed → Fetched
fetched_by rows volumes round place aimeds.Local = local_at volumes place
fetched_by rows volumes round place (aimeds.Refused miss) = Miss miss
fetched_by rows volumes round place (aimeds.Aim aim) = sought rows round aim aim.spot

-- What a fetch of a candidate in a round gives, by what the media hold and by what comes to the flows of a network. It
-- depends on no other flow and on no time.
abbrev pub fetched_over : List Row → List Volume → ℕ → Candidate → Fetched
fetched_over rows volumes round c = fetched_by rows volumes round c.place (aim_of c)

-- the same, where the media or, for other candidates than files of local media, the network tell it
abbrev pub answer_of : Option (List Row) → Option (List Volume) → ℕ → Candidate → Option Fetched
answer_of rows volumes round c =
    if is_local c then option_map (λ told. fetched_over [] told round c) volumes
    else option_map (λ told. fetched_over told [] round c) rows

-- ---- what it makes of the network and of the trace

-- a fetch that was asked for
pub record Asked : Type 0 where
  pub round : ℕ
  pub candidate : Candidate

-- how many fetches over the network a candidate takes
abbrev pub needs : Candidate → ℕ
needs c = if is_local c then 0 else 1

-- what goes on on a flow: its label, and by what comes to that what is sent, and when it ends
pub record Talk : Type 0 where
  pub label : List ℕ
  pub sends : List TimedArrival → List TimedLetter
  pub end : List TimedArrival → ℕ

-- the talk of a request to a host
abbrev pub talk_at : Aim → List ℕ → Talk
talk_at aim host = record {
  label = label_of aim host;
  sends = λ comes. (outcome_of aim comes).sends;
  end = λ comes. (outcome_of aim comes).end;
}

-- the talk of a request to a spot, if a flow is opened
abbrev pub flow_to : Aim → Spot → Option Talk
flow_to aim (At host) = Some (talk_at aim host)
flow_to aim (Called host) = None

abbrev pub flow_by : Aimed → Option Talk
flow_by aimeds.Local = None
flow_by (aimeds.Refused miss) = None
flow_by (aimeds.Aim aim) = flow_to aim aim.spot

-- the time of a network, how many flows were opened, and the text of the trace
pub record Clock : Type 0 where
  pub time : ℕ
  pub opened : ℕ
  pub trace : List ℕ

-- the text of what one flow sends, where it is opened at this time under this number
abbrev pub phase_text : List Row → ℕ → Talk → ℕ → ℕ → List ℕ
phase_text rows round talk time opened =
    trace_text (map (sent_of time round opened talk.label) (talk.sends (arrivals rows round talk.label)))

-- after a phase of this talk, if there is one: it ends with its flow
abbrev pub after_flow : List Row → ℕ → Clock → Option Talk → Clock
after_flow rows round t None = t
after_flow rows round t (Some talk) = record {
  time = t.time + talk.end (arrivals rows round talk.label);
  opened = t.opened + 1;
  trace = t.trace ++ phase_text rows round talk t.time t.opened;
}

-- after a fetch, and after fetches one after the other
abbrev pub after_fetch : List Row → Clock → Asked → Clock
after_fetch rows t x = after_flow rows x.round t (flow_by (aim_of x.candidate))

abbrev pub after_fetches : List Row → Clock → List Asked → Clock
after_fetches rows t [] = t
after_fetches rows t (x ∷ xs) = after_fetches rows (after_fetch rows t x) xs

-- what contracts see of the devices of a fetcher
pub record Seen : Type 0 where
  pub rows : Option (List Row)
  pub files : Option (List Volume)
  pub time : ℕ
  pub opened : ℕ
  pub flows : ℕ → Option OpenFlow
  pub trace : Option (List ℕ)

-- its devices, as contracts see them
abbrev pub seen : Option (List Row) → Option (List Volume) → ℕ → ℕ → (ℕ → Option OpenFlow) → Option (List ℕ) → Seen
seen rows files time opened flows trace =
    record { rows = rows; files = files; time = time; opened = opened; flows = flows; trace = trace }

-- with an empty trace
abbrev pub clock_of : Seen → Clock
clock_of s = record { time = s.time; opened = s.opened; trace = [] }

-- these fetches were made, over a network of these rows
pub record HasPassed (rows : List Row) (s : Seen) (asked : List Asked) (s' : Seen) : Type 0 where
  pub time : s'.time ≡ (after_fetches rows (clock_of s) asked).time
  pub opened : s'.opened ≡ (after_fetches rows (clock_of s) asked).opened
  pub trace : Appends s.trace s'.trace (after_fetches rows (clock_of s) asked).trace

-- From the devices before to those after, these fetches were made, one after the other: what comes and what the media
-- hold stay, and where the network tells its rows, its time, the number of flows opened and the trace are those that
-- the fetches make.
pub record Fetches (s : Seen) (asked : List Asked) (s' : Seen) : Type 0 where
  pub rows : s'.rows ≡ s.rows
  pub files : s'.files ≡ s.files
  pub passed : ForSome s.rows (λ told. HasPassed told s asked s')

-- the same, where the last fetch broke off: the trace took a front of its text
pub record BreaksOff (s : Seen) (asked : List Asked) (s' : Seen) : Type 0 where
  pub rows : s'.rows ≡ s.rows
  pub files : s'.files ≡ s.files
  pub front : ForSome s.rows (λ told. AppendsFront s.trace s'.trace (after_fetches told (clock_of s) asked).trace)

-- At least n more fetches over the network can be made: no flow is open, and 32 flows and 2^40 milliseconds for each
-- keep the bounds of a run of flows.
pub record HasLeft (s : Seen) (n : ℕ) : Type 0 where
  pub closed : (k : ℕ) → s.flows k ≡ None
  pub flows : s.opened + 32 * n ≤ 2 ^ 32 - 17
  pub time : s.time + n * 2 ^ 40 ≤ 2 ^ 63

-- ---- the laws of a fetcher

-- Fetches join, and the number of those that are left counts down.
pub record AreFetches
    {F : Type 0} (Made Broken : F → List Asked → F → Type 0) (Left : F → ℕ → Type 0) : Type 0 where
  pub none : (f : F) → Made f [] f
  pub join : (f g h : F) (xs ys : List Asked) → Made f xs g → Made g ys h → Made f (xs ++ ys) h
  pub breaks : (f g h : F) (xs ys : List Asked) → Made f xs g → Broken g ys h → Broken f (xs ++ ys) h
  pub fewer : (f : F) (n : ℕ) → Left f (n + 1) → Left f n
