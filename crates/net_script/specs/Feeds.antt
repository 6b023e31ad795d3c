-- What the lines of a script give to flows, once the files that they serve were read.
use Rattle.std.specs.Prelude.{ℕ, zero, suc, ◌+◌, ◌*◌, ◌/◌, ◌%◌, ◌==◌, Bool, true, List, [], ◌∷◌, ◌++◌, length, take, drop, map, if◌then◌else◌, Option, Some, None, slice_get}
use Rattle.bd_dev.specs.Rows.{Row, TimedArrival}
use Rattle.bd_dev.specs.declared.net.Arrival.{Arrival}
use Rattle.bd_dev.specs.declared.net.Arrival.TheVariants.{Datagram, End}
use Rattle.net_script.specs.declared.feed.Feed.{Feed}
use Rattle.net_script.specs.declared.feed.Feed.TheVariants.{Flow, At, Serves}
use Rattle.net_script.specs.declared.feed.What.{What}
use Rattle.net_script.specs.declared.feed.What.TheVariants.{Blocks}
use Rattle.net_script.specs.declared.line.Rounds.{Rounds}
use Rattle.net_script.specs.declared.line.Rounds.TheVariants.{All, One}

-- the rounds have this round
abbrev pub is_in : ℕ → Rounds → Bool
is_in round All = true
is_in round (One only) = only == round

-- a block of a file by TFTP (RFC 1350): opcode 3, the block's number modulo 2^16, and its bytes
abbrev pub packet : ℕ → List ℕ → List ℕ
packet number bytes = 0 ∷ 3 ∷ (number / 256) % 256 ∷ number % 256 ∷ bytes

-- block k + 1, with at most 512 bytes, comes from port 40000 at k + 1 times the milliseconds
abbrev pub block : ℕ → List ℕ → ℕ → TimedArrival
block every body k = record {
  at = (k + 1) * every;
  arrival = Datagram 40000 (packet (k + 1) (take 512 (drop (512 * k) body)));
}

-- the first n blocks
abbrev pub first_blocks : ℕ → List ℕ → ℕ → List TimedArrival
first_blocks every body zero = []
first_blocks every body (suc n) = first_blocks every body n ++ block every body n ∷ []

-- all blocks of a file: only the last has fewer than 512 bytes
abbrev pub blocks : ℕ → List ℕ → List TimedArrival
blocks every body = first_blocks every body (length body / 512 + 1)

-- what a line serves to each flow of its label
abbrev pub gives : What → List TimedArrival
gives (Blocks every body) = blocks every body

-- part k of it
abbrev pub part_of : What → ℕ → Arrival
part_of (Blocks every body) k = (block every body k).arrival

-- the label of a line that is for this round, or none
abbrev pub label_in : ℕ → Rounds → List ℕ → Option (List ℕ)
label_in round rounds label = if is_in round rounds then Some label else None

-- an arrival for flows of this label in this round
abbrev pub as_row : ℕ → List ℕ → TimedArrival → Row
as_row round label timed =
    record { round = round; label = label; at = timed.at; arrival = timed.arrival }

-- arrivals for flows of the label, if there is one
abbrev pub rows_to : ℕ → Option (List ℕ) → List TimedArrival → List Row
rows_to round None timed = []
rows_to round (Some label) timed = map (as_row round label) timed

-- What comes in a round, in order of the lines. An `at` line is for the label of the last `flow` line before it.
abbrev pub rows_from : ℕ → Option (List ℕ) → List Feed → List Row
rows_from round to [] = []
rows_from round to (Flow rounds label ∷ feeds) = rows_from round (label_in round rounds label) feeds
rows_from round to (At at arrival ∷ feeds) =
    rows_to round to (record { at = at; arrival = arrival } ∷ []) ++ rows_from round to feeds
rows_from round to (Serves rounds label what ∷ feeds) =
    rows_to round (label_in round rounds label) (gives what) ++ rows_from round to feeds

-- what comes in the first n rounds
abbrev pub first_rounds : ℕ → List Feed → List Row
first_rounds zero feeds = []
first_rounds (suc n) feeds = first_rounds n feeds ++ rows_from (suc n) None feeds

-- what comes in all rounds, 1 to 99
unfoldable pub script_rows : List Feed → List Row
script_rows feeds = first_rounds 99 feeds

-- a part of what a line gives: its arrival, or a part of what it serves
abbrev pub arrival_in : Option Feed → ℕ → Arrival
arrival_in None k = End
arrival_in (Some (Flow rounds label)) k = End
arrival_in (Some (At at arrival)) k = arrival
arrival_in (Some (Serves rounds label what)) k = part_of what k

-- the same of a line by its number
abbrev pub arrival_at : List Feed → ℕ → ℕ → Arrival
arrival_at feeds number k = arrival_in (slice_get feeds number) k
