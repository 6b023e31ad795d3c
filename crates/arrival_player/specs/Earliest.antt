-- Which of several times comes first.
use Rattle.std.specs.Prelude.{◌≡◌, ℕ, ◌+◌, ◌-◌, ◌^◌, ◌<◌, ◌≤◌, min, Bool, true, false, ◌&&◌, ◌||◌, ◌==◌, nat_lt, if◌then◌else◌, List, Option, Some, None, option_map, slice_get}
use Rattle.arrival_player.specs.declared.flows.Flow.{Flow}

-- when the next arrival of an open flow comes, or the greatest time where it comes later
abbrev pub next_time_of : Option Flow → Option ℕ
next_time_of None = None
next_time_of (Some f) =
    option_map (λ s. min (f.since + s.at) (2 ^ 64 - 1)) (slice_get f.spots.items f.given)

-- among flows of one time, the last one where late, otherwise the first
abbrev pub Precedes : Bool → ℕ → ℕ → Type 0
Precedes true number other = other ≤ number
Precedes false number other = number ≤ other

-- of the first n flows, this one's time comes first, and before until
pub record IsFirst
    (late : Bool) (until : ℕ) (times : List (Option ℕ)) (n number time : ℕ) : Type 0 where
  pub within : number < n
  pub here : slice_get times number ≡ Some (Some time)
  pub early : time < until
  pub least : (k t : ℕ) → k < n → slice_get times k ≡ Some (Some t) → time ≤ t
  pub tie : (k : ℕ) → k < n → slice_get times k ≡ Some (Some time) → Precedes late number k

-- the first of the first n times that is before until, or none where none is
abbrev pub FirstBelow : Bool → ℕ → List (Option ℕ) → ℕ → Option (ℕ × ℕ) → Type 0
FirstBelow late until times n None =
    (k t : ℕ) → k < n → slice_get times k ≡ Some (Some t) → until ≤ t
FirstBelow late until times n (Some best) = IsFirst late until times n best.0 best.1

-- the best so far, or this flow where its time comes first
abbrev pub sooner_of : Option (ℕ × ℕ) → Bool → ℕ → ℕ → Option ℕ → Option (ℕ × ℕ)
sooner_of best late until number None = best
sooner_of None late until number (Some time) =
    if nat_lt time until then Some (number, time) else None
sooner_of (Some best) late until number (Some time) =
    if nat_lt time best.1 || (late && (time == best.1)) then Some (number, time) else Some best
