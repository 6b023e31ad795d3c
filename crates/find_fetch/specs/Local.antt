-- What a file of a local medium is fetched as.
use Rattle.std.specs.Prelude.{◌≡◌, ◌≤◌, ◌<◌, ℕ, nat_lt, if◌then◌else◌, List, length, Option, Some, None}
use Rattle.find_fetch.specs.declared.fetched.Fetched.{Fetched}
use Rattle.find_fetch.specs.declared.fetched.Fetched.TheVariants.{Body, Miss}
use Rattle.find_fetch.specs.declared.fetched.Miss.TheVariants as misses

-- the most bytes of an installer
abbrev pub longest : ℕ
longest = 33554432

-- its bytes, unless it is longer than an installer may be
abbrev pub local_of : Option (List ℕ) → Fetched
local_of None = Miss misses.NoFile
local_of (Some bytes) = if nat_lt longest (length bytes) then Miss misses.TooLarge else Body bytes

-- of a file of which this length was found: it gave all of it, or ended early
abbrev pub IsOfLength : ℕ → Fetched → Type 0
IsOfLength want (Body bytes) = length bytes ≡ want
IsOfLength want (Miss (misses.Short found got)) = (found ≡ want) × (got < want)
IsOfLength want (Miss miss) = ⊥

-- Whatever the devices tell: a body is no longer than an installer may be, and a file ended early where fewer bytes
-- came than were found, which were no more than an installer may have.
abbrev pub IsWithinLimit : Fetched → Type 0
IsWithinLimit (Body bytes) = length bytes ≤ longest
IsWithinLimit (Miss (misses.Short want got)) = (got < want) × (want ≤ longest)
IsWithinLimit (Miss miss) = Unit {0}
