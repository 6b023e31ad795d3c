-- The lease, by the places of the two arrivals that decide (RFC 2131, section 3.1).
use Rattle.std.specs.Prelude.{◌≡◌, ◌<◌, ◌≤◌, ℕ, suc, ◌+◌, List, [], ◌∷◌, ◌++◌, length, Option, Some, None}
use Rattle.std.specs.List.{AllByRecursion}
use Rattle.bd_dev.specs.Rows.{TimedArrival}
use Rattle.bd_dev.specs.declared.net.Arrival.{Arrival}
use Rattle.bd_text.specs.declared.v4.V4.{V4}
use Rattle.dhcp_msg.specs.declared.message.Message.{Message}
use Rattle.dhcp_lease.specs.Lease.{Terms, lease_of}
use Rattle.waits.specs.Places.{IsLate}
use Rattle.dhcp_client.specs.declared.offer.Offer.{Offer}
use Rattle.dhcp_client.specs.declared.meaning.Meaning.{Meaning}
use Rattle.dhcp_client.specs.declared.meaning.Meaning.TheVariants.{Offered, Granted, Refused, Nothing}
use Rattle.dhcp_client.specs.Leasing.{Known, message_in, with_offer}
use Rattle.dhcp_client.specs.Meanings.{meaning_of}

-- what a message means, or none
abbrev pub means_of : Known → Option Message → Meaning
means_of k None = Nothing
means_of k (Some m) = meaning_of k.mac k.xid k.offer m

-- what an arrival means to a client
abbrev pub means : Known → Arrival → Meaning
means k a = means_of k (message_in a)

-- it comes within a minute of this time, and means nothing
pub record IsPassed (k : Known) (since : ℕ) (x : TimedArrival) : Type 0 where
  pub early : x.at < since + 60000
  pub nothing : means k x.arrival ≡ Nothing

-- The list is cut: what stands ahead of the rest is passed. Of n arrivals that can come, left are left then.
pub record Passes (n : ℕ) (k : Known) (since : ℕ) (xs : List TimedArrival) (left : ℕ) (rest : List TimedArrival) : Type 0 where
  pub ahead : List TimedArrival
  pub cut : xs ≡ ahead ++ rest
  pub counted : n ≡ length ahead + left
  pub passed : AllByRecursion (IsPassed k since) ahead

-- the first that is not passed, within a minute
pub record IsFirst (n : ℕ) (k : Known) (since : ℕ) (xs : List TimedArrival) (left : ℕ) (x : TimedArrival) (rest : List TimedArrival) : Type 0 where
  pub passes : Passes n k since xs (suc left) (x ∷ rest)
  pub early : x.at < since + 60000

-- What follows an offer that came at this time: the first answer of its server gives the lease or none, and without one in
-- time, or where too much comes, there is none.
pub data Answers (n : ℕ) (k : Known) (since : ℕ) (xs : List TimedArrival) : Option Terms → Type 0 where
  granted : (left : ℕ) (q : TimedArrival) (rest : List TimedArrival) (m : Message) (server : V4) → IsFirst n k since xs left q rest
      → message_in q.arrival ≡ Some m → means k q.arrival ≡ Granted server → Answers n k since xs (Some (lease_of m server))
  refused : (left : ℕ) (q : TimedArrival) (rest : List TimedArrival) → IsFirst n k since xs left q rest → means k q.arrival ≡ Refused
      → Answers n k since xs None
  unanswered : (left : ℕ) (rest : List TimedArrival) → Passes n k since xs (suc left) rest → IsLate (since + 60000) rest → Answers n k since xs None
  drowned : (rest : List TimedArrival) → Passes n k since xs 0 rest → Answers n k since xs None

-- The lease of a client without an offer yet: the first offer decides, within a minute. Neither it nor what follows it
-- stands behind the first 131,072 arrivals.
pub data Leases (k : Known) (xs : List TimedArrival) : Option Terms → Type 0 where
  offered : (left : ℕ) (p : TimedArrival) (rest : List TimedArrival) (offer : Offer) (found : Option Terms) → IsFirst 131072 k 0 xs left p rest
      → means k p.arrival ≡ Offered offer → Answers left (with_offer k offer) p.at rest found → Leases k xs found
  unoffered : (left : ℕ) (rest : List TimedArrival) → Passes 131072 k 0 xs (suc left) rest → IsLate 60000 rest → Leases k xs None
  flooded : (rest : List TimedArrival) → Passes 131072 k 0 xs 0 rest → Leases k xs None
