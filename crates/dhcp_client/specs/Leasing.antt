-- How a client gets a lease (RFC 2131, section 3.1): what it does in its two waits, for an offer and for the lease.
use Rattle.std.specs.Prelude.{ℕ, ◌+◌, List, [], ◌∷◌, drop, Option, Some, None}
use Rattle.std.specs.Result.{result_ok}
use Rattle.std.proofs.Common.{arith}
use Rattle.bd_text.specs.declared.mac.Mac.{Mac}
use Rattle.bd_dev.specs.declared.net.Arrival.{Arrival}
use Rattle.bd_dev.specs.declared.net.Arrival.TheVariants.{Datagram, Echo, Stream, End, Reset}
use Rattle.flow.specs.declared.letters.Letter.{Letter}
use Rattle.flow.specs.Core.{Acts}
use Rattle.waits.specs.Waits.{Begins, Ends, Exchange, Heard, Stays, Timers, Waiter, exchange_acts}
use Rattle.waits.specs.Laws.{IsTimely}
use Rattle.dhcp_msg.specs.declared.message.Message.{Message}
use Rattle.dhcp_msg.specs.Reading.{reading}
use Rattle.dhcp_lease.specs.Lease.{Terms, lease_of}
use Rattle.dhcp_lease.specs.LeaseView.{terms_of}
use Rattle.dhcp_client.specs.declared.offer.Offer.{Offer}
use Rattle.dhcp_client.specs.declared.dhcp_core.Ending.{Ending}
use Rattle.dhcp_client.specs.declared.dhcp_core.Ending.TheVariants.{Leased, Unleased}
use Rattle.dhcp_client.specs.declared.meaning.Meaning.{Meaning}
use Rattle.dhcp_client.specs.declared.meaning.Meaning.TheVariants.{Offered, Granted, Refused, Nothing}
use Rattle.dhcp_client.specs.Asking.{packet_of, xid_of}
use Rattle.dhcp_client.specs.Meanings.{meaning_of}

-- the interface, the number of its messages, the board's platform, and the offer that was taken
pub record Known : Type 0 where
  pub mac : Mac
  pub xid : ℕ
  pub platform : List ℕ
  pub offer : Option Offer

-- no offer yet
abbrev pub none_offered : Mac → List ℕ → ℕ → Known
none_offered mac platform round = record { mac = mac; xid = xid_of mac round; platform = platform; offer = None }

abbrev pub with_offer : Known → Offer → Known
with_offer k offer = record k { offer = Some offer }

-- what it asks, to the port of servers
abbrev pub asked_letter : Known → Letter
asked_letter k = record { port = 67; bytes = packet_of k.mac k.xid k.platform k.offer }

-- a message of this meaning: the first offer begins the wait for its lease
abbrev pub hears_as : Known → Message → Meaning → Heard Known (Option Terms)
hears_as k m (Offered offer) = Begins (with_offer k offer) (asked_letter (with_offer k offer) ∷ [])
hears_as k m (Granted server) = Ends k (Some (lease_of m server)) []
hears_as k m Refused = Ends k None []
hears_as k m Nothing = Stays k []

abbrev pub hears_message : Known → Message → Heard Known (Option Terms)
hears_message k m = hears_as k m (meaning_of k.mac k.xid k.offer m)

-- a message, or none
abbrev pub hears_any : Known → Option Message → Heard Known (Option Terms)
hears_any k None = Stays k []
hears_any k (Some m) = hears_message k m

-- the message that a datagram is, from whatever port; nothing else is one
abbrev pub message_in : Arrival → Option Message
message_in (Datagram port bytes) = result_ok (reading bytes)
message_in (Echo from bytes) = None
message_in (Stream bytes) = None
message_in End = None
message_in Reset = None

-- the timers of a wait that begins at this time
abbrev pub wait_from : ℕ → Timers
wait_from at = record { again = (at + 4000) ∷ (at + 12000) ∷ (at + 28000) ∷ []; over = at + 60000 }

-- The client. It repeats what it asks 4, 12 and 28 seconds after its wait began, and gives up after a minute.
abbrev pub dhcp : Exchange Known (Option Terms)
dhcp = record {
  asks = λ k. asked_letter k ∷ [];
  timers = λ k at. wait_from at;
  again = λ k at. asked_letter k ∷ [];
  hears = λ k at a. hears_any k (message_in a);
  late = λ k. None;
  flooded = λ k. None;
}

pub dhcp_timely : IsTimely dhcp
dhcp_timely k at = record {
  few = omega arith;
  after = omega arith;
  soon = omega arith;
  spaced = (omega arith, omega arith, (omega arith, omega arith, (omega arith, omega arith, tt)));
}

-- the timers ahead, of a wait that began at this time, behind those that passed
abbrev pub ahead : ℕ → ℕ → Option Ending → List ℕ
ahead began passed None = drop passed (wait_from began).again
ahead began passed (Some ending) = []

-- what it found, where it is done
abbrev pub found_by : Option Ending → Option (Option Terms)
found_by None = None
found_by (Some (Leased lease)) = Some (Some (terms_of lease))
found_by (Some Unleased) = Some None

-- what its calls do
abbrev pub dhcp_acts : Acts (Waiter Known (Option Terms))
dhcp_acts = exchange_acts dhcp
