-- What does not decide a wait leaves what is known as it is.
use Rattle.std.specs.Prelude.{Option, Some, None}
use Rattle.std.proofs.Common.{refl}
use Rattle.waits.specs.Places.{IsSteady, Keeps}
use Rattle.dhcp_msg.specs.declared.message.Message.{Message}
use Rattle.dhcp_client.specs.declared.meaning.Meaning.{Meaning}
use Rattle.dhcp_client.specs.declared.meaning.Meaning.TheVariants.{Offered, Granted, Refused, Nothing}
use Rattle.dhcp_client.specs.Leasing.{Known, dhcp, hears_any, hears_as, message_in}
use Rattle.dhcp_client.specs.Meanings.{meaning_of}

keeps : (k : Known) (m : Message) (meaning : Meaning) → Keeps k (hears_as k m meaning)
keeps k m (Offered offer) = tt
keeps k m (Granted server) = tt
keeps k m Refused = tt
keeps k m Nothing = refl

keeps_any : (k : Known) (found : Option Message) → Keeps k (hears_any k found)
keeps_any k None = refl
keeps_any k (Some m) = keeps k m (meaning_of k.mac k.xid k.offer m)

pub dhcp_steady : IsSteady dhcp
dhcp_steady k at a = keeps_any k (message_in a)
