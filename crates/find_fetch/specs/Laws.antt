-- The client that fetches a body keeps the laws of all cores.
use Rattle.std.specs.Prelude.{◌≡◌, ◌<◌, ℕ, ◌+◌, max, Some, None}
use Rattle.bd_dev.specs.declared.net.Arrival.{Arrival}
use Rattle.flow.specs.Core.{AreLawful, Lasts}
use Rattle.waits.specs.Laws.{HasWaiterBegun, IsNewWaiter, exchange_lawful}
use Rattle.tftp_client.specs.Transfer.{TftpClient, tftp, tftp_acts, tftp_timely}
use Rattle.find_fetch.specs.Bodies.{HasBodyBegun, IsNewBody, body_acts, body_arrived, body_begun, body_expired, body_flooded}
use Rattle.find_fetch.specs.declared.body_core.BodyCore.{BodyCore}
use Rattle.find_fetch.specs.declared.body_core.BodyCore.TheVariants as bodies

tftp_lawful : AreLawful tftp_acts (IsNewWaiter tftp) HasWaiterBegun
tftp_lawful = exchange_lawful tftp tftp_timely

-- what lasts for the inner client lasts for this one
lasts_in : (low high : ℕ) (c : TftpClient) → Lasts tftp_acts HasWaiterBegun low high c → Lasts body_acts HasBodyBegun low high (bodies.Tftp c)
lasts_in low high c h = record { begun = h.begun; few = h.few; due = h.due }

begins : (c : BodyCore) → IsNewBody c → Lasts body_acts HasBodyBegun 0 60000 (body_begun c)
begins (bodies.Tftp c) new = lasts_in 0 60000 (tftp_acts.begun c) (tftp_lawful.begins c new)

arrives : (c : BodyCore) (d at : ℕ) (a : Arrival) → HasBodyBegun c → body_acts.deadline c ≡ Some d → at < d → Lasts body_acts HasBodyBegun at (max d (at + 60000)) (body_arrived c at a)
arrives (bodies.Tftp c) d at a begun due early = lasts_in at (max d (at + 60000)) (tftp_acts.arrived c at a) (tftp_lawful.arrives c d at a begun due early)

expires : (c : BodyCore) (d : ℕ) → HasBodyBegun c → body_acts.deadline c ≡ Some d → Lasts body_acts HasBodyBegun (d + 1) (d + 60000) (body_expired c d)
expires (bodies.Tftp c) d begun due = lasts_in (d + 1) (d + 60000) (tftp_acts.expired c d) (tftp_lawful.expires c d begun due)

falls : (c : BodyCore) (d : ℕ) → HasBodyBegun c → body_acts.deadline c ≡ Some d → body_acts.left (body_expired c d) < body_acts.left c
falls (bodies.Tftp c) d begun due = tftp_lawful.falls c d begun due

floods : (c : BodyCore) → HasBodyBegun c → Lasts body_acts HasBodyBegun 0 0 (body_flooded c)
floods (bodies.Tftp c) begun = lasts_in 0 0 (tftp_acts.flooded c) (tftp_lawful.floods c begun)

flood_ends : (c : BodyCore) → HasBodyBegun c → body_acts.deadline (body_flooded c) ≡ None
flood_ends (bodies.Tftp c) begun = tftp_lawful.flood_ends c begun

pub body_lawful : AreLawful body_acts IsNewBody HasBodyBegun
body_lawful = record {
  begins = begins;
  arrives = arrives;
  expires = expires;
  falls = falls;
  floods = floods;
  flood_ends = flood_ends;
}
