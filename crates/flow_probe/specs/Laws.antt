-- The probe keeps the laws of all cores.
use Rattle.std.specs.Prelude.{◌≡◌, ℕ, ◌+◌, ◌-◌, ◌<◌, ◌≤◌, max, nat_le, if◌then◌else◌, Bool, true, false, Some, refl}
use Rattle.std.proofs.Common.{arith}
use Rattle.std.proofs.lemmas.Bool.Decides.{nat_tests}
use Rattle.bd_dev.specs.declared.net.Arrival.{Arrival}
use Rattle.bd_dev.specs.declared.net.Arrival.TheVariants.{Datagram, Echo, Stream, End, Reset}
use Rattle.flow.specs.Core.{AreLawful, Lasts}
use Rattle.flow_probe.specs.declared.probe.Probe.{Probe}
use Rattle.flow_probe.specs.Probe.{HasProbeBegun, IsNewProbe, done, probe, probe_acts, probe_arrived}

lasts_done : (low high : ℕ) → Lasts probe_acts HasProbeBegun low high done
lasts_done low high = record { begun = record { few = omega arith; waits = λ d e. absurd (cc e) }; few = omega arith; due = λ d e. absurd (cc e) }

lasts_waiting : (low high due left : ℕ) → low ≤ due → due ≤ high → 1 ≤ left → left ≤ 3 → Lasts probe_acts HasProbeBegun low high (probe (Some due) left)
lasts_waiting low high due left lower upper some few = record {
  begun = record { few = few; waits = λ d e. some };
  few = omega (arith, few);
  due = λ d e. (let same : due ≡ d = cc e in (omega (arith, same, lower), omega (arith, same, upper)));
}

lasts_same : (c : Probe) (d at : ℕ) → HasProbeBegun c → c.due ≡ Some d → at < d → Lasts probe_acts HasProbeBegun at (max d (at + 60000)) c
lasts_same c d at h e lt = record {
  begun = h;
  few = (let few = h.few in omega (arith, few));
  due = λ d' e'. (let same : d ≡ d' = cc (e, e') in (omega (arith, same, lt), omega (arith, same)));
}

arrives : (c : Probe) (d at : ℕ) (a : Arrival) → HasProbeBegun c → c.due ≡ Some d → at < d → Lasts probe_acts HasProbeBegun at (max d (at + 60000)) (probe_arrived c at a)
arrives c d at (Datagram port bytes) h e lt = lasts_same c d at h e lt
arrives c d at (Echo from bytes) h e lt = lasts_same c d at h e lt
arrives c d at (Stream bytes) h e lt = lasts_waiting at (max d (at + 60000)) (at + 2000) 3 (omega arith) (omega arith) (omega arith) (omega arith)
arrives c d at End h e lt = lasts_done at (max d (at + 60000))
arrives c d at Reset h e lt = lasts_same c d at h e lt

expires : (c : Probe) (d : ℕ) → HasProbeBegun c → c.due ≡ Some d → Lasts probe_acts HasProbeBegun (d + 1) (d + 60000) (if nat_le c.left 1 then done else probe (Some (d + 2000)) (c.left - 1))
expires c d h e = by_left (nat_le c.left 1) refl
  where
    by_left : (b : Bool) → nat_le c.left 1 ≡ b → Lasts probe_acts HasProbeBegun (d + 1) (d + 60000) (if b then done else probe (Some (d + 2000)) (c.left - 1))
    by_left true t = lasts_done (d + 1) (d + 60000)
    by_left false t = let more : 1 < c.left = grind (arith, nat_tests) in let few = h.few in
        lasts_waiting (d + 1) (d + 60000) (d + 2000) (c.left - 1) (omega arith) (omega arith) (omega (arith, more)) (omega (arith, few))

falls : (c : Probe) (d : ℕ) → HasProbeBegun c → c.due ≡ Some d → (if nat_le c.left 1 then done else probe (Some (d + 2000)) (c.left - 1)).left < c.left
falls c d h e = by_left (nat_le c.left 1) refl
  where
    some : 1 ≤ c.left
    some = h.waits d e

    by_left : (b : Bool) → nat_le c.left 1 ≡ b → (if b then done else probe (Some (d + 2000)) (c.left - 1)).left < c.left
    by_left true t = let least = some in omega (arith, least)
    by_left false t = let least = some in omega (arith, least)

pub probe_lawful : AreLawful probe_acts IsNewProbe HasProbeBegun
probe_lawful = record {
  begins = λ c new. lasts_waiting 0 60000 2000 3 (omega arith) (omega arith) (omega arith) (omega arith);
  arrives = arrives;
  expires = expires;
  falls = falls;
  floods = λ c begun. lasts_done 0 0;
  flood_ends = λ c begun. refl;
}
