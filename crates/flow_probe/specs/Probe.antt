-- What the calls of the probe do.
use Rattle.std.specs.Prelude.{◌≡◌, ℕ, ◌+◌, ◌-◌, ◌≤◌, nat_le, if◌then◌else◌, List, [], ◌∷◌, Option, Some, None, codes}
use Rattle.bd_dev.specs.declared.net.Arrival.{Arrival}
use Rattle.bd_dev.specs.declared.net.Arrival.TheVariants.{Datagram, Echo, Stream, End, Reset}
use Rattle.flow.specs.declared.letters.Letter.{Letter}
use Rattle.flow.specs.Core.{Acts}
use Rattle.flow_probe.specs.declared.probe.Probe.{Probe}

-- a probe with this deadline, after which so many more can pass
abbrev pub probe : Option ℕ → ℕ → Probe
probe due left = record { due = due; left = left }

-- a probe that is done
abbrev pub done : Probe
done = probe None 0

-- the question
abbrev pub question : List Letter
question = record { port = 7; bytes = codes "ask" } ∷ []

-- after an arrival
abbrev pub probe_arrived : Probe → ℕ → Arrival → Probe
probe_arrived c at (Datagram port bytes) = c
probe_arrived c at (Echo from bytes) = c
probe_arrived c at (Stream bytes) = probe (Some (at + 2000)) 3
probe_arrived c at End = done
probe_arrived c at Reset = c

-- what goes back
abbrev pub answer : Arrival → List Letter
answer (Datagram port bytes) = []
answer (Echo from bytes) = []
answer (Stream bytes) = record { port = 0; bytes = bytes } ∷ []
answer End = []
answer Reset = []

-- what each call does
abbrev pub probe_acts : Acts Probe
probe_acts = record {
  begun = λ c. probe (Some 2000) 3;
  begun_letters = λ c. question;
  arrived = probe_arrived;
  arrived_letters = λ c at a. answer a;
  expired = λ c d. if nat_le c.left 1 then done else probe (Some (d + 2000)) (c.left - 1);
  expired_letters = λ c d. if nat_le c.left 1 then [] else question;
  flooded = λ c. done;
  deadline = λ c. c.due;
  left = λ c. c.left;
}

-- any probe may begin
abbrev pub IsNewProbe : Probe → Type 0
IsNewProbe c = Unit {0}

-- at most three deadlines are left, and one where it waits
pub record HasProbeBegun (c : Probe) : Type 0 where
  pub few : c.left ≤ 3
  pub waits : (d : ℕ) → c.due ≡ Some d → 1 ≤ c.left
