-- What the calls of a core do, and the laws that every core keeps.
use Rattle.std.specs.Prelude.{◌≡◌, ◌≤◌, ◌<◌, ℕ, ◌+◌, max, List, Option, Some, None}
use Rattle.bd_dev.specs.declared.net.Arrival.{Arrival}
use Rattle.flow.specs.declared.letters.Letter.{Letter}

-- what each call makes of the core, and which letters it adds
pub record Acts (C : Type 0) : Type 0 where
  pub begun : C → C
  pub begun_letters : C → List Letter
  pub arrived : C → ℕ → Arrival → C
  pub arrived_letters : C → ℕ → Arrival → List Letter
  pub expired : C → ℕ → C
  pub expired_letters : C → ℕ → List Letter
  pub flooded : C → C
  -- the time of the next deadline; none where the core is done
  pub deadline : C → Option ℕ
  -- how many deadlines can still pass where nothing comes
  pub left : C → ℕ

-- the core waits, and this time is before its deadline
abbrev pub IsEarly : ℕ → Option ℕ → Type 0
IsEarly at (Some deadline) = at < deadline
IsEarly at None = ⊥

-- a core after a call: its deadline is none or within these times
pub record Lasts
    {C : Type 0} (acts : Acts C) (HasBegun : C → Type 0) (low high : ℕ) (core : C) : Type 0 where
  pub begun : HasBegun core
  pub few : acts.left core ≤ 8
  pub due : (d : ℕ) → acts.deadline core ≡ Some d → (low ≤ d) × (d ≤ high)

-- A deadline lies at most a minute after the call that sets it, and not before it. Each one that
-- passes is moved on or ends the core, and then fewer are left. A flood ends the core.
pub record AreLawful {C : Type 0} (acts : Acts C) (IsNew HasBegun : C → Type 0) : Type 0 where
  pub begins : (c : C) → IsNew c → Lasts acts HasBegun 0 60000 (acts.begun c)
  pub arrives : (c : C) (d at : ℕ) (a : Arrival) → HasBegun c → acts.deadline c ≡ Some d → at < d
      → Lasts acts HasBegun at (max d (at + 60000)) (acts.arrived c at a)
  pub expires : (c : C) (d : ℕ) → HasBegun c → acts.deadline c ≡ Some d
      → Lasts acts HasBegun (d + 1) (d + 60000) (acts.expired c d)
  pub falls : (c : C) (d : ℕ) → HasBegun c → acts.deadline c ≡ Some d
      → acts.left (acts.expired c d) < acts.left c
  pub floods : (c : C) → HasBegun c → Lasts acts HasBegun 0 0 (acts.flooded c)
  pub flood_ends : (c : C) → HasBegun c → acts.deadline (acts.flooded c) ≡ None
