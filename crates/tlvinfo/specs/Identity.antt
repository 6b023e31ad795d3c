-- Which board the fields identify.
use Rattle.std.specs.Prelude.{◌≡◌, ℕ, ◌==◌, if◌then◌else◌, List, [], ◌∷◌, Option, Some, None}
use Rattle.tlvinfo.specs.declared.fault.IdentFault.{IdentFault}
use Rattle.tlvinfo.specs.declared.fault.IdentFault.TheVariants as faults
use Rattle.tlvinfo.specs.TlvInfo.{Field}
use Rattle.tlvinfo.specs.Platform.{Parts, IsPlatform}

-- the first value of a code
abbrev pub value_of : ℕ → List Field → Option (List ℕ)
value_of code [] = None
value_of code (f ∷ fs) = if f.code == code then Some f.value else value_of code fs

-- a board: its platform name, the parts of that, and its first address
pub record Board : Type 0 where
  pub platform : List ℕ
  pub parts : Parts
  pub mac : List ℕ

-- the fields identify the board
pub record Identifies (fs : List Field) (board : Board) : Type 0 where
  pub platform : value_of 0x28 fs ≡ Some board.platform
  pub parts : IsPlatform board.platform board.parts
  pub mac : value_of 0x24 fs ≡ Some board.mac

-- there is a platform name, of the right form
pub record HasPlatform (fs : List Field) : Type 0 where
  pub platform : List ℕ
  pub parts : Parts
  pub stands : value_of 0x28 fs ≡ Some platform
  pub right : IsPlatform platform parts

-- the first reason why the fields identify no board
abbrev pub Lacks : IdentFault → List Field → Type 0
Lacks faults.NoPlatform fs = value_of 0x28 fs ≡ None
Lacks faults.Platform fs = (text : List ℕ) × (value_of 0x28 fs ≡ Some text) × ((p : Parts) → ¬ IsPlatform text p)
Lacks faults.NoMac fs = HasPlatform fs × (value_of 0x24 fs ≡ None)
