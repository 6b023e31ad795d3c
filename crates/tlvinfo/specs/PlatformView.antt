-- The parts of a platform name without where they lie in memory, and the two steps of splitting it.
use Rattle.std.specs.Prelude.{◌≡◌, ℕ, List, ◌∷◌, ◌++◌}
use Rattle.tlvinfo.specs.declared.platform.PlatformParts.{PlatformParts}
use Rattle.tlvinfo.specs.Platform.{mark, HasNoDash, HasNoMark, Parts}

abbrev pub parts_of : PlatformParts → Parts
parts_of p = record { arch = p.arch.now; machine = p.machine.now; revision = p.revision.now }

-- what stands before the first dash, and behind it
pub record IsAroundDash (text before behind : List ℕ) : Type 0 where
  pub spelled : text ≡ before ++ 45 ∷ behind
  pub first : HasNoDash before

-- what stands before the last mark, and behind it
pub record IsAroundMark (text before behind : List ℕ) : Type 0 where
  pub spelled : text ≡ before ++ (mark ++ behind)
  pub last : HasNoMark behind
