-- The platform name and its parts, `ARCH-MACHINE-rREVISION`.
use Rattle.std.specs.Prelude.{◌≡◌, ◌≢◌, ℕ, ◌≤◌, Bool, ◌==◌, ◌&&◌, ◌||◌, nat_le, List, [], ◌++◌, length, slice_index, EachIndex, codes}
use Rattle.std.specs.List.{AllPass}
use Rattle.memchr.specs.Find.{OccursAt}

-- a letter, a digit, `_`, `-` or `.`
abbrev pub is_platform_byte : ℕ → Bool
is_platform_byte b = (nat_le 97 b && nat_le b 122) || (nat_le 65 b && nat_le b 90) || (nat_le 48 b && nat_le b 57) || b == 95 || b == 45 || b == 46

-- what a revision follows
abbrev pub mark : List ℕ
mark = codes "-r"

abbrev pub HasNoDash : List ℕ → Type 0
HasNoDash text = EachIndex text (λ k. slice_index text k ≢ 45)

abbrev pub HasNoMark : List ℕ → Type 0
HasNoMark text = (k : ℕ) → ¬ OccursAt text mark k

pub record Parts : Type 0 where
  pub arch : List ℕ
  pub machine : List ℕ
  pub revision : List ℕ

-- the arch stands before the first dash, the revision after the last `-r` behind it, the machine between
pub record IsSplit (text : List ℕ) (p : Parts) : Type 0 where
  pub spelled : text ≡ p.arch ++ codes "-" ++ p.machine ++ mark ++ p.revision
  pub first_dash : HasNoDash p.arch
  pub last_mark : HasNoMark p.revision

-- a platform name of these parts: at most 200 bytes of its alphabet, with no part empty
pub record IsPlatform (text : List ℕ) (p : Parts) : Type 0 where
  pub short : length text ≤ 200
  pub alphabet : AllPass is_platform_byte text
  pub split : IsSplit text p
  pub arch : p.arch ≢ []
  pub machine : p.machine ≢ []
  pub revision : p.revision ≢ []
