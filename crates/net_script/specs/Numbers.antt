-- The numbers and bytes of a line.
use Rattle.std.specs.Prelude.{◌≡◌, ◌⊎◌, ◌<◌, ◌≤◌, ◌^◌, ℕ, List, [], codes, Ok}
use Rattle.std.specs.Fmt.{decimal}
use Rattle.hex.specs.Hex.{decode_of}
use Rattle.net_script.specs.declared.line.Rounds.{Rounds}
use Rattle.net_script.specs.declared.line.Rounds.TheVariants.{All, One}

-- a number of 32 bits in decimal digits, without leading zeros
pub record WritesDecimal (n : ℕ) (text : List ℕ) : Type 0 where
  pub fits : n < 2 ^ 32
  pub digits : text ≡ decimal n

-- a number of a range in decimal digits, without leading zeros
pub record SpellsNumber (least most n : ℕ) (text : List ℕ) : Type 0 where
  pub low : least ≤ n
  pub high : n ≤ most
  pub digits : text ≡ decimal n

-- the text is such a number
abbrev pub IsNumber : ℕ → ℕ → List ℕ → Type 0
IsNumber least most text = (n : ℕ) × SpellsNumber least most n text

-- a round, 1 to 99, or `*` for all
abbrev pub SpellsRounds : Rounds → List ℕ → Type 0
SpellsRounds All text = text ≡ codes "*"
SpellsRounds (One round) text = SpellsNumber 1 99 round text

-- the text is a round or all
abbrev pub AreRounds : List ℕ → Type 0
AreRounds text = (rounds : Rounds) × SpellsRounds rounds text

-- bytes in hexadecimal digits, two a byte, in either case, or `-` for none
abbrev pub SpellsHex : List ℕ → List ℕ → Type 0
SpellsHex bytes text = ((text ≡ codes "-") × (bytes ≡ [])) ⊎ (decode_of text ≡ Ok bytes)

-- the text is some bytes
abbrev pub IsHex : List ℕ → Type 0
IsHex text = (bytes : List ℕ) × SpellsHex bytes text

-- a time in milliseconds: up to a day
abbrev pub latest : ℕ
latest = 86400000
