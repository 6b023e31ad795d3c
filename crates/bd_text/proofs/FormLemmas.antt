-- What the forms of a number have in common.
use Rattle.std.proofs.Common.{arith, ◌≡◌, ℕ, ◌≤◌, List, sym, ◌∙◌}
use Rattle.std.specs.Char.{digit_value}
use Rattle.bd_text.specs.declared.parts.Form.{Form}
use Rattle.bd_text.specs.declared.parts.Form.TheVariants.{Group, Octet, Pair}
use Rattle.bd_text.specs.Parts.{SpellsIn}
use Rattle.bd_text.proofs.Joins.{IsFree, IsFree-digits}

-- a part spells one number at most
pub SpellsIn-same : (form : Form) (m n : ℕ) (part : List ℕ) → SpellsIn form m part → SpellsIn form n part → m ≡ n
SpellsIn-same Pair m n part left right = sym left.hex.value ∙ right.hex.value
SpellsIn-same Octet m n part left right = sym left.decimal.value ∙ right.decimal.value
SpellsIn-same Group m n part left right = sym left.hex.value ∙ right.hex.value

-- no mark stands in a part
pub SpellsIn-free : (form : Form) (mark : ℕ) → 16 ≤ digit_value mark → (n : ℕ) (part : List ℕ) → SpellsIn form n part → IsFree mark part
SpellsIn-free Pair mark apart n part spelled = IsFree-digits mark 16 part apart spelled.hex.digits
SpellsIn-free Octet mark apart n part spelled = IsFree-digits mark 10 part (omega arith) spelled.decimal.digits
SpellsIn-free Group mark apart n part spelled = IsFree-digits mark 16 part apart spelled.hex.digits
