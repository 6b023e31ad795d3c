-- How long the values are that the table allows.
use Rattle.std.proofs.Common.{◌≡◌, ℕ, Bool, true, false, cond, ◌&&◌, eqb, List, [], ◌∷◌, Some, refl, arith}
use Rattle.std.specs.List.{list_all}
use Rattle.std.specs.Option.{option_map_or}
use Rattle.std.proofs.lemmas.Bool.{and_parts}
use Rattle.std.proofs.lemmas.Bool.Decides.{nat_tests}
use Rattle.bd_codes.specs.declared.row.Kind.{Kind}
use Rattle.bd_codes.specs.declared.row.Kind.TheVariants.{Mac, Byte, Word, Raw}
use Rattle.bd_codes.specs.declared.row.Row.{Row}
use Rattle.bd_codes.specs.Codes.{row_at}
use Rattle.bd_codes.specs.Row.{row_allows}
use Rattle.bd_codes.specs.TlvTable.{allows, tlv_rows}
use Rattle.tlv_text.specs.Values.{HasWidth, kind_of}

-- the row allows this length alone
one_length : ℕ → Row → Bool
one_length width row = eqb row.least width && eqb row.greatest width

-- the row of a kind whose values have one length allows no other
fixed_for : Kind → Row → Bool
fixed_for Mac row = one_length 6 row
fixed_for Byte row = one_length 1 row
fixed_for Word row = one_length 2 row
fixed_for _ row = true

fixed : Row → Bool
fixed row = fixed_for row.kind row

HasWidth-row : (kind : Kind) (row : Row) (n : ℕ) → fixed_for kind row ≡ true → row_allows row n ≡ true
    → HasWidth kind n
unfolding fixed_for one_length
HasWidth-row Mac row n fixed allowed = grind (arith, nat_tests)
HasWidth-row Byte row n fixed allowed = grind (arith, nat_tests)
HasWidth-row Word row n fixed allowed = grind (arith, nat_tests)
HasWidth-row _ row n fixed allowed = tt

HasWidth-found : (rows : List Row) (code n : ℕ) → list_all fixed rows ≡ true
    → option_map_or (λ row. row_allows row n) (row_at rows code) true ≡ true
    → HasWidth (option_map_or (λ row. row.kind) (row_at rows code) Raw) n
unfolding fixed
HasWidth-found [] code n all allowed = tt
HasWidth-found (row ∷ rows) code n all allowed =
    let parts = and_parts (fixed row) (list_all fixed rows) all in
    let claim : Bool → Type 0 = λ b.
    option_map_or (λ row. row_allows row n) (cond b (Some row) (row_at rows code)) true ≡ true
    → HasWidth (option_map_or (λ row. row.kind) (cond b (Some row) (row_at rows code)) Raw) n in
    elim (eqb row.code code) as claim [
      | true ↦ λ allowed. HasWidth-row row.kind row n parts.0 allowed
      | false ↦ λ allowed. HasWidth-found rows code n parts.1 allowed
    ] allowed

pub HasWidth-allowed : (code n : ℕ) → allows code n ≡ true → HasWidth (kind_of code) n
unfolding tlv_rows fixed fixed_for one_length
HasWidth-allowed code n allowed = HasWidth-found tlv_rows code n refl allowed
