-- A readable copy's usable range lies between the copies.
use Rattle.std.proofs.Common.{◌≡◌, ℕ, ◌-◌, ◌+◌, ◌≤◌, List, Bool, true, false, ◌&&◌, nat_le, refl, sym, ◌∙◌, ap, arith}
use Rattle.std.proofs.lemmas.Bool.{leb-true}
use Rattle.gpt_copy.specs.declared.table.Which.{Which}
use Rattle.gpt_copy.specs.Copy.{FitsDisk, table_from}
use Rattle.gpt_copy.specs.Header.{has_checksums, has_form, has_layout, has_parts, has_places, has_rows, has_usable}
use Rattle.gpt_copy.specs.Rows.{number_at}

left : (a b : Bool) → (a && b) ≡ true → a ≡ true
left true b is = refl
left false b is = is

right : (a b : Bool) → (a && b) ≡ true → b ≡ true
right true b is = is
right false b is = cc

usable_of : (which : Which) (last : ℕ) (header entries : List ℕ) → has_rows which last header entries ≡ true → has_usable last header ≡ true
usable_of which last header entries rows =
    let layout = left (has_layout which last header) (has_checksums header entries) rows in
    let places = right (has_form header) (has_places which last header) layout in
    left (has_usable last header) (has_parts which last header) places

pub fits_of : (which : Which) (last : ℕ) (header entries : List ℕ) → has_rows which last header entries ≡ true → FitsDisk last (table_from header entries)
unfolding table_from
fits_of which last header entries rows =
    let usable = usable_of which last header entries rows in
    let low = number_at 40 8 header in
    let high = number_at 48 8 header in
    let last_usable = last - 33 in
    let both = left (nat_le 34 low && nat_le low high) (nat_le high last_usable) usable in
    let from : 34 ≤ low = leb-true 34 low (left (nat_le 34 low) (nat_le low high) both) in
    let ordered : low ≤ high = leb-true low high (right (nat_le 34 low) (nat_le low high) both) in
    let until : high ≤ last - 33 = leb-true high last_usable (right (nat_le 34 low && nat_le low high) (nat_le high last_usable) usable) in
    record { from = from; ordered = ordered; until = omega (arith, from, ordered, until) }
