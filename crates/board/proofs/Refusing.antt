-- Which sectors a put may touch.
use Rattle.std.proofs.Common.{◌≡◌, inl, inr, ℕ, Bool, cond, ◌+◌, ◌-◌, ◌/◌, ◌%◌, ◌≤◌, ◌<◌, true, false, List, length, Some, None, nat_lt, ◌&&◌, ◌||◌, refl, arith}
use Rattle.std.proofs.lemmas.Bool.{cases_lt}
use Rattle.std.proofs.lemmas.Bool.Decides.{nat_tests}
use Rattle.board.specs.declared.fault.BoardFault.TheVariants.{OnTable, Range}
use Rattle.board.specs.Changes.{put_refusal}
use Rattle.storage_model.specs.Copies.{OffCopies, touches_copies}
use Rattle.cuts.specs.Orderly.{IsLawfulPut}
use Rattle.gpt_copy.specs.declared.table.Table.{Table}
use Rattle.gpt_copy.specs.Copy.{FitsDisk}

-- they pass the disk's end
pub past_end : (size lba n : ℕ) → nat_lt size (lba + n) ≡ true → put_refusal size lba n ≡ Some Range
unfolding put_refusal
past_end size lba n passes = λ i. cond (passes i) (Some Range) (cond (touches_copies size lba n) (Some OnTable) None)

-- they touch a copy
pub on_table : (size lba n : ℕ) → nat_lt size (lba + n) ≡ false → touches_copies size lba n ≡ true → put_refusal size lba n ≡ Some OnTable
unfolding put_refusal
on_table size lba n fits touches = λ i. cond (fits i) (Some Range) (cond (touches i) (Some OnTable) None)

-- neither
pub not_refused : (size lba n : ℕ) → nat_lt size (lba + n) ≡ false → touches_copies size lba n ≡ false → put_refusal size lba n ≡ None
unfolding put_refusal
not_refused size lba n fits off = λ i. cond (fits i) (Some Range) (cond (off i) (Some OnTable) None)

either_false : (a b : Bool) → (a || b) ≡ false → (a ≡ false) × (b ≡ false)
either_false false b is = (refl, is)
either_false true b is = cc

both_false : (a b : Bool) → (a && b) ≡ false → b ≡ true → a ≡ false
both_false false b is yes_b = refl
both_false true b is yes_b = cc

at_least : (lba least q : ℕ) → nat_lt lba least ≡ false → lba ≤ q → least ≤ q
at_least lba least q behind from = grind (arith, nat_tests)

below : (most end q size : ℕ) → nat_lt most end ≡ false → q < end → 68 ≤ size → most ≡ size - 33 → q + 33 < size
below most end q size within until room is = let le : end ≤ most = grind (arith, nat_tests) in omega arith

-- what touches no copy lies off them
pub off_copies : (size lba n q : ℕ) → 68 ≤ size → touches_copies size lba n ≡ false → lba ≤ q → q < lba + n → OffCopies size q
off_copies size lba n q room off from until = elim (cases_lt (lba + n) 2) [
  | inl low ↦ inl (omega arith)
  | inr high ↦
      let some : nat_lt 1 (lba + n) ≡ true = grind (arith, nat_tests) in
      let parts = either_false (nat_lt lba 34 && nat_lt 1 (lba + n)) (nat_lt (size - 33) (lba + n)) off in
      let behind : nat_lt lba 34 ≡ false = both_false (nat_lt lba 34) (nat_lt 1 (lba + n)) parts.0 some in
      inr (at_least lba 34 q behind from, below (size - 33) (lba + n) q size parts.1 until room refl)
]

pub is_lawful : (size lba : ℕ) (bytes : List ℕ) → 68 ≤ size → length bytes % 512 ≡ 0 → 512 ≤ length bytes → length bytes ≤ 1048576
    → touches_copies size lba (length bytes / 512) ≡ false → IsLawfulPut size lba bytes
is_lawful size lba bytes room whole some few off = record {
  whole = whole;
  some = some;
  few = few;
  off = λ q inside. off_copies size lba (length bytes / 512) q room off inside.from inside.until;
}

-- a disk that a table fits has room for both copies
pub has_room : (size : ℕ) (t : Table) → FitsDisk (size - 1) t → 68 ≤ size
has_room size t fits = omega (arith, fits.from, fits.ordered, fits.until)
