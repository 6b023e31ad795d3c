-- Of more numbers than GUIDs are taken, one is not.
use Rattle.std.proofs.Common.{◌≡◌, ◌≢◌, inl, inr, ℕ, zero, suc, ◌+◌, ◌^◌, ◌<◌, ◌≤◌, List, [], ◌∷◌, ◌++◌, length, take, drop, slice_get, Option, Some, None, refl, sym, ◌∙◌, ap, arith}
use Rattle.std.proofs.lemmas.List.{drop_at, length-take-le}
use Rattle.std.proofs.lemmas.Option.{slice_get_within}
use Rattle.byteorder.specs.Endian.{big_bytes, big_number}
use Rattle.byteorder.specs.Numbers.{big_number-reads_back}
use Rattle.bd_text.specs.declared.guid.Guid.{Guid}
use Rattle.gpt_copy.specs.declared.table.Entry.{Entry}
use Rattle.gpt_copy.specs.declared.table.Table.{Table}
use Rattle.gpt_table.specs.NewGuid.{IsTaken, numbered}

-- the list without an element
abbrev without : {X : Type 0} → ℕ → List X → List X
without p [] = []
without zero (x ∷ xs) = xs
without (suc p) (x ∷ xs) = x ∷ without p xs

length-without : {X : Type 0} (p : ℕ) (xs : List X) → p < length xs → suc (length (without p xs)) ≡ length xs
length-without p [] lt = absurd (omega arith)
length-without zero (x ∷ xs) lt = refl
length-without (suc p) (x ∷ xs) lt = ap suc (length-without p xs (omega arith))

still_in : {X : Type 0} (p i : ℕ) (xs : List X) (y : X) → i ≢ p → slice_get xs i ≡ Some y → (j : ℕ) × (slice_get (without p xs) j ≡ Some y)
still_in p i [] y other is = (i, is)
still_in zero zero (x ∷ xs) y other is = absurd (other refl)
still_in zero (suc i) (x ∷ xs) y other is = (i, is)
still_in (suc p) zero (x ∷ xs) y other is = (0, is)
still_in (suc p) (suc i) (x ∷ xs) y other is =
    let rest = still_in p i xs y (λ same. other (ap suc same)) is in
    (suc rest.0, rest.1)

-- a list that has so many different elements is as long
pigeonhole : {X : Type 0} (m : ℕ) (f : ℕ → X) (xs : List X) → ((i j : ℕ) → i < j → j < m → f i ≢ f j) → ((k : ℕ) → k < m → (i : ℕ) × (slice_get xs i ≡ Some (f k))) → m ≤ length xs
pigeonhole zero f xs different each = omega arith
pigeonhole {X} (suc m) f xs different each =
    let here = each m (omega arith) in
    let lt : here.0 < length xs = slice_get_within xs here.0 (f m) here.1 in
    let shorter = length-without here.0 xs lt in
    let rest : m ≤ length (without here.0 xs) = pigeonhole m f (without here.0 xs) (λ i j before below. different i j before (omega arith)) (λ k below.
    let at = each k (omega arith) in
    still_in here.0 at.0 xs (f k) (λ same.
    let read : slice_get xs here.0 ≡ Some (f k) = ap (slice_get xs) (sym same) ∙ at.1 in
    let is = here.1 in
    different k m below (omega arith) cc) at.1) in
    omega arith

-- the GUIDs of all entries
abbrev guids_of : List Entry → List Guid
guids_of [] = []
guids_of (e ∷ es) = e.guid ∷ guids_of es

length-guids_of : (es : List Entry) → length (guids_of es) ≡ length es
length-guids_of [] = refl
length-guids_of (e ∷ es) = ap suc (length-guids_of es)

get-guids_of : (es : List Entry) (i : ℕ) (e : Entry) (g : Guid) → slice_get es i ≡ Some e → e.guid ≡ g → slice_get (guids_of es) i ≡ Some g
get-guids_of [] i e g is same = absurd cc
get-guids_of (x ∷ es) zero e g is same = let P : Option Entry → Option Guid = λ o. guid_in o in ap P is ∙ ap Some same
  where
    guid_in : Option Entry → Option Guid
    guid_in None = None
    guid_in (Some y) = Some y.guid
get-guids_of (x ∷ es) (suc i) e g is same = get-guids_of es i e g is same

-- the GUIDs that may be taken
abbrev at_most : Table → Option Guid → List Guid
at_most t None = guids_of t.entries
at_most t (Some g) = g ∷ guids_of t.entries

at_most-length : (t : Table) (named : Option Guid) → length (at_most t named) ≤ length t.entries + 1
at_most-length t None = omega (arith, length-guids_of t.entries)
at_most-length t (Some g) = omega (arith, length-guids_of t.entries)

taken_is_in : (t : Table) (named : Option Guid) (g : Guid) → IsTaken t named g → (i : ℕ) × (slice_get (at_most t named) i ≡ Some g)
taken_is_in t None g taken = elim taken [
  | inl is ↦ absurd cc
  | inr has ↦ (has.0, get-guids_of t.entries has.0 has.1.0 g has.1.1.is has.1.2)
]
taken_is_in t (Some n) g taken = elim taken [
  | inl is ↦ (0, is)
  | inr has ↦ (suc has.0, get-guids_of t.entries has.0 has.1.0 g has.1.1.is has.1.2)
]

-- different numbers make different GUIDs
numbered-injective : (g : Guid) (m n : ℕ) → length g.bytes ≡ 16 → m < 256 ^ 4 → n < 256 ^ 4 → numbered g m ≡ numbered g n → m ≡ n
unfolding numbered
numbered-injective g m n long small below same =
    let front : length (take 12 g.bytes) ≡ 12 = length-take-le 12 g.bytes (omega arith) in
    let bytes : take 12 g.bytes ++ big_bytes 4 m ≡ take 12 g.bytes ++ big_bytes 4 n = ap (λ (x : Guid). x.bytes) same in
    let tail : big_bytes 4 m ≡ big_bytes 4 n = sym (drop_at (take 12 g.bytes) (big_bytes 4 m) 12 front) ∙ ap (drop 12) bytes ∙ drop_at (take 12 g.bytes) (big_bytes 4 n) 12 front in
    sym (big_number-reads_back 4 m [] small) ∙ ap (big_number 4) tail ∙ big_number-reads_back 4 n [] below

-- one of the first 130 numbers is free
pub one_is_free : (t : Table) (named : Option Guid) → length t.disk.bytes ≡ 16 → length t.entries ≡ 128 → ((n : ℕ) → 0 < n → n < 131 → IsTaken t named (numbered t.disk n)) → ⊥
one_is_free t named long all taken =
    let room = at_most-length t named in
    let many : 130 ≤ length (at_most t named) = pigeonhole 130 (λ (k : ℕ). numbered t.disk (suc k)) (at_most t named)
    (λ i j before below same. let e : suc i ≡ suc j = numbered-injective t.disk (suc i) (suc j) long (omega arith) (omega arith) same in omega arith)
    (λ k below. taken_is_in t named (numbered t.disk (suc k)) (taken (suc k) (omega arith) (omega arith))) in
    omega arith
