-- Bytes that are written one row behind the other, and what they read as.
use Rattle.std.proofs.Common.{◌≡◌, ℕ, zero, suc, ◌+◌, ◌*◌, ◌^◌, ◌<◌, ◌≤◌, List, [], ◌∷◌, ◌++◌, length, take, drop, get_or, inl, inr, subst, refl, sym, ap, ◌∙◌, arith, length-append}
use Rattle.std.specs.List.{flat_map}
use Rattle.std.proofs.lemmas.List.{append_assoc, append-nil, get_or_default, drop_all, drop_at, length-drop, length-take-le, take_at}
use Rattle.std.proofs.lemmas.Bool.{cases_lt}
use Rattle.std.proofs.lemmas.List.Concat.{flat_map-cons}
use borrow.Rule.Slice.PartMut.{put_mid, post_of}
use Rattle.byteorder.specs.Endian.{little_bytes, little_number}
use Rattle.byteorder.proofs.Slices.{write_step}
use Rattle.byteorder.specs.Numbers.{little_number-reads_back}
use Rattle.gpt_copy.specs.declared.table.Entry.{Entry}
use Rattle.gpt_copy.specs.Entries.{entry_of, parts, units_of}
use Rattle.gpt_copy.specs.Rows.{number_at}
use Rattle.gpt_copy.specs.Writing.{bytes_8, entry_spelling, name_spelling}

-- a row more is written
pub row : (xs front old bytes : List ℕ) → xs ≡ front ++ bytes → front ≡ old → xs ≡ old ++ bytes
row xs front old bytes is before = is ∙ ap (λ (l : List ℕ). l ++ bytes) before

-- the same of a number by another name
pub row_of : (xs front old : List ℕ) (m n : ℕ) → xs ≡ front ++ bytes_8 m → m ≡ n → front ≡ old → xs ≡ old ++ bytes_8 n
row_of xs front old m n is same before = row xs front old (bytes_8 n) (is ∙ ap (λ (k : ℕ). front ++ bytes_8 k) same) before

-- the last part of the bytes is written
pub put_last : (a k : ℕ) (xs ys front : List ℕ) → length xs ≤ a + k → take a xs ≡ front → put_mid a k xs ys ≡ front ++ ys
put_last a k xs ys front fits before =
    let none : post_of a k xs ≡ [] = drop_all k (drop a xs) (omega (arith, length-drop a xs)) in
    ap (λ (l : List ℕ). take a xs ++ (ys ++ l)) none ∙ ap (λ (l : List ℕ). take a xs ++ l) (append-nil ys) ∙ ap (λ (l : List ℕ). l ++ ys) before

-- the other part is as it was written
pub post_put : (n k : ℕ) (xs ys : List ℕ) → length xs ≡ n + k → post_of 0 n (put_mid n k xs ys) ≡ ys
post_put n k xs ys size =
    let none : post_of n k xs ≡ [] = drop_all k (drop n xs) (omega (arith, length-drop n xs)) in
    let front : length (take n xs) ≡ n = length-take-le n xs (omega arith) in
    drop_at (take n xs) (ys ++ post_of n k xs) n front ∙ ap (λ (l : List ℕ). ys ++ l) none ∙ append-nil ys

-- parts that were written one behind the other are read again
pub parts-flat_map : {X : Type 0} (size : ℕ) (f : List ℕ → X) (g : X → List ℕ) (n : ℕ) (xs : List X) → length xs ≡ n
    → ((k : ℕ) (d : X) → k < n → length (g (get_or xs k d)) ≡ size) → ((k : ℕ) (d : X) → k < n → f (g (get_or xs k d)) ≡ get_or xs k d)
    → parts size f n (flat_map g xs) ≡ xs
unfolding parts
parts-flat_map size f g zero [] len long reads = refl
parts-flat_map size f g zero (x ∷ xs) len long reads = absurd (omega arith)
parts-flat_map size f g (suc n) [] len long reads = absurd (omega arith)
parts-flat_map {X} size f g (suc n) (x ∷ xs) len long reads =
    let whole : flat_map g (x ∷ xs) ≡ g x ++ flat_map g xs = flat_map-cons g x xs in
    let first : take size (flat_map g (x ∷ xs)) ≡ g x = ap (take size) whole ∙ take_at (g x) (flat_map g xs) size (long 0 x (omega arith)) in
    let rest : drop size (flat_map g (x ∷ xs)) ≡ flat_map g xs = ap (drop size) whole ∙ drop_at (g x) (flat_map g xs) size (long 0 x (omega arith)) in
    let more = parts-flat_map size f g n xs (omega arith) (λ k d lt. long (suc k) d (omega arith)) (λ k d lt. reads (suc k) d (omega arith)) in
    ap (λ (l : List ℕ). f l ∷ parts size f n (drop size (flat_map g (x ∷ xs)))) first
    ∙ ap (λ (y : X). y ∷ parts size f n (drop size (flat_map g (x ∷ xs)))) (reads 0 x (omega arith))
    ∙ ap (λ (l : List ℕ). x ∷ parts size f n l) rest
    ∙ ap (λ (l : List X). x ∷ l) more

-- one part more is written
pub more_written : {X : Type 0} (f : X → List ℕ) (n : ℕ) (src : List X) (d : X) (dst ys post : List ℕ) (i : ℕ) → n * i ≤ length dst → i < length src → length ys ≡ n → ys ≡ f (get_or src i d)
    → take (n * i) dst ≡ flat_map f (take i src) → take (n * (i + 1)) (take (n * i) dst ++ (ys ++ post)) ≡ flat_map f (take (i + 1) src)
more_written f n src d dst ys post i room lt long is before =
    let next : n * (i + 1) ≡ n * i + n = grind arith in
    ap (λ (k : ℕ). take k (take (n * i) dst ++ (ys ++ post))) next
    ∙ ap (λ (l : List ℕ). take (n * i + n) (take (n * i) dst ++ (l ++ post))) (sym (append-nil ys))
    ∙ write_step f n src d dst ys [] post i room lt (sym (ap length is) ∙ long) is before

-- what holds of those before and of the next
pub each_more : {X : Type 0} (P : X → Type 0) (xs : List X) (i : ℕ) (e : X) → i < length xs → P (get_or xs i e) → ((k : ℕ) (d : X) → k < i → P (get_or xs k d))
    → (k : ℕ) (d : X) → k < i + 1 → P (get_or xs k d)
each_more {X} P xs i e lt here before k d below = elim (cases_lt k i) [
  | inl lower ↦ before k d lower
  | inr at ↦
      let same : i ≡ k = omega arith in
      subst P (get_or_default xs i e d lt ∙ ap (λ (m : ℕ). get_or xs m d) same) here
]

-- the units of a name are read again
pub name_reads : (units : List ℕ) → length units ≡ 36 → ((i : ℕ) → get_or units i 0 < 65536) → units_of (name_spelling units) ≡ units
unfolding name_spelling
name_reads units len small = parts-flat_map 2 (little_number 2) (little_bytes 2) 36 units len (λ k d lt. refl) (λ k d lt.
    let same : get_or units k d ≡ get_or units k 0 = get_or_default units k d 0 (omega arith) in
    let fits : get_or units k d < 256 ^ 2 = let h = small k in omega arith in
    little_number-reads_back 2 (get_or units k d) [] fits)

-- a number of eight bytes that stands somewhere
pub number_behind : (offset v : ℕ) (whole front rest : List ℕ) → whole ≡ front ++ (bytes_8 v ++ rest) → length front ≡ offset → v < 256 ^ 8 → number_at offset 8 whole ≡ v
unfolding bytes_8
number_behind offset v whole front rest is at fits =
    ap (λ (l : List ℕ). number_at offset 8 l) is ∙ ap (little_number 8) (drop_at front (bytes_8 v ++ rest) offset at) ∙ little_number-reads_back 8 v rest fits

-- what stands somewhere
pub bytes_behind : (offset size : ℕ) (bytes whole front rest : List ℕ) → whole ≡ front ++ (bytes ++ rest) → length front ≡ offset → length bytes ≡ size → take size (drop offset whole) ≡ bytes
bytes_behind offset size bytes whole front rest is at long =
    ap (λ (l : List ℕ). take size (drop offset l)) is ∙ ap (take size) (drop_at front (bytes ++ rest) offset at) ∙ take_at bytes rest size long

length-bytes_8 : (v : ℕ) → length (bytes_8 v) ≡ 8
unfolding bytes_8
length-bytes_8 v = refl

-- an entry is read again
pub entry_reads : (e : Entry) → length e.kind.bytes ≡ 16 → length e.guid.bytes ≡ 16 → length (name_spelling e.name) ≡ 72 → e.first < 256 ^ 8 → e.last < 256 ^ 8 → e.attributes < 256 ^ 8
    → units_of (name_spelling e.name) ≡ e.name → entry_of (entry_spelling e) ≡ e
unfolding entry_of entry_spelling
entry_reads e kind guid name first last attributes units =
    let k = e.kind.bytes in
    let g = e.guid.bytes in
    let f = bytes_8 e.first in
    let l = bytes_8 e.last in
    let a = bytes_8 e.attributes in
    let n = name_spelling e.name in
    let whole = k ++ g ++ f ++ l ++ a ++ n in
    let kg : length (k ++ g) ≡ 32 = omega (arith, length-append k g) in
    let kgf : length (k ++ g ++ f) ≡ 40 = omega (arith, length-append (k ++ g) f, length-bytes_8 e.first) in
    let kgfl : length (k ++ g ++ f ++ l) ≡ 48 = omega (arith, length-append (k ++ g ++ f) l, length-bytes_8 e.last) in
    let kgfla : length (k ++ g ++ f ++ l ++ a) ≡ 56 = omega (arith, length-append (k ++ g ++ f ++ l) a, length-bytes_8 e.attributes) in
    let is_kind : take 16 (drop 0 whole) ≡ k = bytes_behind 0 16 k whole [] (g ++ (f ++ (l ++ (a ++ n)))) (simp append_assoc) refl kind in
    let is_guid : take 16 (drop 16 whole) ≡ g = bytes_behind 16 16 g whole k (f ++ (l ++ (a ++ n))) (simp append_assoc) kind guid in
    let is_first : number_at 32 8 whole ≡ e.first = number_behind 32 e.first whole (k ++ g) (l ++ (a ++ n)) (simp append_assoc) kg first in
    let is_last : number_at 40 8 whole ≡ e.last = number_behind 40 e.last whole (k ++ g ++ f) (a ++ n) (simp append_assoc) kgf last in
    let is_attributes : number_at 48 8 whole ≡ e.attributes = number_behind 48 e.attributes whole (k ++ g ++ f ++ l) n (simp append_assoc) kgfl attributes in
    let is_name : take 72 (drop 56 whole) ≡ n = bytes_behind 56 72 n whole (k ++ g ++ f ++ l ++ a) [] (ap (λ (r : List ℕ). (k ++ g ++ f ++ l ++ a) ++ r) (sym (append-nil n))) kgfla name in
    rw (is_kind, is_guid, is_first, is_last, is_attributes, is_name, units) refl
