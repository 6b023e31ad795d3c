-- Writes into bytes from the front on, one behind the other.
use Rattle.std.proofs.Common.{◌≡◌, ℕ, ◌+◌, ◌≤◌, List, [], ◌∷◌, ◌++◌, length, take, drop, set, refl, sym, ap, ◌∙◌, append_assoc, length-append, length-drop, length-take, take-append-drop, arith}
use Rattle.std.proofs.lemmas.List.{append-nil, drop-drop, drop_all, drop_at, drop-set-lt, length-set, take_all, take_at, take_more_set}
use borrow.Rule.Slice.PartMut.{put_mid, mid_of}
use Rattle.byteorder.specs.Endian.{big_bytes}
use Rattle.bd_bytes.specs.Crc.{crc32_of}
use Rattle.tlvinfo.specs.TlvInfo.{Field, joined, header, total_of, spelling, AreFields, Tlv}
use Rattle.tlvinfo.specs.Encoding.{overwritten, ending}
use Rattle.tlvinfo.proofs.Spelling.{header-joined-ending}

-- a write behind the first is one write of both
pub overwritten-next : (a k : ℕ) (xs ys first second old : List ℕ) → xs ≡ overwritten first old → a ≡ length first → a + k ≡ length xs → length second ≤ k → ys ≡ overwritten second (mid_of a k xs)
    → put_mid a k xs ys ≡ overwritten (first ++ second) old
overwritten-next a k xs ys first second old is at len fits written =
    let front : take a xs ≡ first = ap (take a) is ∙ take_at first (drop (length first) old) a (sym at) in
    let behind : drop a xs ≡ drop (length first) old = ap (drop a) is ∙ drop_at first (drop (length first) old) a (sym at) in
    let size : length (drop a xs) ≡ k = omega (arith, length-drop a xs) in
    let mid : mid_of a k xs ≡ drop (length first) old = take_all k (drop a xs) (omega (arith, size)) ∙ behind in
    let none : drop k (drop a xs) ≡ [] = drop_all k (drop a xs) (omega (arith, size)) in
    let rest : drop (length second) (drop (length first) old) ≡ drop (length (first ++ second)) old = drop-drop (length second) (length first) old ∙ ap (λ (n : ℕ). drop n old) (sym (length-append first second)) in
    let y : ys ++ drop k (drop a xs) ≡ second ++ drop (length (first ++ second)) old = ap (λ (l : List ℕ). ys ++ l) none ∙ append-nil ys ∙ written ∙ ap (overwritten second) mid ∙ ap (λ (l : List ℕ). second ++ l) rest in
    ap (λ (l : List ℕ). l ++ (ys ++ drop k (drop a xs))) front ∙ ap (λ (l : List ℕ). first ++ l) y ∙ sym (append_assoc first second (drop (length (first ++ second)) old))

-- two bytes at a place
pub overwritten-two : (at x y : ℕ) (old : List ℕ) → at + 2 ≤ length old → set (set old at x) (at + 1) y ≡ overwritten (take at old ++ x ∷ y ∷ []) old
overwritten-two at x y old fits =
    let one = set old at x in
    let two = set one (at + 1) y in
    let e : at + 1 + 1 ≡ at + 2 = omega arith in
    let len : length one ≡ length old = length-set old at x in
    let front : take (at + 2) two ≡ take at old ++ x ∷ y ∷ [] =
    ap (λ (n : ℕ). take n two) (sym e) ∙ take_more_set one (at + 1) y (omega (arith, len)) ∙ ap (λ (l : List ℕ). l ++ y ∷ []) (take_more_set old at x (omega arith)) ∙ append_assoc (take at old) (x ∷ []) (y ∷ []) in
    let behind : drop (at + 2) two ≡ drop (at + 2) old = drop-set-lt (at + 2) one (at + 1) y (omega arith) ∙ drop-set-lt (at + 2) old at x (omega arith) in
    let size : length (take at old ++ x ∷ y ∷ []) ≡ at + 2 = omega (arith, length-append (take at old) (x ∷ y ∷ []), length-take at old) in
    sym (take-append-drop (at + 2) two) ∙ ap (λ (l : List ℕ). l ++ drop (at + 2) two) front ∙ ap (λ (l : List ℕ). (take at old ++ x ∷ y ∷ []) ++ l) (behind ∙ ap (λ (n : ℕ). drop n old) (sym size))

-- the checksum's field behind a place
pub overwritten-ending : (at k sum : ℕ) (xs ys old : List ℕ) → at + 6 ≤ length old → xs ≡ overwritten (take at old ++ 0xfe ∷ 4 ∷ []) old → at + 2 + k ≡ length old → sum ≡ crc32_of (take (at + 2) xs) → ys ≡ overwritten (big_bytes 4 sum) (mid_of (at + 2) k xs)
    → put_mid (at + 2) k xs ys ≡ overwritten (take at old ++ ending (take at old)) old
overwritten-ending at k sum xs ys old fits is len summed written =
    let first = take at old ++ 0xfe ∷ 4 ∷ [] in
    let size : length first ≡ at + 2 = omega (arith, length-append (take at old) (0xfe ∷ 4 ∷ []), length-take at old) in
    let all : length xs ≡ length old = ap length is ∙ omega (arith, length-append first (drop (length first) old), length-drop (length first) old, size) in
    let front : take (at + 2) xs ≡ first = ap (take (at + 2)) is ∙ take_at first (drop (length first) old) (at + 2) size in
    let sum-is : big_bytes 4 sum ≡ big_bytes 4 (crc32_of first) = ap (big_bytes 4) (summed ∙ ap crc32_of front) in
    overwritten-next (at + 2) k xs ys first (big_bytes 4 sum) old is (sym size) (omega (arith, all)) (omega arith) written
    ∙ ap (λ (l : List ℕ). overwritten l old) (append_assoc (take at old) (0xfe ∷ 4 ∷ []) (big_bytes 4 sum) ∙ ap (λ (l : List ℕ). take at old ++ 0xfe ∷ 4 ∷ l) sum-is)

-- a write that begins with what stands in front already
overwritten-again : (first more old : List ℕ) → overwritten (first ++ more) (overwritten first old) ≡ overwritten (first ++ more) old
overwritten-again first more old =
    let size : length (first ++ more) ≡ length first + length more = length-append first more in
    let rest : drop (length (first ++ more)) (overwritten first old) ≡ drop (length (first ++ more)) old =
    ap (λ (n : ℕ). drop n (overwritten first old)) size
    ∙ sym (drop-drop (length more) (length first) (overwritten first old))
    ∙ ap (drop (length more)) (drop_at first (drop (length first) old) (length first) refl)
    ∙ drop-drop (length more) (length first) old
    ∙ ap (λ (n : ℕ). drop n old) (sym size) in
    ap (λ (l : List ℕ). (first ++ more) ++ l) rest

-- the checksum's field behind the header and the fields ends the whole
pub overwritten-spelling : (fs : List Field) (total at : ℕ) (xs ys old : List ℕ) → total ≡ total_of fs → at ≡ 5 + total → xs ≡ overwritten (header total ++ joined fs) old → ys ≡ overwritten (take at xs ++ ending (take at xs)) xs
    → ys ≡ overwritten (spelling fs) old
overwritten-spelling fs total at xs ys old sum end is written =
    let first = header total ++ joined fs in
    let size : length first ≡ at = omega arith in
    let front : take at xs ≡ first = ap (take at) is ∙ take_at first (drop (length first) old) at size in
    written
    ∙ ap (λ (l : List ℕ). overwritten (l ++ ending l) xs) front
    ∙ ap (overwritten (first ++ ending first)) is
    ∙ overwritten-again first (ending first) old
    ∙ ap (λ (l : List ℕ). overwritten l old) (append_assoc (header total) (joined fs) (ending first) ∙ header-joined-ending fs total sum)

-- what was written in front
overwritten-front : (front xs old : List ℕ) (size : ℕ) → size ≡ length front → xs ≡ overwritten front old → take size xs ≡ front
overwritten-front front xs old size is written = ap (take size) written ∙ take_at front (drop (length front) old) size (sym is)

-- the whole that was written reads as its fields
pub Tlv-written : (fs : List Field) (size : ℕ) (xs old : List ℕ) → AreFields fs → total_of fs ≤ 2037 → size ≡ length (spelling fs) → xs ≡ overwritten (spelling fs) old → Tlv (take size xs) fs
Tlv-written fs size xs old good fits is written = record {
  fields = good;
  fits = fits;
  spelled = ([], overwritten-front (spelling fs) xs old size is written ∙ sym (append-nil (spelling fs)));
}

-- bytes of the same fields begin with the whole
pub Tlv-same : (fs : List Field) (size : ℕ) (xs old bytes : List ℕ) → size ≡ length (spelling fs) → xs ≡ overwritten (spelling fs) old → Tlv bytes fs → take size xs ≡ take size bytes
Tlv-same fs size xs old bytes is written tlv =
    overwritten-front (spelling fs) xs old size is written ∙ sym (ap (take size) tlv.spelled.1 ∙ take_at (spelling fs) tlv.spelled.0 size (sym is))
