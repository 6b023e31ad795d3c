-- What was read of a source so far.
use Rattle.std.proofs.Common.{◌≡◌, ◌≤◌, ◌<◌, ℕ, suc, ◌+◌, List, [], ◌++◌, length, take, drop, Option, Some, None, refl, sym, ap, subst, ◌∙◌, arith, length-append, length-drop}
use Rattle.std.specs.Prelude.{option_map}
use Rattle.std.specs.Option.{ForSome}
use Rattle.std.proofs.Math.Nat.{lt_of_not-le}
use Rattle.std.proofs.Math.Seq.{take-add}
use Rattle.std.proofs.lemmas.List.{drop-drop, drop_all, length-take-le, take_all}
use Rattle.std.proofs.lemmas.Option.{same_Some}
use Rattle.bd_dev.specs.Source.{Gives, IsFront, emptied}

-- the text is a front of these bytes
pub record IsFrontOf (text left : List ℕ) : Type 0 where
  pub within : length text ≤ length left
  pub is : text ≡ take (length text) left

-- the text was read, and the rest is left
pub record HasRead (old new : Option (List ℕ)) (text : List ℕ) : Type 0 where
  pub front : ForSome old (IsFrontOf text)
  pub gone : new ≡ option_map (λ left. drop (length text) left) old

nothing_gone : (old : Option (List ℕ)) → old ≡ option_map (λ left. drop 0 left) old
nothing_gone None = refl
nothing_gone (Some left) = refl

pub read_nothing : (old : Option (List ℕ)) → HasRead old old []
read_nothing old = record { front = λ left told. record { within = omega arith; is = refl }; gone = nothing_gone old }

more_front : (text bytes left : List ℕ) (count : ℕ) → IsFrontOf text left → bytes ≡ take count (drop (length text) left) → count ≤ length (drop (length text) left) → IsFrontOf (text ++ bytes) left
more_front text bytes left count h e le =
    let size : length bytes ≡ count = ap length e ∙ length-take-le count (drop (length text) left) le in
    let whole : length (text ++ bytes) ≡ length text + count = length-append text bytes ∙ ap (λ (n : ℕ). length text + n) size in
    let rest = length-drop (length text) left in
    let within = h.within in
    record {
      within = (let few : length text + count ≤ length left = omega (arith, le, rest, within) in subst (λ (n : ℕ). n ≤ length left) (sym whole) few);
      is = ap (λ (t : List ℕ). t ++ bytes) h.is ∙ ap (λ (b : List ℕ). take (length text) left ++ b) e ∙ sym (take-add (length text) count left) ∙ ap (λ (n : ℕ). take n left) (sym whole);
    }

more_gone : (text bytes left : List ℕ) (count : ℕ) → length bytes ≡ count → drop count (drop (length text) left) ≡ drop (length (text ++ bytes)) left
more_gone text bytes left count size =
    drop-drop count (length text) left ∙ ap (λ (n : ℕ). drop n left) (ap (λ (n : ℕ). length text + n) (sym size) ∙ sym (length-append text bytes))

-- one read more
pub read_more : (old mid new : Option (List ℕ)) (text out bytes : List ℕ) (count : ℕ) → HasRead old mid text → Gives mid new count out → bytes ≡ take count out → HasRead old new (text ++ bytes)
read_more None mid new text out bytes count h g e = record {
  front = λ left told. absurd cc;
  gone = g.gone ∙ ap (option_map (λ (left : List ℕ). drop count left)) h.gone;
}
read_more (Some left) mid new text out bytes count h g e =
    let given : IsFront (drop (length text) left) count out = g.told (drop (length text) left) h.gone in
    let size : length bytes ≡ count = ap length e ∙ length-take-le count out g.fits in
    let more = more_front text bytes left count (h.front left refl) (e ∙ given.bytes) given.within in
    record {
      front = λ other told. subst (IsFrontOf (text ++ bytes)) (same_Some left other told) more;
      gone = g.gone ∙ ap (option_map (λ (l : List ℕ). drop count l)) h.gone ∙ ap Some (more_gone text bytes left count size);
    }

-- a read of nothing is the end
all_read : (old mid new : Option (List ℕ)) (text out left : List ℕ) → 0 < length out → HasRead old mid text → Gives mid new 0 out → old ≡ Some left → length left ≤ length text
all_read old mid new text out left room h g told =
    let held : mid ≡ Some (drop (length text) left) = h.gone ∙ ap (option_map (λ (l : List ℕ). drop (length text) l)) told in
    let given : IsFront (drop (length text) left) 0 out = g.told (drop (length text) left) held in
    let size = length-drop (length text) left in
    let end : length left < suc (length text) = lt_of_not-le (λ (more : suc (length text) ≤ length left).
    let some : 0 < length (drop (length text) left) = omega (arith, more, size) in
    let none : 0 < 0 = given.moves room some in
    omega (arith, none)) in
    omega (arith, end)

pub read_whole : (most : ℕ) (old mid new : Option (List ℕ)) (text out : List ℕ) → 0 < length out → length text ≤ most → HasRead old mid text → Gives mid new 0 out → ForSome old (λ left. text ≡ take most left)
read_whole most old mid new text out room few h g = λ left told.
    let front = h.front left told in
    let end = all_read old mid new text out left room h g told in
    front.is ∙ take_all (length text) left end ∙ sym (take_all most left (omega (arith, end, few)))

pub read_out : (old mid new : Option (List ℕ)) (text out : List ℕ) → 0 < length out → HasRead old mid text → Gives mid new 0 out → new ≡ emptied old
read_out None mid new text out room h g = g.gone ∙ ap (option_map (λ (l : List ℕ). drop 0 l)) h.gone
read_out (Some left) mid new text out room h g =
    let end = all_read (Some left) mid new text out left room h g refl in
    g.gone ∙ ap (option_map (λ (l : List ℕ). drop 0 l)) h.gone ∙ ap Some (drop_all (length text) left end)

-- as much as is ever read
pub read_full : (most : ℕ) (old new : Option (List ℕ)) (text : List ℕ) → length text ≡ most → HasRead old new text → ForSome old (λ left. text ≡ take most left)
read_full most old new text size h = λ left told. (h.front left told).is ∙ ap (λ (n : ℕ). take n left) size
