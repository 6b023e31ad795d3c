-- Texts taken from the front or from the back.
use Rattle.std.proofs.Common.{◌≡◌, ℕ, ◌-◌, ◌≤◌, Bool, true, false, Some, refl, sym, subst, ap, ◌∙◌, arith, List, [], ◌∷◌, ◌++◌, take, drop, length, length-append}
use Rattle.std.specs.Prelude.{reverse}
use Rattle.std.proofs.lemmas.List.{reverse-append, reverse-reverse, length-reverse}
use Rattle.sh_expand.specs.declared.matching.Items.{Items}
use Rattle.sh_expand.specs.declared.matching.Items.TheVariants as sides
use Rattle.sh_expand.specs.Pattern.{Text, Item}
use Rattle.sh_expand.specs.Cut.{Begins, IsCut, NoCut, Leaves}
use Rattle.sh_expand.specs.CutEnd.{IsCutEnd, NoCutEnd}
use Rattle.sh_expand.specs.Scan.{text_in, CutsTo}
use Rattle.sh_expand.proofs.Ends.{front_of, end_is_front}

pub text_length : (items : Items) (text : Text) → length (text_in items text) ≡ length text
text_length (sides.Front pattern) text = refl
text_length (sides.Back items) text = length-reverse text

pub none_in : (items : Items) (text : Text) → text ≡ [] → text_in items text ≡ []
none_in (sides.Front pattern) text e = e
none_in (sides.Back items) text e = ap reverse e

pub empty_text : (items : Items) (text : Text) → text_in items text ≡ [] → text ≡ []
empty_text (sides.Front pattern) text e = e
empty_text (sides.Back items) text e = sym (reverse-reverse text) ∙ ap reverse e

drop_front : (f r : Text) → drop (length f) (f ++ r) ≡ r
drop_front [] r = refl
drop_front (c ∷ f) r = drop_front f r

take_front : (f r : Text) → take (length f) (f ++ r) ≡ f
take_front [] r = refl
take_front (c ∷ f) r = ap (λ (x : Text). c ∷ x) (take_front f r)

split : {is : List Item} {t r : Text} {longest : Bool} → IsCut is t longest r → (f : Text) × (t ≡ f ++ r)
split c = let i = front_of c.matches in (i.0, i.1)

pub cut_within : (is : List Item) (t : Text) (longest : Bool) (n : ℕ) → CutsTo is t longest (Some n) → n ≤ length t
cut_within is t longest n (r, c, size) =
    let (f, e) = split c in
    let h = ap length e ∙ length-append f r in
    omega (arith, h, size)

pub front_cut : (is : List Item) (t : Text) (longest : Bool) (n : ℕ) → CutsTo is t longest (Some n) → IsCut is t longest (drop (length t - n) t)
front_cut is t longest n (r, c, size) =
    let (f, e) = split c in
    let h = ap length e ∙ length-append f r in
    let k : length t - n ≡ length f = omega (arith, h, size) in
    subst (λ (x : Text). IsCut is t longest x) (sym (ap (λ (m : ℕ). drop m t) k ∙ ap (λ (x : Text). drop (length f) x) e ∙ drop_front f r)) c

leaves_reversed : (longest : Bool) (r other : Text) → Leaves longest r (reverse other) → Leaves longest (reverse r) other
leaves_reversed true r other h = let a = length-reverse r in let b = length-reverse other in omega (arith, h, a, b)
leaves_reversed false r other h = let a = length-reverse r in let b = length-reverse other in omega (arith, h, a, b)

reversed_cut : (is : List Item) (t : Text) (longest : Bool) (r : Text) → IsCut (reverse is) (reverse t) longest r → IsCutEnd is t longest (reverse r)
reversed_cut is t longest r c = record {
  matches = (end_is_front is t (reverse r)).1 (subst (λ (x : Text). Begins (reverse is) (reverse t) x) (sym (reverse-reverse r)) c.matches);
  best = λ other e. leaves_reversed longest r other (c.best (reverse other) ((end_is_front is t other).0 e));
}

pub end_cut : (is : List Item) (t : Text) (longest : Bool) (n : ℕ) → CutsTo (reverse is) (reverse t) longest (Some n) → IsCutEnd is t longest (take n t)
end_cut is t longest n (r, c, size) =
    let (f, e) = split c in
    let h : t ≡ reverse r ++ reverse f = sym (reverse-reverse t) ∙ ap reverse e ∙ reverse-append f r in
    let k : n ≡ length (reverse r) = sym size ∙ sym (length-reverse r) in
    subst (λ (x : Text). IsCutEnd is t longest x) (sym (ap (λ (m : ℕ). take m t) k ∙ ap (λ (x : Text). take (length (reverse r)) x) h ∙ take_front (reverse r) (reverse f))) (reversed_cut is t longest r c)

pub no_end : (is : List Item) (t : Text) → NoCut (reverse is) (reverse t) → NoCutEnd is t
no_end is t n = record { none = λ other e. n.none (reverse other) ((end_is_front is t other).0 e) }
