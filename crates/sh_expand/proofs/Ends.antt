-- The ends of a text are the fronts of the reversed one.
use Rattle.std.proofs.Common.{◌≡◌, ℕ, true, false, refl, sym, subst, ap, ◌∙◌, List, [], ◌∷◌, ◌++◌, append_assoc, ◌↔◌}
use Rattle.std.specs.Prelude.{reverse}
use Rattle.std.proofs.lemmas.List.{reverse-append, reverse-reverse}
use Rattle.sh_expand.specs.Pattern.{Text, Item, Star, takes, Matches}
use Rattle.sh_expand.specs.Cut.{Begins, ends, byte, star_ends, star_goes}
use Rattle.sh_expand.specs.CutEnd.{IsEnd}
use Rattle.sh_expand.proofs.Fronts.{of_front}
use Rattle.sh_expand.proofs.Splitting.{append_nil}

joined : {is js : List Item} {t u r : Text} → Begins is t u → Begins js u r → Begins (is ++ js) t r
joined ends n = n
joined (byte h m) n = byte h (joined m n)
joined (star_ends m) n = star_ends (joined m n)
joined (star_goes m) n = star_goes (joined m n)

-- a star alone takes one byte more
star_alone : {t u : Text} (c : ℕ) (r : Text) → u ≡ c ∷ r → Begins (Star ∷ []) t u → Begins (Star ∷ []) t r
star_alone c r e (byte h m) = let k : false ≡ true = h in cc
star_alone {t} {u} c r e (star_ends m) = subst (λ (x : Text). Begins (Star ∷ []) x r) (sym (alone m ∙ e)) (star_goes (star_ends ends))
  where
    alone : {v w : Text} → Begins [] v w → v ≡ w
    alone ends = refl
star_alone c r e (star_goes m) = star_goes (star_alone c r e m)

-- and so does one after other items
last_star : (is js : List Item) {t : Text} (c : ℕ) (r : Text) → js ≡ is ++ Star ∷ [] → Begins js t (c ∷ r) → Begins (is ++ Star ∷ []) t r
last_star [] js {t} c r e m = star_alone c r refl (subst (λ (x : List Item). Begins x t (c ∷ r)) e m)
last_star (i ∷ is) js c r e ends = cc
last_star (i ∷ is) js c r e (byte {i = j} {is = ks} {c = d} {t = u} h m) =
    let f : j ≡ i = cc in
    let g : ks ≡ is ++ Star ∷ [] = cc in
    byte (subst (λ (x : Item). takes x d ≡ true) f h) (last_star is ks c r g m)
last_star (i ∷ is) js {t} c r e (star_ends {is = ks} m) =
    let f : Star ≡ i = cc in
    let g : ks ≡ is ++ Star ∷ [] = cc in
    subst (λ (x : Item). Begins (x ∷ is ++ Star ∷ []) t r) f (star_ends (last_star is ks c r g m))
last_star (i ∷ is) js c r e (star_goes {is = ks} {c = d} {t = u} m) =
    let f : Star ≡ i = cc in
    subst (λ (x : Item). Begins (x ∷ is ++ Star ∷ []) (d ∷ u) r) f (star_goes (subst (λ (x : Item). Begins (x ∷ is ++ Star ∷ []) u r) (sym f) (last_star (i ∷ is) js c r e m)))

one_on : (t : Text) (c : ℕ) (r : Text) → reverse (c ∷ t) ++ r ≡ reverse t ++ c ∷ r
one_on t c r = ap (λ (x : Text). x ++ r) (reverse-append (c ∷ []) t) ∙ append_assoc (reverse t) (c ∷ []) r

item_last : (i : Item) (is : List Item) → reverse (i ∷ is) ≡ reverse is ++ i ∷ []
item_last i is = reverse-append (i ∷ []) is

backward : {is : List Item} {t : Text} (r : Text) → Matches is t → Begins (reverse is) (reverse t ++ r) r
backward r Rattle.sh_expand.specs.Pattern.Matches.ends = ends
backward r (Rattle.sh_expand.specs.Pattern.Matches.byte {i = i} {is = is} {c = c} {t = t} h m) =
    subst (λ (x : List Item). Begins x (reverse (c ∷ t) ++ r) r) (sym (item_last i is))
    (subst (λ (x : Text). Begins (reverse is ++ i ∷ []) x r) (sym (one_on t c r)) (joined (backward (c ∷ r) m) (byte h ends)))
backward r (Rattle.sh_expand.specs.Pattern.Matches.star_ends {is = is} {t = t} m) =
    subst (λ (x : List Item). Begins x (reverse t ++ r) r) (sym (item_last Star is)) (joined (backward r m) (star_ends ends))
backward r (Rattle.sh_expand.specs.Pattern.Matches.star_goes {is = is} {c = c} {t = t} m) =
    subst (λ (x : List Item). Begins x (reverse (c ∷ t) ++ r) r) (sym (item_last Star is))
    (subst (λ (x : Text). Begins (reverse is ++ Star ∷ []) x r) (sym (one_on t c r)) (last_star (reverse is) (reverse (Star ∷ is)) c r (item_last Star is) (backward (c ∷ r) m)))

reversed : {is : List Item} {t : Text} → Matches is t → Matches (reverse is) (reverse t)
reversed {is} {t} m = of_front (subst (λ (x : Text). Begins (reverse is) x []) (append_nil (reverse t)) (backward [] m)) refl

back_again : (is : List Item) (t : Text) → Matches (reverse is) (reverse t) → Matches is t
back_again is t m = subst (λ (x : List Item). Matches x t) (reverse-reverse is) (subst (λ (x : Text). Matches (reverse (reverse is)) x) (reverse-reverse t) (reversed m))

pub either_way : (items : List Item) (text : Text) → Matches items text ↔ Matches (reverse items) (reverse text)
either_way items text = (reversed, back_again items text)

-- what a front leaves
pub front_of : {is : List Item} {t r : Text} → Begins is t r → (f : Text) × (t ≡ f ++ r) × Matches is f
front_of ends = ([], refl, Rattle.sh_expand.specs.Pattern.Matches.ends)
front_of (byte {c = c} h m) = let i = front_of m in (c ∷ i.0, ap (λ (x : Text). c ∷ x) i.1, Rattle.sh_expand.specs.Pattern.Matches.byte h i.2)
front_of (star_ends m) = let i = front_of m in (i.0, i.1, Rattle.sh_expand.specs.Pattern.Matches.star_ends i.2)
front_of (star_goes {c = c} m) = let i = front_of m in (c ∷ i.0, ap (λ (x : Text). c ∷ x) i.1, Rattle.sh_expand.specs.Pattern.Matches.star_goes i.2)

to_front_of_end : (items : List Item) (text rest : Text) → IsEnd items text rest → Begins (reverse items) (reverse text) (reverse rest)
to_front_of_end items text rest e = subst (λ (x : Text). Begins (reverse items) x (reverse rest)) (sym (ap reverse e.parts ∙ reverse-append rest e.end)) (backward (reverse rest) e.matches)

to_end : (items : List Item) (text rest : Text) → Begins (reverse items) (reverse text) (reverse rest) → IsEnd items text rest
to_end items text rest m =
    let f = front_of m in record {
      end = reverse f.0;
      parts = sym (reverse-reverse text) ∙ ap reverse f.1 ∙ reverse-append f.0 (reverse rest) ∙ ap (λ (x : Text). x ++ reverse f.0) (reverse-reverse rest);
      matches = subst (λ (x : List Item). Matches x (reverse f.0)) (reverse-reverse items) (reversed f.2);
    }

pub end_is_front : (items : List Item) (text rest : Text) → IsEnd items text rest ↔ Begins (reverse items) (reverse text) (reverse rest)
end_is_front items text rest = (to_front_of_end items text rest, to_end items text rest)
