-- The scan of a text for fronts that match, which goes back to its last star alone.
use Rattle.std.proofs.Common.{◌≡◌, ℕ, zero, suc, ◌≤◌, Bool, true, false, refl, sym, subst, ap, ◌∙◌, arith, List, [], ◌∷◌, drop, length, length-drop, Option, Some, None, inl, inr, ◌⊎◌, ⊎_elim, ◌↔◌}
use Rattle.sh_expand.specs.Pattern.{Text, Item, Star, takes, items_of, Matches}
use Rattle.sh_expand.specs.Cut.{Begins, ends, byte, star_ends, star_goes, IsCut}
use Rattle.sh_expand.specs.Scan.{Spot, Goes, Stars, Later, IsLater, CutsTo}

star_more : (n : ℕ) (is : List Item) (t : Text) {r : Text} → Begins (Star ∷ is) (drop n t) r → Begins (Star ∷ is) t r
star_more zero is t h = h
star_more (suc n) is [] h = h
star_more (suc n) is (c ∷ t) h = star_goes (star_more n is t h)

star_less : {is : List Item} {t r : Text} → Begins (Star ∷ is) t r → (n : ℕ) × Begins is (drop n t) r
star_less (byte h m) = let k : false ≡ true = h in cc
star_less (star_ends m) = (0, m)
star_less (star_goes m) = let i = star_less m in (suc i.0, i.1)

one_less : (d : ℕ) {i : Item} {is : List Item} {c : ℕ} {t r : Text} → takes i d ≡ true → Begins (i ∷ is) (c ∷ t) r → Begins is t r
one_less d e (byte h m) = m
one_less d e (star_ends m) = let k : false ≡ true = e in cc
one_less d e (star_goes m) = let k : false ≡ true = e in cc

nothing_left : (d : ℕ) {i : Item} {is : List Item} {r : Text} → takes i d ≡ true → Begins (i ∷ is) [] r → ⊥
nothing_left d e (star_ends m) = let k : false ≡ true = e in cc

one_less_at : (d n : ℕ) {i : Item} {is : List Item} (t : Text) {r : Text} → takes i d ≡ true → Begins (i ∷ is) (drop n t) r → Begins is (drop (suc n) t) r
one_less_at d zero [] e m = absurd (nothing_left d e m)
one_less_at d zero (c ∷ t) e m = one_less d e m
one_less_at d (suc n) [] e m = absurd (nothing_left d e m)
one_less_at d (suc n) (c ∷ t) e m = one_less_at d n t e m

at_nothing : {is : List Item} {t r : Text} → is ≡ [] → Begins is t r → t ≡ r
at_nothing {is} {t} {r} e m = go (subst (λ (x : List Item). Begins x t r) e m)
  where
    go : {u v : Text} → Begins [] u v → u ≡ v
    go ends = refl

-- the last star and one byte more match
abbrev pub BeginsLater : Option Spot → Text → Type 0
BeginsLater None r = ⊥
BeginsLater (Some place) r = (c : ℕ) × (t : Text) × (place.text ≡ c ∷ t) × Begins (Star ∷ place.items) t r

abbrev pub Again : List Item → Text → Option Spot → Type 0
Again items text None = Unit {0}
Again items text (Some place) = (r : Text) → Begins (Star ∷ place.items) place.text r → Begins items text r

abbrev pub Follows : Option Spot → Spot → Type 0
Follows None here = Unit {0}
Follows (Some place) here = (n : ℕ) (r : Text) → Begins (place.items) (drop n place.text) r → Begins (here.items) (drop n here.text) r

-- what may still be found
abbrev pub Ahead : Spot → Option Spot → Text → Type 0
Ahead here last r = Begins (here.items) here.text r ⊎ BeginsLater last r

-- the longest front so far leaves no more than this
abbrev pub IsPast : Option ℕ → Text → Type 0
IsPast None r = ⊥
IsPast (Some best) r = best ≤ length r

-- it matches, and all that may still be found leaves no more
abbrev pub IsBest : List Item → Text → (Text → Type 0) → Option ℕ → Type 0
IsBest items text ahead None = Unit {0}
IsBest items text ahead (Some best) = ((now : Text) × Begins items text now × (length now ≡ best)) × ((r : Text) → ahead r → length r ≤ best)

pub record Keeps (items : List Item) (text : Text) (here : Spot) (last : Option Spot) (best : Option ℕ) : Type 0 where
  pub sound : (r : Text) → Begins (here.items) here.text r → Begins items text r
  pub again : Again items text last
  pub whole : (r : Text) → Begins items text r → Ahead here last r ⊎ IsPast best r
  pub follows : Follows last here
  pub found : IsBest items text (Ahead here last) best

best_weaker : (items : List Item) (text : Text) (A B : Text → Type 0) (best : Option ℕ) → ((r : Text) → B r → A r) → IsBest items text A best → IsBest items text B best
best_weaker items text A B None f h = tt
best_weaker items text A B (Some best) f h = (h.0, λ r b. h.1 r (f r b))

pub starts : (items : List Item) (text : Text) (here : Spot) → here.items ≡ items → here.text ≡ text → Keeps items text here None None
starts items text here e h = record {
  sound = λ r m. subst (λ (x : List Item). Begins x text r) e (subst (λ (x : Text). Begins (here.items) x r) h m);
  again = tt;
  whole = λ r m. inl (inl (subst (λ (x : List Item). Begins x here.text r) (sym e) (subst (λ (x : Text). Begins items x r) (sym h) m)));
  follows = tt;
  found = tt;
}

at_star : (to : Spot) {r : Text} → Begins (Star ∷ to.items) to.text r → Ahead to (Some to) r
at_star to {r} m = go m refl
  where
    go : {u : Text} → Begins (Star ∷ to.items) u r → u ≡ to.text → Ahead to (Some to) r
    go (byte h m) f = let k : false ≡ true = h in cc
    go (star_ends m) f = inl (subst (λ (x : Text). Begins (to.items) x r) f m)
    go (star_goes {c = c} {t = t} m) f = inr (c, t, sym f, m)

-- what stands behind a star, and behind the star with a byte more, stands at the star
from_star : (to : Spot) {r : Text} → Ahead to (Some to) r → Begins (Star ∷ to.items) to.text r
from_star to {r} a = ⊎_elim (λ m. star_ends m) (λ (c, t, e, m). subst (λ (x : Text). Begins (Star ∷ to.items) x r) (sym e) (star_goes m)) a

past_star : (last : Option Spot) (here to : Spot) {r : Text} → Stars here to → Follows last here → BeginsLater last r → Begins (Star ∷ to.items) to.text r
past_star None here to s f m = absurd m
past_star (Some place) here to {r} s f (c, t, e, m) =
    let i = star_less m in
    let j = subst (λ (x : Text). Begins (place.items) (drop (suc i.0) x) r) (sym e) i.1 in
    let k = f (suc i.0) r j in
    let l = subst (λ (x : Text). Begins (here.items) (drop (suc i.0) x) r) s.text k in
    star_more (suc i.0) (to.items) to.text (subst (λ (x : List Item). Begins x (drop (suc i.0) to.text) r) s.items l)

to_here : (here to : Spot) {r : Text} → Stars here to → Begins (Star ∷ to.items) to.text r → Begins (here.items) here.text r
to_here here to {r} s m = subst (λ (x : List Item). Begins x here.text r) (sym s.items) (subst (λ (x : Text). Begins (Star ∷ to.items) x r) (sym s.text) m)

to_star : (here to : Spot) {r : Text} → Stars here to → Begins (here.items) here.text r → Begins (Star ∷ to.items) to.text r
to_star here to {r} s m = subst (λ (x : Text). Begins (Star ∷ to.items) x r) s.text (subst (λ (x : List Item). Begins x here.text r) s.items m)

pub keeps_star : (items : List Item) (text : Text) (here to : Spot) (last : Option Spot) (best : Option ℕ) → Keeps items text here last best → Stars here to → Keeps items text to (Some to) best
keeps_star items text here to last best k s = record {
  sound = λ r m. k.sound r (to_here here to s (star_ends m));
  again = λ r m. k.sound r (to_here here to s m);
  whole = λ r m. ⊎_elim (λ a. inl (at_star to (⊎_elim (to_star here to s) (past_star last here to s k.follows) a))) inr (k.whole r m);
  follows = λ n r m. m;
  found = best_weaker items text (Ahead here last) (Ahead to (Some to)) best (λ r a. inl (to_here here to s (from_star to a))) k.found;
}

follows_byte : (last : Option Spot) (here to : Spot) → Goes here to → Follows last here → Follows last to
follows_byte None here to g f = tt
follows_byte (Some place) here to g f = λ n r m.
    let b = subst (λ (x : List Item). Begins x (drop n here.text) r) g.items (f n r m) in
    subst (λ (x : Text). Begins (to.items) (drop (suc n) x) r) g.text (one_less_at g.byte n here.text g.takes b)

byte_back : (here to : Spot) {r : Text} → Goes here to → Begins (to.items) to.text r → Begins (here.items) here.text r
byte_back here to {r} g m = subst (λ (x : List Item). Begins x here.text r) (sym g.items) (subst (λ (x : Text). Begins (g.item ∷ to.items) x r) (sym g.text) (byte g.takes m))

byte_on : (here to : Spot) {r : Text} → Goes here to → Begins (here.items) here.text r → Begins (to.items) to.text r
byte_on here to {r} g m = one_less g.byte g.takes (subst (λ (x : Text). Begins (g.item ∷ to.items) x r) g.text (subst (λ (x : List Item). Begins x here.text r) g.items m))

pub keeps_byte : (items : List Item) (text : Text) (here to : Spot) (last : Option Spot) (best : Option ℕ) → Keeps items text here last best → Goes here to → Keeps items text to last best
keeps_byte items text here to last best k g = record {
  sound = λ r m. k.sound r (byte_back here to g m);
  again = k.again;
  whole = λ r m. ⊎_elim (λ a. inl (⊎_elim (λ n. inl (byte_on here to g n)) inr a)) inr (k.whole r m);
  follows = follows_byte last here to g k.follows;
  found = best_weaker items text (Ahead here last) (Ahead to last) best (λ r a. ⊎_elim (λ n. inl (byte_back here to g n)) inr a) k.found;
}

later_text : (from to : Spot) {r : Text} → IsLater from to → BeginsLater (Some from) r → Begins (Star ∷ to.items) to.text r
later_text from to {r} l (c, t, e, m) =
    let f : c ∷ t ≡ l.byte ∷ to.text = sym e ∙ l.text in
    let g : t ≡ to.text = cc in
    subst (λ (x : Text). Begins (Star ∷ to.items) x r) g (subst (λ (x : List Item). Begins (Star ∷ x) t r) (sym l.items) m)

later_back : (from to : Spot) {r : Text} → IsLater from to → Begins (Star ∷ to.items) to.text r → BeginsLater (Some from) r
later_back from to {r} l m = (l.byte, to.text, l.text, subst (λ (x : List Item). Begins (Star ∷ x) to.text r) l.items m)

again_of : (items : List Item) (text : Text) (from : Spot) {r : Text} → Again items text (Some from) → BeginsLater (Some from) r → Begins items text r
again_of items text from {r} h (c, t, e, m) = h r (subst (λ (x : Text). Begins (Star ∷ from.items) x r) (sym e) (star_goes m))

-- nothing here goes on, and what was found so far is known
keeps_on : (items : List Item) (text : Text) (here to : Spot) (last : Option Spot) (old best : Option ℕ) → Keeps items text here last old → Later last (Some to) →
    ((r : Text) → Begins (here.items) here.text r → IsPast best r) → ((r : Text) → IsPast old r → IsPast best r) → IsBest items text (BeginsLater last) best → Keeps items text to (Some to) best
keeps_on items text here to None old best k l p q f = absurd l
keeps_on items text here to (Some from) old best k l p q f = record {
  sound = λ r m. again_of items text from k.again (later_back from to l (star_ends m));
  again = λ r m. again_of items text from k.again (later_back from to l m);
  whole = λ r m. ⊎_elim (λ a. ⊎_elim (λ n. inr (p r n)) (λ n. inl (at_star to (later_text from to l n))) a) (λ b. inr (q r b)) (k.whole r m);
  follows = λ n r m. m;
  found = best_weaker items text (BeginsLater (Some from)) (Ahead to (Some to)) best (λ r a. later_back from to l (from_star to a)) f;
}

pub keeps_stuck : (items : List Item) (text : Text) (here to : Spot) (last : Option Spot) (best : Option ℕ) → Keeps items text here last best → ((r : Text) → Begins (here.items) here.text r → ⊥) → Later last (Some to) → Keeps items text to (Some to) best
keeps_stuck items text here to last best k n l = keeps_on items text here to last best best k l (λ r m. absurd (n r m)) (λ r h. h) (best_weaker items text (Ahead here last) (BeginsLater last) best (λ r a. inr a) k.found)

-- ---- at the end of the pattern
later_low : (here : Spot) (last : Option Spot) (r : Text) → here.items ≡ [] → Follows last here → BeginsLater last r → length r ≤ length here.text
later_low here None r e f m = absurd m
later_low here (Some place) r e f (c, t, g, m) =
    let i = star_less m in
    let j = f (suc i.0) r (subst (λ (x : Text). Begins (place.items) (drop (suc i.0) x) r) (sym g) i.1) in
    let k = ap length (at_nothing e j) in
    let l = length-drop (suc i.0) here.text in
    omega (arith, k, l)

here_is : (here : Spot) (r : Text) → here.items ≡ [] → Begins (here.items) here.text r → length r ≤ length here.text × (length here.text ≤ length r)
here_is here r e m = let k = ap length (at_nothing e m) in (omega (arith, k), omega (arith, k))

begins_here : (here : Spot) → here.items ≡ [] → Begins (here.items) here.text here.text
begins_here here e = subst (λ (x : List Item). Begins x here.text here.text) (sym e) ends

past_low : (items : List Item) (text : Text) (A : Text → Type 0) (old : Option ℕ) (now r : Text) → IsBest items text A old → A now → IsPast old r → length now ≤ length r
past_low items text A None now r b a p = absurd p
past_low items text A (Some best) now r b a p = let h = b.1 now a in omega (arith, h, p)

module _ (items : List Item) (text : Text) (here : Spot) (last : Option Spot) (old : Option ℕ) (k : Keeps items text here last old) (e : here.items ≡ []) where
  pub shortest : old ≡ None → IsCut items text false here.text
  shortest n = record {
    matches = k.sound here.text (begins_here here e);
    best = λ r m. ⊎_elim (λ a. ⊎_elim (λ b. (here_is here r e b).0) (later_low here last r e k.follows) a) (λ p. absurd (subst (λ (o : Option ℕ). IsPast o r) n p)) (k.whole r m);
  }

  pub keeps_end : (to : Spot) (now : ℕ) → now ≡ length here.text → Later last (Some to) → Keeps items text to (Some to) (Some now)
  keeps_end to now f l = keeps_on items text here to last old (Some now) k l
      (λ r m. let h = (here_is here r e m).1 in omega (arith, h, f))
      (λ r p. let h = past_low items text (Ahead here last) old here.text r k.found (inl (begins_here here e)) p in omega (arith, h, f))
      ((here.text, k.sound here.text (begins_here here e), sym f), λ r m. let h = later_low here last r e k.follows m in omega (arith, h, f))

no_later : (last : Option Spot) (r : Text) → Later last None → BeginsLater last r → ⊥
no_later None r l m = m
no_later (Some place) r l (c, t, e, m) = let k : c ∷ t ≡ [] = sym e ∙ l in cc

-- the scan is at its end
pub longest : (items : List Item) (text : Text) (here : Spot) (last : Option Spot) (best : Option ℕ) → Keeps items text here last best → ((r : Text) → Begins here.items here.text r → ⊥) → Later last None → CutsTo items text true best
longest items text here last None k n l = record { none = λ r m. ⊎_elim (λ a. ⊎_elim (n r) (no_later last r l) a) (λ p. p) (k.whole r m) }
longest items text here last (Some best) k n l =
    let ((now, begins, size), _) = k.found in (
      now,
      record {
        matches = begins;
        best = λ r m. ⊎_elim (λ a. absurd (⊎_elim (n r) (no_later last r l) a)) (λ p. omega (arith, p, size)) (k.whole r m);
      },
      size,
    )

pub longest_end : (items : List Item) (text : Text) (here : Spot) (last : Option Spot) (old : Option ℕ) → Keeps items text here last old → here.items ≡ [] → Later last None → IsCut items text true here.text
longest_end items text here last old k e l = record {
  matches = k.sound here.text (begins_here here e);
  best = λ r m. ⊎_elim (λ a. ⊎_elim (λ b. (here_is here r e b).1) (λ b. absurd (no_later last r l b)) a) (past_low items text (Ahead here last) old here.text r k.found (inl (begins_here here e))) (k.whole r m);
}

pub no_more : (wanted : Bool) (items : List Item) (text : Text) (here : Spot) (last : Option Spot) (best : Option ℕ) → (wanted ≡ false → best ≡ None) → Keeps items text here last best → ((r : Text) → Begins here.items here.text r → ⊥) → Later last None → CutsTo items text wanted best
no_more true items text here last best h k n l = longest items text here last best k n l
no_more false items text here last best h k n l =
    let e = h refl in
    let c = longest items text here last best k n l in
    subst (λ (o : Option ℕ). CutsTo items text false o) (sym e) (subst (λ (o : Option ℕ). CutsTo items text true o) e c)

-- ---- whole texts
to_front : {is : List Item} {t : Text} → Matches is t → Begins is t []
to_front Rattle.sh_expand.specs.Pattern.Matches.ends = ends
to_front (Rattle.sh_expand.specs.Pattern.Matches.byte h m) = byte h (to_front m)
to_front (Rattle.sh_expand.specs.Pattern.Matches.star_ends m) = star_ends (to_front m)
to_front (Rattle.sh_expand.specs.Pattern.Matches.star_goes m) = star_goes (to_front m)

pub of_front : {is : List Item} {t r : Text} → Begins is t r → r ≡ [] → Matches is t
of_front {t = t} ends e = subst (λ (x : Text). Matches [] x) (sym e) Rattle.sh_expand.specs.Pattern.Matches.ends
of_front (byte h m) e = Rattle.sh_expand.specs.Pattern.Matches.byte h (of_front m e)
of_front (star_ends m) e = Rattle.sh_expand.specs.Pattern.Matches.star_ends (of_front m e)
of_front (star_goes m) e = Rattle.sh_expand.specs.Pattern.Matches.star_goes (of_front m e)

pub both_ways : (items : List Item) (text : Text) → Matches items text ↔ Begins items text []
both_ways items text = (to_front, λ m. of_front m refl)
