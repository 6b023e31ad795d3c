-- The scan of a text for a pattern, which goes back to its last star alone.
use Rattle.std.proofs.Common.{◌≡◌, ℕ, zero, suc, ◌+◌, ◌*◌, ◌<◌, ◌≤◌, true, false, refl, sym, subst, ap, ◌∙◌, arith, List, [], ◌∷◌, drop, length, Option, Some, None, inl, inr, ◌⊎◌, ⊎_elim}
use Rattle.std.proofs.Math.Nat.{mul-le-mul_right}
use Rattle.sh_expand.specs.Pattern.{Text, Item, Star, takes, Matches, ends, byte, star_ends, star_goes}
use Rattle.sh_expand.specs.Scan.{Spot, Goes, Stars, Later, IsLater}

-- a star takes more
star_more : (n : ℕ) (is : List Item) (t : Text) → Matches (Star ∷ is) (drop n t) → Matches (Star ∷ is) t
star_more zero is t h = h
star_more (suc n) is [] h = h
star_more (suc n) is (c ∷ t) h = star_goes (star_more n is t h)

-- a star took so many bytes
star_less : {is : List Item} {t : Text} → Matches (Star ∷ is) t → (n : ℕ) × Matches is (drop n t)
star_less (byte h m) = let k : false ≡ true = h in cc
star_less (star_ends m) = (0, m)
star_less (star_goes m) = let i = star_less m in (suc i.0, i.1)

-- an item that is no star took a byte
one_less : (d : ℕ) {i : Item} {is : List Item} {c : ℕ} {t : Text} → takes i d ≡ true → Matches (i ∷ is) (c ∷ t) → Matches is t
one_less d e (byte h m) = m
one_less d e (star_ends m) = let k : false ≡ true = e in cc
one_less d e (star_goes m) = let k : false ≡ true = e in cc

nothing_left : (d : ℕ) {i : Item} {is : List Item} → takes i d ≡ true → Matches (i ∷ is) [] → ⊥
nothing_left d e (star_ends m) = let k : false ≡ true = e in cc

one_less_at : (d n : ℕ) {i : Item} {is : List Item} (t : Text) → takes i d ≡ true → Matches (i ∷ is) (drop n t) → Matches is (drop (suc n) t)
one_less_at d zero [] e m = absurd (nothing_left d e m)
one_less_at d zero (c ∷ t) e m = one_less d e m
one_less_at d (suc n) [] e m = absurd (nothing_left d e m)
one_less_at d (suc n) (c ∷ t) e m = one_less_at d n t e m

-- the last star and one byte more match
abbrev pub MatchesLater : Option Spot → Type 0
MatchesLater None = ⊥
MatchesLater (Some place) = (c : ℕ) × (t : Text) × (place.text ≡ c ∷ t) × Matches (Star ∷ place.items) t

abbrev pub Again : List Item → Text → Option Spot → Type 0
Again items text None = Unit {0}
Again items text (Some place) = Matches (Star ∷ place.items) place.text → Matches items text

-- what matches behind the last star, however many bytes it took, goes on to match here
abbrev pub Follows : Option Spot → Spot → Type 0
Follows None here = Unit {0}
Follows (Some place) here = (n : ℕ) → Matches (place.items) (drop n place.text) → Matches (here.items) (drop n here.text)

-- What is left here matches, or the last star takes one byte more, exactly where the whole matches.
pub record Keeps (items : List Item) (text : Text) (here : Spot) (last : Option Spot) : Type 0 where
  pub sound : Matches (here.items) here.text → Matches items text
  pub again : Again items text last
  pub whole : Matches items text → Matches (here.items) here.text ⊎ MatchesLater last
  pub follows : Follows last here

same_place : (f : List Item) (t : Text) {is : List Item} {u : Text} → is ≡ f → u ≡ t → Matches f t → Matches is u
same_place f t {is} {u} e h m = subst (λ (x : List Item). Matches x u) (sym e) (subst (λ (x : Text). Matches f x) (sym h) m)

pub starts : (items : List Item) (text : Text) (here : Spot) → here.items ≡ items → here.text ≡ text → Keeps items text here None
starts items text here e h = record {
  sound = λ m. subst (λ (x : List Item). Matches x text) e (subst (λ (x : Text). Matches (here.items) x) h m);
  again = tt;
  whole = λ m. inl (same_place items text e h m);
  follows = tt;
}

-- what may stand at a star: it takes nothing, or one byte more
at_star : (to : Spot) {t : Text} → t ≡ to.text → Matches (Star ∷ to.items) t → Matches (to.items) to.text ⊎ MatchesLater (Some to)
at_star to e m = go (subst (λ (x : Text). Matches (Star ∷ to.items) x) e m) refl
  where
    go : {u : Text} → Matches (Star ∷ to.items) u → u ≡ to.text → Matches (to.items) to.text ⊎ MatchesLater (Some to)
    go (byte h m) f = let k : false ≡ true = h in cc
    go (star_ends m) f = inl (subst (λ (x : Text). Matches (to.items) x) f m)
    go (star_goes {c = c} {t = t} m) f = inr (c, t, sym f, m)

-- where the last star takes more, the star here takes what the last one did
past_star : (last : Option Spot) (here to : Spot) → Stars here to → Follows last here → MatchesLater last → Matches (Star ∷ to.items) to.text
past_star None here to s f m = absurd m
past_star (Some place) here to s f (c, t, e, m) =
    let i = star_less m in
    let j = subst (λ (x : Text). Matches (place.items) (drop (suc i.0) x)) (sym e) i.1 in
    let k = f (suc i.0) j in
    let l = subst (λ (x : Text). Matches (here.items) (drop (suc i.0) x)) s.text k in
    star_more (suc i.0) (to.items) to.text (subst (λ (x : List Item). Matches x (drop (suc i.0) to.text)) s.items l)

pub keeps_star : (items : List Item) (text : Text) (here to : Spot) (last : Option Spot) → Keeps items text here last → Stars here to → Keeps items text to (Some to)
keeps_star items text here to last k s = record {
  sound = λ m. sound (star_ends m);
  again = sound;
  whole = λ m. at_star to refl (⊎_elim (λ n. subst (λ (x : Text). Matches (Star ∷ to.items) x) s.text (subst (λ (x : List Item). Matches x here.text) s.items n)) (past_star last here to s k.follows) (k.whole m));
  follows = λ n m. m;
}
  where
    sound : Matches (Star ∷ to.items) to.text → Matches items text
    sound m = k.sound (same_place (Star ∷ to.items) to.text s.items s.text m)

follows_byte : (last : Option Spot) (here to : Spot) → Goes here to → Follows last here → Follows last to
follows_byte None here to g f = tt
follows_byte (Some place) here to g f = λ n m.
    let a = f n m in
    let b = subst (λ (x : List Item). Matches x (drop n here.text)) g.items a in
    let c = one_less_at g.byte n here.text g.takes b in
    subst (λ (x : Text). Matches (to.items) (drop (suc n) x)) g.text c

pub keeps_byte : (items : List Item) (text : Text) (here to : Spot) (last : Option Spot) → Keeps items text here last → Goes here to → Keeps items text to last
keeps_byte items text here to last k g = record {
  sound = λ m. k.sound (same_place (g.item ∷ to.items) (g.byte ∷ to.text) g.items g.text (byte g.takes m));
  again = k.again;
  whole = λ m. ⊎_elim (λ n. inl (one_less g.byte g.takes (subst (λ (x : Text). Matches (g.item ∷ to.items) x) g.text (subst (λ (x : List Item). Matches x here.text) g.items n)))) inr (k.whole m);
  follows = follows_byte last here to g k.follows;
}

later_text : (from to : Spot) → IsLater from to → MatchesLater (Some from) → Matches (Star ∷ to.items) to.text
later_text from to l (c, t, e, m) =
    let f : c ∷ t ≡ l.byte ∷ to.text = sym e ∙ l.text in
    let g : t ≡ to.text = cc in
    subst (λ (x : Text). Matches (Star ∷ to.items) x) g (subst (λ (x : List Item). Matches (Star ∷ x) t) (sym l.items) m)

pub keeps_later : (items : List Item) (text : Text) (here to : Spot) (last : Option Spot) → Keeps items text here last → (Matches (here.items) here.text → ⊥) → Later last (Some to) → Keeps items text to (Some to)
keeps_later items text here to None k n l = absurd l
keeps_later items text here to (Some from) k n l = record {
  sound = λ m. sound (star_ends m);
  again = sound;
  whole = λ m. ⊎_elim (λ a. absurd (n a)) (λ a. at_star to refl (later_text from to l a)) (k.whole m);
  follows = λ n m. m;
}
  where
    sound : Matches (Star ∷ to.items) to.text → Matches items text
    sound m = k.again (subst (λ (x : List Item). Matches (Star ∷ x) from.text) l.items (subst (λ (x : Text). Matches (Star ∷ to.items) x) (sym l.text) (star_goes m)))

no_later : (last : Option Spot) → Later last None → MatchesLater last → ⊥
no_later None l m = m
no_later (Some place) l (c, t, e, m) = let k : c ∷ t ≡ [] = sym e ∙ l in cc

pub fails : (items : List Item) (text : Text) (here : Spot) (last : Option Spot) → Keeps items text here last → (Matches (here.items) here.text → ⊥) → Later last None → Matches items text → ⊥
fails items text here last k n l m = ⊎_elim n (no_later last l) (k.whole m)

pub not_at_end : (is : List Item) (t : Text) → is ≡ [] → (t ≡ [] → ⊥) → Matches is t → ⊥
not_at_end is t e n m = go (subst (λ (x : List Item). Matches x t) e m) refl
  where
    go : {u : Text} → Matches [] u → u ≡ t → ⊥
    go ends f = n (sym f)

pub at_end : (is : List Item) (t : Text) → is ≡ [] → t ≡ [] → Matches is t
at_end is t e f = same_place [] [] e f ends

-- ---- sizes
abbrev pub left : ℕ → Option Spot → ℕ
left n None = suc n
left n (Some place) = length place.text

abbrev pub Low : ℕ → Option Spot → Type 0
Low p None = Unit {0}
Low p (Some place) = place.size ≤ p

-- a pattern of this length and a text of that
pub record Sized (p n : ℕ) (here : Spot) (last : Option Spot) : Type 0 where
  pub text : length here.text ≤ left n last
  pub pattern : here.size ≤ p
  pub low : Low p last

-- how much is left to do
abbrev pub work : ℕ → ℕ → Spot → Option Spot → ℕ
work p n here last = left n last * suc p + here.size

pub sized_start : (here : Spot) → Sized (here.size) (length here.text) here None
sized_start here = record { text = omega arith; pattern = omega arith; low = tt }

pub sized_star : (p n : ℕ) (here to : Spot) (last : Option Spot) → Sized p n here last → Stars here to → Sized p n to (Some to) × (work p n to (Some to) < work p n here last)
sized_star p n here to last z s =
    let e = ap length s.text in
    let h : length to.text ≤ left n last = omega (arith, z.text, e) in (
      record { text = omega arith; pattern = omega (arith, s.shorter, z.pattern); low = omega (arith, s.shorter, z.pattern) },
      omega (arith, s.shorter, mul-le-mul_right (suc p) h),
    )

pub sized_byte : (p n : ℕ) (here to : Spot) (last : Option Spot) → Sized p n here last → Goes here to → Sized p n to last × (work p n to last < work p n here last)
sized_byte p n here to last z g =
    let e = ap length g.text in
    (record { text = omega (arith, z.text, e); pattern = omega (arith, g.shorter, z.pattern); low = z.low }, omega (arith, g.shorter))

pub sized_later : (p n : ℕ) (here to : Spot) (last : Option Spot) → Sized p n here last → Later last (Some to) → Sized p n to (Some to) × (work p n to (Some to) < work p n here last)
sized_later p n here to None z l = absurd l
sized_later p n here to (Some from) z l =
    let e = ap length l.text in
    let f : to.size ≤ p = subst (λ (x : ℕ). x ≤ p) (sym l.size) z.low in
    let h : suc (length to.text) ≤ length from.text = omega (arith, e) in
    (record { text = omega arith; pattern = f; low = f }, omega (arith, f, mul-le-mul_right (suc p) h))
