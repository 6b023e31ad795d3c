-- The fields that were split off so far.
use Rattle.std.proofs.Common.{◌≡◌, ◌<◌, ◌≤◌, ◌+◌, ℕ, Bool, true, false, not, if◌then◌else◌, refl, sym, subst, ap, ◌∙◌, arith, List, [], ◌∷◌, ◌++◌, append_assoc, length, take, drop, map, ◌==◌, length-drop, Ok, Err}
use Rattle.std.specs.List.{prefix_len}
use Rattle.std.proofs.lemmas.Bool.{eqb-true}
use Rattle.sh_expand.specs.declared.fault.ExpandFault.{ExpandFault}
use Rattle.sh_expand.specs.declared.fault.ExpandFault.TheVariants.{Bad, TextLong, Memory}
use Rattle.sh_expand.specs.Faults.{IsFieldOf}
use Rattle.sh_expand.specs.Pattern.{Text, Pieces}
use Rattle.sh_expand.specs.Fields.{is_delimiter, is_white, skip_white, past_one, past_delimiter, field, field_length, next, Splits, HasLonger, none, more, first, later}

-- what is left splits into the fields that follow those there are
pub record Progress (ifs : Text) (most : ℕ) (whole rest : Pieces) (fields : List Text) : Type 0 where
  pub on : (others : List Text) → Splits ifs rest others → Splits ifs whole (fields ++ others)
  pub long : HasLonger ifs most rest → HasLonger ifs most whole
  pub back : HasLonger ifs most whole → HasLonger ifs most rest

pub begins : (ifs : Text) (most : ℕ) (whole : Pieces) → Progress ifs most whole whole []
begins ifs most whole = record { on = λ others s. s; long = λ h. h; back = λ h. h }

pub append_nil : {A : Type 0} (xs : List A) → xs ++ [] ≡ xs
append_nil [] = refl
append_nil (x ∷ xs) = ap (λ l. x ∷ l) (append_nil xs)

not_longer : (ifs : Text) (most : ℕ) {p : Pieces} → HasLonger ifs most p → skip_white ifs p ≡ [] → ⊥
not_longer ifs most (first n h) e = n e
not_longer ifs most (later n h) e = n e

one_past : (ifs : Text) (most : ℕ) {p : Pieces} → length (field ifs (skip_white ifs p)) ≤ most → HasLonger ifs most p → HasLonger ifs most (next ifs (skip_white ifs p))
one_past ifs most l (first n h) = absurd (omega arith)
one_past ifs most l (later n h) = h

module _ (ifs : Text) (most : ℕ) (whole rest : Pieces) (fields : List Text) (k : Progress ifs most whole rest fields) where
  pub all_split : skip_white ifs rest ≡ [] → Splits ifs whole fields
  all_split e = subst (Splits ifs whole) (append_nil fields) (k.on [] (none e))

  pub none_longer : skip_white ifs rest ≡ [] → HasLonger ifs most whole → ⊥
  none_longer e h = not_longer ifs most (k.back h) e

  module _ (n : skip_white ifs rest ≡ [] → ⊥) where
    pub is_longer : most < length (field ifs (skip_white ifs rest)) → HasLonger ifs most whole
    is_longer h = k.long (first n h)

    pub goes_on : length (field ifs (skip_white ifs rest)) ≤ most → Progress ifs most whole (next ifs (skip_white ifs rest)) (fields ++ field ifs (skip_white ifs rest) ∷ [])
    goes_on h = record {
      on = λ others s. subst (Splits ifs whole) (sym (append_assoc fields (field ifs (skip_white ifs rest) ∷ []) others)) (k.on _ (more n s));
      long = λ l. k.long (later n l);
      back = λ l. one_past ifs most h (k.back l);
    }

-- ---- each field takes a piece at least
skip_low : (ifs : Text) (p : Pieces) → length (skip_white ifs p) ≤ length p
skip_low ifs [] = omega arith
skip_low ifs (x ∷ p) = go (is_white ifs x) (skip_low ifs p)
  where
    go : (b : Bool) → length (skip_white ifs p) ≤ length p → length (if b then skip_white ifs p else x ∷ p) ≤ length (x ∷ p)
    go true h = omega (arith, h)
    go false h = omega arith

one_low : (ifs : Text) (p : Pieces) → length (past_one ifs p) ≤ length p
one_low ifs [] = omega arith
one_low ifs (x ∷ p) = go (is_delimiter ifs x)
  where
    go : (b : Bool) → length (if b then p else x ∷ p) ≤ length (x ∷ p)
    go true = omega arith
    go false = omega arith

-- a piece that is no white space stands first
abbrev pub BeginsOther : Text → Pieces → Type 0
BeginsOther ifs [] = Unit {0}
BeginsOther ifs (x ∷ p) = is_white ifs x ≡ false

skipped : (ifs : Text) (p : Pieces) → BeginsOther ifs (skip_white ifs p)
skipped ifs [] = tt
skipped ifs (x ∷ p) = go (is_white ifs x) refl (skipped ifs p)
  where
    go : (b : Bool) → is_white ifs x ≡ b → BeginsOther ifs (skip_white ifs p) → BeginsOther ifs (if b then skip_white ifs p else x ∷ p)
    go true e h = h
    go false e h = e

next_low : (ifs : Text) (u : Pieces) → BeginsOther ifs u → (u ≡ [] → ⊥) → length (next ifs u) < length u
next_low ifs [] w n = absurd (n refl)
next_low ifs (x ∷ p) w n = go (is_delimiter ifs x) refl
  where
    go : (b : Bool) → is_delimiter ifs x ≡ b → length (past_delimiter ifs (drop (if not b then 1 + prefix_len (λ y. not (is_delimiter ifs y)) p else 0) (x ∷ p))) < length (x ∷ p)
    go true e = rw (w, e) (omega arith)
    go false e =
        let d = drop (1 + prefix_len (λ y. not (is_delimiter ifs y)) p) (x ∷ p) in
        let a = one_low ifs (skip_white ifs d) in
        let b = skip_low ifs d in
        let c = length-drop (1 + prefix_len (λ y. not (is_delimiter ifs y)) p) (x ∷ p) in
        omega (arith, a, b, c)

pub shorter : (ifs : Text) (p : Pieces) → (skip_white ifs p ≡ [] → ⊥) → length (next ifs (skip_white ifs p)) < length p
shorter ifs p n = let a = next_low ifs (skip_white ifs p) (skipped ifs p) n in let b = skip_low ifs p in omega (arith, a, b)

-- ---- what the split-off parts are
long_text : (most : ℕ) (text : Text) (e : ExpandFault) → IsFieldOf most text (Err e) → e ≡ TextLong → most < length text
long_text most text TextLong h e = h
long_text most text Memory h e = cc
long_text most text Bad h e = absurd h

pub none_left : {A : Type 0} (xs : List A) → (length xs == 0) ≡ true → xs ≡ []
none_left [] h = refl
none_left (x ∷ xs) h = let e = eqb-true (length (x ∷ xs)) 0 h in absurd (omega (arith, e))

pub some_left : {A : Type 0} (xs : List A) → (length xs == 0) ≡ false → xs ≡ [] → ⊥
some_left [] h e = let k : true ≡ false = h in cc
some_left (x ∷ xs) h e = cc

-- here the white space was skipped, and this many pieces are the field
module _ (ifs : Text) (rest here front back : Pieces) (n : ℕ) (skips : here ≡ skip_white ifs rest) (counts : n ≡ field_length ifs here) (takes : front ≡ take n here) (drops : back ≡ drop n here) where
  pub field_is : map (λ x. x.0) front ≡ field ifs (skip_white ifs rest)
  field_is = ap (map (λ x. x.0)) (takes ∙ ap (λ k. take k here) counts) ∙ ap (field ifs) skips

  pub next_is : past_delimiter ifs back ≡ next ifs (skip_white ifs rest)
  next_is = ap (past_delimiter ifs) (drops ∙ ap (λ k. drop k here) counts) ∙ ap (next ifs) skips

  module _ (most : ℕ) (whole : Pieces) (fields : List Text) (k : Progress ifs most whole rest fields) (left : here ≡ [] → ⊥) where
    some_here : skip_white ifs rest ≡ [] → ⊥
    some_here e = left (skips ∙ e)

    pub too_long : (e : ExpandFault) → IsFieldOf most (map (λ x. x.0) front) (Err e) → e ≡ TextLong → HasLonger ifs most whole
    too_long e h is = is_longer ifs most whole rest fields k some_here (subst (λ (t : Text). most < length t) field_is (long_text most (map (λ x. x.0) front) e h is))

    pub one_more : (bytes : Text) (now : Pieces) (all : List Text) → IsFieldOf most (map (λ x. x.0) front) (Ok bytes) → now ≡ past_delimiter ifs back → all ≡ fields ++ bytes ∷ [] → Progress ifs most whole now all
    one_more bytes now all h e f =
        let g = goes_on ifs most whole rest fields k some_here (subst (λ (t : Text). length t ≤ most) field_is h.1) in
        subst (λ (p : Pieces). Progress ifs most whole p all) (sym (e ∙ next_is))
        (subst (λ (a : List Text). Progress ifs most whole (next ifs (skip_white ifs rest)) a) (sym (f ∙ ap (λ b. fields ++ b ∷ []) (h.0 ∙ field_is))) g)

    pub smaller : (now : Pieces) → now ≡ past_delimiter ifs back → length now < length rest
    smaller now e = let h = shorter ifs rest some_here in let f = ap length (e ∙ next_is) in omega (arith, h, f)
