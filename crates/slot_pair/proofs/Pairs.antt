-- The current slot of a pair.
use Rattle.std.proofs.Common.{◌≡◌, ℕ, ◌+◌, List, Bool, true, false, cond, nat_lt, Option, Some, None, refl, sym, ◌∙◌, ap, subst, arith}
use Rattle.std.specs.Option.{option_map}
use Rattle.bd_dev.specs.Content.{Image}
use Rattle.bd_dev.specs.Plant.{View}
use Rattle.bd_dev.specs.Runs.{Looks}
use Rattle.slot_pair.specs.Choice.{chosen}
use Rattle.slot_pair.specs.Pair.{Fits, IsKept, Pair}
use Rattle.slot_model.specs.Slots.{Stored, newer, slot, slot_lba}

-- the number of what a slot holds
abbrev pub number_of : Option Stored → Option ℕ
number_of slot = option_map (λ s. s.number) slot

-- the chosen one of two holds something of this number
record IsChosen (a b : Option Stored) (second : Bool) (number : ℕ) : Type 0 where
  content : List ℕ
  this : cond second b a ≡ Some (record { number = number; content = content })
  whole : newer a b ≡ Some (record { number = number; content = content })

-- a choice
abbrev pick : Bool → ℕ → Option (Bool × ℕ)
pick second number = Some (second, number)

first_is : (a : Stored) (b : Option Stored) (second : Bool) (number : ℕ) → newer (Some a) b ≡ Some a → pick false a.number ≡ pick second number → IsChosen (Some a) b second number
first_is a b second number newest is =
    let both : ◌≡◌ {A = Bool × ℕ} (false, a.number) (second, number) = cc in
    let which : false ≡ second = ap (λ (p : Bool × ℕ). p.0) both in
    let its : a.number ≡ number = ap (λ (p : Bool × ℕ). p.1) both in
    record {
      content = a.content;
      this = (λ i. cond (sym which i) b (Some a)) ∙ (λ i. Some (record { number = its i; content = a.content }));
      whole = newest ∙ (λ i. Some (record { number = its i; content = a.content }));
    }

second_is : (a : Option Stored) (b : Stored) (second : Bool) (number : ℕ) → newer a (Some b) ≡ Some b → pick true b.number ≡ pick second number → IsChosen a (Some b) second number
second_is a b second number newest is =
    let both : ◌≡◌ {A = Bool × ℕ} (true, b.number) (second, number) = cc in
    let which : true ≡ second = ap (λ (p : Bool × ℕ). p.0) both in
    let its : b.number ≡ number = ap (λ (p : Bool × ℕ). p.1) both in
    record {
      content = b.content;
      this = (λ i. cond (sym which i) (Some b) a) ∙ (λ i. Some (record { number = its i; content = b.content }));
      whole = newest ∙ (λ i. Some (record { number = its i; content = b.content }));
    }

of_two : (a b : Stored) (second : Bool) (number : ℕ) (less : Bool) → nat_lt a.number b.number ≡ less → cond less (pick true b.number) (pick false a.number) ≡ pick second number → IsChosen (Some a) (Some b) second number
of_two a b second number true less is = second_is (Some a) b second number (ap (λ (t : Bool). cond t (Some b) (Some a)) less) is
of_two a b second number false less is = first_is a (Some b) second number (ap (λ (t : Bool). cond t (Some b) (Some a)) less) is

is_chosen : (a b : Option Stored) (second : Bool) (number : ℕ) → chosen (number_of a) (number_of b) ≡ pick second number → IsChosen a b second number
is_chosen None None second number is = absurd (cc)
is_chosen (Some a) None second number is = first_is a None second number refl is
is_chosen None (Some b) second number is = second_is None b second number refl is
is_chosen (Some a) (Some b) second number is = of_two a b second number (nat_lt a.number b.number) refl is

slot_at : (n : ℕ) (z : ℕ → ℕ) (base : ℕ) (second : Bool) → slot n z (slot_lba n base second) ≡ cond second (slot n z (slot_lba n base true)) (slot n z (slot_lba n base false))
slot_at n z base true = refl
slot_at n z base false = refl

-- the pair whose slot was chosen by the numbers of both
pub kept : (n : ℕ) (z : ℕ → ℕ) (pair : Pair) (first other : Option ℕ) → first ≡ number_of (slot n z pair.base) → other ≡ number_of (slot n z (pair.base + n + 1)) → chosen first other ≡ pick pair.second pair.number → IsKept n z pair
kept n z pair first other one two is =
    let here = is_chosen (slot n z pair.base) (slot n z (pair.base + n + 1)) pair.second pair.number ((λ i. chosen (sym one i) (sym two i)) ∙ is) in
    record { content = here.content; this = slot_at n z pair.base pair.second ∙ here.this; whole = here.whole }

-- a run that only reads leaves a pair as it is
pub fits_then : (n : ℕ) (old new : View) (pair : Pair) → Looks old new → Fits n old pair → Fits n new pair
fits_then n old new pair looks fits = record {
  room = omega (arith, looks.continues.size pair.area, fits.room);
  kept = λ tells.
      let told = looks.continues.tells tells in
      subst (λ (z : Image). IsKept n (z pair.area) pair) (sym (looks.told told).only.reads) (fits.kept told);
}
