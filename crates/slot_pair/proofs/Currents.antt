-- Which of two slots is current, and what the pair holds while one of them changes.
use Rattle.std.proofs.Common.{◌≡◌, ℕ, ◌+◌, ◌<◌, Bool, not, true, false, cond, nat_lt, Option, Some, None, refl, sym, ◌∙◌, ap, arith}
use Rattle.std.specs.Option.{option_map, unwrap_or}
use Rattle.std.proofs.lemmas.Bool.Decides.{nat_tests}
use Rattle.bd_dev.specs.declared.plant.Area.{Area}
use Rattle.bd_dev.specs.Content.{Image}
use Rattle.bd_dev.specs.Plant.{View, IsImage, IsSynced}
use Rattle.slot_pair.specs.Choice.{is_second}
use Rattle.slot_pair.proofs.Frames.{slot_frame}
use Rattle.slot_pair.proofs.Pairs.{number_of}
use Rattle.slot_model.specs.Slots.{Stored, current, newer, slot, slot_lba}

-- which of two is current, the one that was told first
pub pick : Bool → Option Stored → Option Stored → Option Stored
pick true this other = newer other this
pick false this other = newer this other

pub alone : (second : Bool) (o : Option Stored) → pick second o None ≡ o
unfolding pick
alone true None = refl
alone true (Some s) = refl
alone false None = refl
alone false (Some s) = refl

pub beaten : (second : Bool) (s t : Stored) → s.number < t.number → pick second (Some s) (Some t) ≡ Some t
unfolding pick
beaten second s t lt =
    let less : nat_lt s.number t.number ≡ true = grind (arith, nat_tests) in
    let more : nat_lt t.number s.number ≡ false = grind (arith, nat_tests) in
    elim second as (λ b. pick b (Some s) (Some t) ≡ Some t) [ true ↦ ap (λ b. cond b (Some s) (Some t)) more | false ↦ ap (λ b. cond b (Some t) (Some s)) less ]

pub by_pick : (n : ℕ) (base : ℕ) (second : Bool) (z : ℕ → ℕ) → current n z base ≡ pick second (slot n z (slot_lba n base second)) (slot n z (slot_lba n base (not second)))
unfolding pick
by_pick n base true z = refl
by_pick n base false z = refl

-- where the other slot holds nothing
pub by_none : (n : ℕ) (base : ℕ) (second : Bool) (z : ℕ → ℕ) → slot n z (slot_lba n base (not second)) ≡ None → current n z base ≡ slot n z (slot_lba n base second)
by_none n base second z none = by_pick n base second z ∙ ap (pick second (slot n z (slot_lba n base second))) none ∙ alone second _

which_of : (a b : Option Stored) → newer a b ≡ cond (is_second (number_of a) (number_of b)) b a
which_of None None = refl
which_of (Some a) None = refl
which_of None (Some b) = refl
which_of (Some a) (Some b) = elim (nat_lt a.number b.number) as (λ less. cond less (Some b) (Some a) ≡ cond (unwrap_or (option_map (λ (p : Bool × ℕ). p.0) (cond less (Some (true, b.number)) (Some (false, a.number)))) false) (Some b) (Some a)) [ true ↦ refl | false ↦ refl ]

slot_here : (n : ℕ) (z : ℕ → ℕ) (base : ℕ) (second : Bool) → cond second (slot n z (slot_lba n base true)) (slot n z (slot_lba n base false)) ≡ slot n z (slot_lba n base second)
slot_here n z base true = refl
slot_here n z base false = refl

-- the slot that was chosen by the numbers of both holds what is current
pub is_current : (n : ℕ) (z : ℕ → ℕ) (base : ℕ) (first other : Option ℕ) (second : Bool) → first ≡ number_of (slot n z base) → other ≡ number_of (slot n z (base + n + 1)) → second ≡ is_second first other → current n z base ≡ slot n z (slot_lba n base second)
is_current n z base first other second one two is =
    which_of (slot n z base) (slot n z (base + n + 1))
    ∙ ap (λ (b : Bool). cond b (slot n z (base + n + 1)) (slot n z base)) ((λ i. is_second (sym one i) (sym two i)) ∙ sym is)
    ∙ slot_here n z base second

-- a crash before anything is written
pub same_current : (n : ℕ) (area : Area) (base : ℕ) (some : 0 < n) (v : View) → IsSynced v area → (c : Image) → IsImage v c → current n (c area) base ≡ current n (v.reads area) base
same_current n area base some v synced c image = λ i. newer (same base i) (same (base + n + 1) i)
  where
    same : (gate : ℕ) → slot n (c area) gate ≡ slot n (v.reads area) gate
    same gate = slot_frame n (v.reads area) (c area) gate some (λ s le lt. image area s (synced s))
