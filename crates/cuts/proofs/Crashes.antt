-- What the law says of a span: each state of it is a start, and what a crash leaves boots.
use Rattle.std.proofs.Common.{◌≡◌, ℕ, ◌≤◌, List, length, take, slice_get, false, sym, ◌∙◌, subst, arith}
use Rattle.std.proofs.lemmas.List.{take_all}
use Rattle.bd_dev.specs.declared.plant.Area.{Area}
use Rattle.bd_dev.specs.declared.plant.Area.TheVariants.{Disk}
use Rattle.bd_dev.specs.Content.{Image}
use Rattle.cuts.specs.declared.effect.Effect.{Effect}
use Rattle.cuts.specs.States.{State, after, pending}
use Rattle.cuts.specs.Cuts.{IsCleanFor, MayBeSomeCut}
use Rattle.cuts.specs.Law.{BootsWhole, IsStart}
use Rattle.cuts.specs.Orderly.{AreLawful, AreOrderly}
use Rattle.cuts.specs.Spans.{Spans, Value, pending_of, state_of}
use Rattle.cuts.proofs.Booting.{boots}
use Rattle.cuts.proofs.Joins.{pending_then}
use Rattle.cuts.proofs.Plain.{plain}
use Rattle.cuts.proofs.Starts.{reaches}

-- the image boots after some number of the effects
abbrev pub BootsAfterSome : (Area → ℕ) → State → List Effect → Image → Type 0
BootsAfterSome size s xs c = (k : ℕ) × (k ≤ length xs) × BootsWhole size s (after s (take k xs)) c

-- after some number of the effects the image boots, if it is clean for that number
abbrev pub BootsIfClean : (Area → ℕ) → State → List Effect → Image → Type 0
BootsIfClean size s xs c =
    (k : ℕ) × (k ≤ length xs) × (IsCleanFor (size Disk) (after s (take k xs)).table (slice_get xs k) c → BootsWhole size s (after s (take k xs)) c)

-- a cut boots where it is clean
pub some_boots : (size : Area → ℕ) (s : State) (U : ℕ → Type 0) (xs : List Effect) → IsStart size s U → AreLawful (size Disk) s xs → AreOrderly s U xs → (c : Image) → MayBeSomeCut size s U xs c → BootsIfClean size s xs c
some_boots size s U xs start lawful orderly c some = (
  some.0,
  some.1,
  λ clean. boots size s U xs start lawful orderly some.0 some.1 c
      (plain size (after s (take some.0 xs)) (pending U (take some.0 xs)) (slice_get xs some.0) c some.2 clean),
)

module _ (a b : Value) (span : Spans a b) (start : IsStart a.view.size (state_of a) (pending_of a)) (orderly : AreOrderly (state_of a) (pending_of a) span.effects) where
  -- what a crash within the span left, or leaves at its end, boots where it is clean
  pub crash_boots : (c : Image) → b.view.left_since a.view.moment c → BootsIfClean a.view.size (state_of a) span.effects c
  crash_boots c left = some_boots a.view.size (state_of a) (pending_of a) span.effects start span.lawful orderly c (span.crash.each c left)

  -- what was read between two calls boots
  pub read_boots : (c : Image) → b.view.read_since a.view.moment c → BootsAfterSome a.view.size (state_of a) span.effects c
  read_boots c read =
      let some = span.between.each c read in (
        some.0,
        some.1,
        boots a.view.size (state_of a) (pending_of a) span.effects start span.lawful orderly some.0 some.1 c
            (plain a.view.size (after (state_of a) (take some.0 span.effects)) (pending (pending_of a) (take some.0 span.effects)) (slice_get span.effects some.0) c some.2 some.3),
      )

-- the board at the end is a start again
pub span_starts : (a b : Value) (span : Spans a b) → b.failed ≡ false → IsStart a.view.size (state_of a) (pending_of a) → AreOrderly (state_of a) (pending_of a) span.effects
    → IsStart b.view.size (state_of b) (pending_of b)
span_starts a b span live start orderly = subst (λ (T : Type 0). T) same (reaches a.view.size xs (state_of a) (pending_of a) start span.lawful orderly (length xs) (omega arith)).start
  where
    xs : List Effect
    xs = span.effects

    all : take (length xs) xs ≡ xs
    all = take_all (length xs) xs (omega arith)

    sizes : a.view.size ≡ b.view.size
    sizes = λ i area. (sym (span.size area)) i

    same : IsStart a.view.size (after (state_of a) (take (length xs) xs)) (pending (pending_of a) (take (length xs) xs)) ≡ IsStart b.view.size (state_of b) (pending_of b)
    same = (λ i. IsStart a.view.size (after (state_of a) (all i)) (pending (pending_of a) (all i)))
        ∙ (λ i. IsStart (sizes i) (sym (span.state live) i) (sym (pending_then a b xs span.journal) i))
