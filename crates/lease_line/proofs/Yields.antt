-- What a `for` over the parts of a list goes over.
use Rattle.std.proofs.Common.{◌≡◌, List, Bool, false}
use Rattle.std.specs.Borrow.{Bor}
use Rattle.std.specs.Fn.{CalledAt}
use Rattle.std.specs.Iterator.{Yields}
use Rattle.std.specs.List.{slice_split}
use Rattle.std.specs.declared.slice.Split.{Split}
use Rattle.std.specs.Slice.Iter.{split_rest, split_done, split_callee, split_steps}
use Rattle.std.proofs.lemmas.Iterator.{YieldsList}
use Rattle.std.proofs.lemmas.Iterator.Consumers.{YieldsList-at}
use Rattle.std.proofs.lemmas.Iterator.Splits.{YieldsList-from_slice_split}
use denote.Param.Members.{Mut}

-- where the closure is known by what was yielded
pub parts_yielded : {A F : Type 0} {g : Mut F (Bor A × Unit {0}) Bool} {s : Split A F} (t : Split A F) (yielded : List (Bor (List A))) (so_far : Yields (split_steps g) s yielded t) (p : A → Bool) {f : F} {from : Split A F} (xs : List A) → s ≡ from → split_rest from ≡ xs → split_done from ≡ false → split_callee from ≡ f → ((x : A) (b : Bool) (q : F) → CalledAt g f x b q → (q ≡ f) × (b ≡ p x)) → YieldsList (split_steps g) (λ x. x.now) s (slice_split p xs)
parts_yielded {g = g} t yielded so_far p xs same rest done callee tests = YieldsList-at same (YieldsList-from_slice_split g p xs rest done callee tests)
