-- Tests of mapped lists, and what passes or fails them.
use Rattle.std.proofs.Common.{◌≡◌, Bool, List, [], ◌∷◌, refl}
use Rattle.std.specs.Prelude.{map, position}
use Rattle.std.specs.List.{list_any, position_or_len}
use Rattle.std.proofs.lemmas.List.{length-map}

pub list_any-map : {X Y : Type 0} (p : Y → Bool) (g : X → Y) (xs : List X) → list_any p (map g xs) ≡ list_any (λ x. p (g x)) xs
list_any-map p g [] = refl
list_any-map p g (x ∷ xs) = rw (list_any-map p g xs) refl

pub position_or_len-map : {X Y : Type 0} (p : Y → Bool) (g : X → Y) (xs : List X) → position_or_len p (map g xs) ≡ position_or_len (λ x. p (g x)) xs
position_or_len-map p g [] = refl
position_or_len-map p g (x ∷ xs) = rw (position_or_len-map p g xs) refl

pub position-map : {X Y : Type 0} (p : Y → Bool) (g : X → Y) (xs : List X) → position p (map g xs) ≡ position (λ x. p (g x)) xs
position-map p g xs = rw (position_or_len-map p g xs, length-map xs g) refl
