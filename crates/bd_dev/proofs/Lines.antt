-- Texts that a sink takes in parts, one for each item of a list.
use Rattle.std.proofs.Common.{◌≡◌, ℕ, ◌+◌, ◌<◌, List, [], ◌∷◌, ◌++◌, length, take, drop, get_or, Option, sym, ap, subst, ◌∙◌, add-one, take-append-drop, append-nil, drop-cons, arith, Result, Ok, Err, OnErr}
use Rattle.std.proofs.Math.Seq.{take-length}
use Rattle.std.proofs.lemmas.Grind.{take_at_read, flat_map-append}
use Rattle.std.specs.List.{flat_map}
use Rattle.bd_dev.specs.Sink.{Appends, AppendsFront}
use Rattle.bd_dev.proofs.Appending.{Appends-then, AppendsFront-then, AppendsFront-longer}

-- all of the bytes are a front of them
pub Appends-front : (old new : Option (List ℕ)) (bytes : List ℕ) → Appends old new bytes → AppendsFront old new bytes
Appends-front old new bytes h = record { count = length bytes; within = omega arith; front = subst (Appends old new) (sym (take-length bytes)) h }

-- a line more
pub one_more_line : {X : Type 0} (line : X → List ℕ) (old mid new : Option (List ℕ)) (list : List X) (i : ℕ) (c : X) → i < length list → c ≡ get_or list i c
    → Appends old mid (flat_map line (take i list)) → Appends mid new (line c) → Appends old new (flat_map line (take (i + 1) list))
one_more_line {X} line old mid new list i c lt is h k =
    let more : take (i + 1) list ≡ take i list ++ c ∷ [] = (take_at_read list i c lt).1 ∙ ap (λ (d : X). take i list ++ d ∷ []) (sym is) in
    let lines : flat_map line (take (i + 1) list) ≡ flat_map line (take i list) ++ line c = ap (flat_map line) more ∙ flat_map-append line (take i list) (c ∷ []) ∙ ap (λ (ls : List ℕ). flat_map line (take i list) ++ ls) (append-nil (line c)) in
    subst (Appends old new) (sym lines) (Appends-then old mid new (flat_map line (take i list)) (line c) h k)

-- a front of a line more is a front of all lines
pub front_of_a_line : {X : Type 0} (line : X → List ℕ) (old mid new : Option (List ℕ)) (list : List X) (i : ℕ) (c : X) → i < length list → c ≡ get_or list i c
    → Appends old mid (flat_map line (take i list)) → AppendsFront mid new (line c) → AppendsFront old new (flat_map line list)
front_of_a_line {X} line old mid new list i c lt is h k =
    let rest = drop (i + 1) list in
    let behind : drop i list ≡ c ∷ rest = rw add-one (drop-cons list i c lt) ∙ ap (λ (d : X). d ∷ rest) (sym is) in
    let whole : list ≡ take i list ++ c ∷ rest = sym (take-append-drop i list) ∙ ap (λ (ds : List X). take i list ++ ds) behind in
    let lines : flat_map line list ≡ flat_map line (take i list) ++ (line c ++ flat_map line rest) = ap (flat_map line) whole ∙ flat_map-append line (take i list) (c ∷ rest) in
    subst (AppendsFront old new) (sym lines)
    (AppendsFront-then old mid new (flat_map line (take i list)) (line c ++ flat_map line rest) h (AppendsFront-longer mid new (line c) (flat_map line rest) k))

-- the first lines are a front of all
pub front_of_lines : {X : Type 0} (line : X → List ℕ) (old new : Option (List ℕ)) (list : List X) (i : ℕ) → Appends old new (flat_map line (take i list)) → AppendsFront old new (flat_map line list)
front_of_lines {X} line old new list i h =
    let lines : flat_map line list ≡ flat_map line (take i list) ++ flat_map line (drop i list) = ap (flat_map line) (sym (take-append-drop i list)) ∙ flat_map-append line (take i list) (drop i list) in
    subst (AppendsFront old new) (sym lines) (AppendsFront-longer old new (flat_map line (take i list)) (flat_map line (drop i list)) (Appends-front old new (flat_map line (take i list)) h))

-- what holds always holds where there is an error
pub OnErr-always : {T E P : Type 0} (r : Result T E) → P → OnErr r P
OnErr-always (Ok x) p = tt
OnErr-always (Err e) p = p
