-- Texts that grow at the end.
use Rattle.std.proofs.Common.{◌≡◌, ℕ, ◌+◌, ◌<◌, List, [], ◌∷◌, ◌++◌, length, take, get_or, sym, ◌∙◌, ap, append_assoc}
use Rattle.std.specs.List.{flat_map}
use Rattle.std.proofs.lemmas.Grind.{take_at_read}
use Rattle.std.proofs.lemmas.List.{flat_map_more}

-- one more element
pub one_more : {X : Type 0} (f : X → List ℕ) (start old new : List ℕ) (xs : List X) (i : ℕ) (x : X) → i < length xs → x ≡ get_or xs i x
    → old ≡ start ++ flat_map f (take i xs) → new ≡ old ++ f x → new ≡ start ++ flat_map f (take (i + 1) xs)
one_more {X} f start old new xs i x lt is before pushed =
    let more : take (i + 1) xs ≡ take i xs ++ x ∷ [] = (take_at_read xs i x lt).1 ∙ ap (λ (y : X). take i xs ++ y ∷ []) (sym is) in
    pushed ∙ ap (λ (t : List ℕ). t ++ f x) before ∙ flat_map_more f start (take i xs) x ∙ ap (λ (ys : List X). start ++ flat_map f ys) (sym more)

-- one part, and then the others
pub parts_then : (text part others : List ℕ) {middle last : List ℕ} → middle ≡ text ++ part → last ≡ middle ++ others → last ≡ text ++ (part ++ others)
parts_then text part others first further = further ∙ ap (λ (t : List ℕ). t ++ others) first ∙ append_assoc text part others

-- a part, by another name
pub renamed : (text : List ℕ) {longer part same : List ℕ} → part ≡ same → longer ≡ text ++ part → longer ≡ text ++ same
renamed text is pushed = pushed ∙ ap (λ (p : List ℕ). text ++ p) is
