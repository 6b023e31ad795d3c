-- Variables: where a name's pair stands, and how many bytes all have.
use Rattle.std.proofs.Common.{◌≡◌, ◌<◌, ◌+◌, ℕ, zero, suc, Bool, true, false, not, if◌then◌else◌, refl, sym, subst, ap, ◌∙◌, arith, [], ◌∷◌, ◌++◌, length, take, drop, set, get_or, ℤ, Result, Ok, Err, ◌↔◌, IsErr}
use Rattle.std.proofs.Math.Numerals.{one-add}
use Rattle.std.proofs.lemmas.List.{take_more}
use Rattle.std.proofs.lemmas.Slice.Eq.{bytes_eq-Decides}
use Rattle.std.specs.List.{prefix_len, remove}
use Rattle.std.specs.Str.{bytes_eq}
use Rattle.sh_arith.specs.Text.{Text}
use Rattle.sh_arith.specs.Names.{Variables}
use Rattle.sh_arith.specs.declared.reader.Bad.{Bad as Refused}
use Rattle.sh_expand.specs.declared.fault.ExpandFault.{ExpandFault}
use Rattle.sh_expand.specs.Environment.{put, without, size}

abbrev pub differs : Text → Text × Text → Bool
differs name pair = not (bytes_eq pair.0 name)

pub put_new : (name value : Text) (vars : Variables) → prefix_len (differs name) vars ≡ length vars → put name value vars ≡ vars ++ (name, value) ∷ []
put_new name value [] e = refl
put_new name value (pair ∷ pairs) e = go (bytes_eq pair.0 name) (put_new name value pairs) e
  where
    go : (b : Bool) → (prefix_len (differs name) pairs ≡ length pairs → put name value pairs ≡ pairs ++ (name, value) ∷ []) → (if not b then 1 + prefix_len (differs name) pairs else 0) ≡ suc (length pairs) → (if b then (pair.0, value) ∷ pairs else pair ∷ put name value pairs) ≡ pair ∷ (pairs ++ (name, value) ∷ [])
    go true ih f = absurd (omega (arith, f))
    go false ih f = ap (λ l. pair ∷ l) (ih (omega (arith, f)))

pub put_set : (name value : Text) (vars : Variables) (i : ℕ) (x : Text × Text) → i ≡ prefix_len (differs name) vars → i < length vars → x ≡ get_or vars i x → put name value vars ≡ set vars i (x.0, value)
put_set name value [] i x e l g = absurd (omega arith)
put_set name value (pair ∷ pairs) i x e l g = go (bytes_eq pair.0 name) (put_set name value pairs) i e l g
  where
    go : (b : Bool) → ((j : ℕ) (y : Text × Text) → j ≡ prefix_len (differs name) pairs → j < length pairs → y ≡ get_or pairs j y → put name value pairs ≡ set pairs j (y.0, value)) →
        (j : ℕ) → j ≡ (if not b then 1 + prefix_len (differs name) pairs else 0) → j < suc (length pairs) → x ≡ get_or (pair ∷ pairs) j x → (if b then (pair.0, value) ∷ pairs else pair ∷ put name value pairs) ≡ set (pair ∷ pairs) j (x.0, value)
    go true ih zero f m h = ap (λ y. (y.0, value) ∷ pairs) (sym h)
    go true ih (suc j) f m h = absurd (omega (arith, f))
    go false ih zero f m h = absurd (omega (arith, f))
    go false ih (suc j) f m h = ap (λ l. pair ∷ l) (ih j x (omega (arith, f)) (omega arith) h)

pub without_none : (name : Text) (vars : Variables) → prefix_len (differs name) vars ≡ length vars → without name vars ≡ vars
without_none name [] e = refl
without_none name (pair ∷ pairs) e = go (bytes_eq pair.0 name) (without_none name pairs) e
  where
    go : (b : Bool) → (prefix_len (differs name) pairs ≡ length pairs → without name pairs ≡ pairs) → (if not b then 1 + prefix_len (differs name) pairs else 0) ≡ suc (length pairs) → (if not b then pair ∷ without name pairs else without name pairs) ≡ pair ∷ pairs
    go true ih f = absurd (omega (arith, f))
    go false ih f = ap (λ l. pair ∷ l) (ih (omega (arith, f)))

pub without_remove : (name : Text) (vars : Variables) (i : ℕ) → i ≡ prefix_len (differs name) vars → i < length vars → without name (remove vars i) ≡ without name vars
without_remove name [] i e l = absurd (omega arith)
without_remove name (pair ∷ pairs) i e l = go (bytes_eq pair.0 name) refl (without_remove name pairs) i e l
  where
    go : (b : Bool) → bytes_eq pair.0 name ≡ b → ((j : ℕ) → j ≡ prefix_len (differs name) pairs → j < length pairs → without name (remove pairs j) ≡ without name pairs) →
        (j : ℕ) → j ≡ (if not b then 1 + prefix_len (differs name) pairs else 0) → j < suc (length pairs) → without name (remove (pair ∷ pairs) j) ≡ (if not b then pair ∷ without name pairs else without name pairs)
    go true f ih zero g m = refl
    go true f ih (suc j) g m = absurd (omega (arith, g))
    go false f ih zero g m = absurd (omega (arith, g))
    go false f ih (suc j) g m = rw f (ap (λ l. pair ∷ l) (ih j (omega (arith, g)) (omega arith)))

pub size-append : (a b : Variables) → size (a ++ b) ≡ size a + size b
size-append [] b = omega arith
size-append (pair ∷ pairs) b = let h = size-append pairs b in omega (arith, h)

pub size_more : (vars : Variables) (i : ℕ) (x : Text × Text) → i < length vars → x ≡ get_or vars i x → size (take (i + 1) vars) ≡ size (take i vars) + (length x.0 + length x.1)
size_more vars i x l g =
    let e = ap size (take_more vars i x l ∙ ap (λ y. take i vars ++ y ∷ []) (sym g)) in
    let f = size-append (take i vars) (x ∷ []) in
    omega (arith, e, f)

pub size_put : (name value : Text) (vars : Variables) → size (put name value vars) ≡ size (take (prefix_len (differs name) vars) vars) + length name + length value + size (drop 1 (drop (prefix_len (differs name) vars) vars))
size_put name value [] = omega arith
size_put name value (pair ∷ pairs) = go (bytes_eq pair.0 name) refl (size_put name value pairs)
  where
    go : (b : Bool) → bytes_eq pair.0 name ≡ b → size (put name value pairs) ≡ size (take (prefix_len (differs name) pairs) pairs) + length name + length value + size (drop 1 (drop (prefix_len (differs name) pairs) pairs)) →
        size (if b then (pair.0, value) ∷ pairs else pair ∷ put name value pairs) ≡ size (take (if not b then 1 + prefix_len (differs name) pairs else 0) (pair ∷ pairs)) + length name + length value + size (drop 1 (drop (if not b then 1 + prefix_len (differs name) pairs else 0) (pair ∷ pairs)))
    go true e ih = let f = ap length ((bytes_eq-Decides pair.0 name).0 e) in omega (arith, f)
    go false e ih = rw one-add (omega (arith, ih))

-- ---- answers of the arithmetic
module _ (P : ℤ → Type 0) (given : Result ℤ Refused) (values : (v : ℤ) → (given ≡ Ok v) ↔ P v) (bad : IsErr given ↔ ((v : ℤ) → P v → ⊥)) where
  module _ (x : ℤ) (is : given ≡ Ok x) (r : Result ℤ ExpandFault) (out : r ≡ Ok x) where
    pub ok_values : (v : ℤ) → (r ≡ Ok v) ↔ P v
    ok_values v = (λ e. (values v).0 (let f : x ≡ v = cc in is ∙ ap (λ y. Ok y) f), λ p. let e = (values v).1 p in let f : x ≡ v = cc in out ∙ ap (λ y. Ok y) f)

    pub ok_bad : (fault : ExpandFault) → (r ≡ Err fault) ↔ ((v : ℤ) → P v → ⊥)
    ok_bad fault = (λ e. cc, λ n. absurd (n x ((values x).0 is)))

  module _ (x : Refused) (is : given ≡ Err x) (r : Result ℤ ExpandFault) (fault : ExpandFault) (out : r ≡ Err fault) where
    err_is : IsErr given
    err_is = subst (λ (g : Result ℤ Refused). IsErr g) (sym is) refl

    pub err_values : (v : ℤ) → (r ≡ Ok v) ↔ P v
    err_values v = (λ e. cc, λ p. absurd (bad.0 err_is v p))

    pub err_bad : (r ≡ Err fault) ↔ ((v : ℤ) → P v → ⊥)
    err_bad = (λ _. bad.0 err_is, λ _. out)
