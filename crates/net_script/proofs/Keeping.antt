-- The bodies that are known, with one more.
use Rattle.std.proofs.Common.{◌≡◌, ℕ, ◌≤◌, Bool, true, false, cond, List, [], length, Option, Some, None, refl, sym, ap, subst, ◌∙◌, arith}
use Rattle.std.specs.Option.{option_map, unwrap_or}
use Rattle.std.specs.BTreeMap.{BTreeMap, Updates, get}
use Rattle.std.specs.Cmp.Lexicographic.{slice_cmp}
use Rattle.std.specs.Ordering.{nat_cmp}
use Rattle.std.specs.Str.{bytes_eq}
use Rattle.std.specs.declared.vec.Vec.{Vec}
use Rattle.std.proofs.lemmas.Bool.Decides.{nat_tests}
use Rattle.std.proofs.lemmas.Map.Text.{is_eq-slice_cmp}
use Rattle.std.proofs.lemmas.Slice.Eq.{bytes_eq-Decides}
use Rattle.bd_dev.specs.Volumes.{Volume, bytes_of, file_of}
use Rattle.net_script.specs.Serving.{AreBodies, IsBodyOf, net_volume}

pub bodies_more : {Y : Type 0} (volumes : List Volume) (old new : BTreeMap (Vec ℕ Y) (List ℕ)) (key : Vec ℕ Y) (body : List ℕ) → AreBodies volumes old → IsBodyOf (file_of volumes net_volume key.items) (Some body) → Updates (λ x y. slice_cmp nat_cmp x.items y.items) old new key (Some body) → AreBodies volumes new
bodies_more {Y} volumes old new key body known is updates = λ name found e.
    by_test name found (bytes_eq key.items name.items) refl (sym (updates.0 name ∙ ap (λ b. cond b (Some body) (before name)) (is_eq-slice_cmp key.items name.items)) ∙ e)
  where
    before : Vec ℕ Y → Option (List ℕ)
    before name = get (λ x y. slice_cmp nat_cmp x.items y.items) old name

    some_body : (a b : List ℕ) → Some a ≡ Some b → a ≡ b
    some_body a b e = cc e

    by_test : (name : Vec ℕ Y) (found : List ℕ) (b : Bool) → bytes_eq key.items name.items ≡ b → cond b (Some body) (before name) ≡ Some found → IsBodyOf (file_of volumes net_volume name.items) (Some found)
    by_test name found true same e =
        subst (λ (n : List ℕ). IsBodyOf (file_of volumes net_volume n) (Some found)) ((bytes_eq-Decides key.items name.items).0 same)
        (subst (λ (b : List ℕ). IsBodyOf (file_of volumes net_volume key.items) (Some b)) (some_body body found e) is)
    by_test name found false other e = known name found e

-- what is known by a name is the body of its file
pub known_body : {Y : Type 0} (volumes : List Volume) (known : BTreeMap (Vec ℕ Y) (List ℕ)) (key : Vec ℕ Y) (name found body : List ℕ) → AreBodies volumes known → key.items ≡ name → get (λ x y. slice_cmp nat_cmp x.items y.items) known key ≡ Some found → body ≡ found → IsBodyOf (file_of volumes net_volume name) (Some body)
known_body volumes known key name found body all same at is =
    subst (λ (n : List ℕ). IsBodyOf (file_of volumes net_volume n) (Some body)) same
    (subst (λ (b : List ℕ). IsBodyOf (file_of volumes net_volume key.items) (Some b)) (sym is) (all key found at))

-- what was read of a file of the length that was found is its body
pub read_body : (volumes : List Volume) (name key bytes body : List ℕ) (size : ℕ) → Some size ≡ option_map length (file_of volumes net_volume name) → size ≤ 268435456 → (length (bytes_of volumes net_volume name) ≡ size → bytes ≡ bytes_of volumes net_volume name) → body ≡ bytes → key ≡ name → IsBodyOf (file_of volumes net_volume key) (Some body)
read_body volumes name key bytes body size found few whole made same =
    subst (λ (n : List ℕ). IsBodyOf (file_of volumes net_volume n) (Some body)) (sym same) (by_file (file_of volumes net_volume name) found whole)
  where
    by_file : (o : Option (List ℕ)) → Some size ≡ option_map length o → (length (unwrap_or o []) ≡ size → bytes ≡ unwrap_or o []) → IsBodyOf o (Some body)
    by_file None e h = absurd (cc e)
    by_file (Some file) e h =
        let long : size ≡ length file = cc e in
        let fits : length file ≤ 268435456 = omega (arith, long, few) in
        (grind (arith, nat_tests), ap Some (sym (made ∙ h (sym long))))
