-- Lists of addresses, text by text.
use Rattle.std.proofs.Common.{◌≡◌, ℕ, zero, suc, ◌<◌, List, [], ◌∷◌, ◌++◌, length, get_or, Option, Some, None, refl, sym, ap, ◌∙◌, append-nil, append_assoc, arith}
use Rattle.bd_text.specs.declared.v4.V4.{V4}
use Rattle.lease_line.specs.Addresses.{address_in, all_addresses}

-- one text more
pub one_more : (texts : List (List ℕ)) (text bytes : List ℕ) (address : V4) → all_addresses texts ≡ Some bytes → address_in text ≡ Some address
    → all_addresses (texts ++ text ∷ []) ≡ Some (bytes ++ address.bytes)
one_more [] text bytes address e is = let same : bytes ≡ [] = cc in rw (is, same) (ap Some (append-nil address.bytes))
one_more (t ∷ texts) text bytes address e is = by (λ rest g. one_more texts text rest address g is) (address_in t) refl (all_addresses texts) refl
  where
    by : ((rest : List ℕ) → all_addresses texts ≡ Some rest → all_addresses (texts ++ text ∷ []) ≡ Some (rest ++ address.bytes))
        → (a : Option V4) → address_in t ≡ a → (more : Option (List ℕ)) → all_addresses texts ≡ more → all_addresses (t ∷ texts ++ text ∷ []) ≡ Some (bytes ++ address.bytes)
    by next None f more g = absurd (let h = rw f at e in cc)
    by next (Some a) f None g = absurd (let h = rw (f, g) at e in cc)
    by next (Some a) f (Some more) g =
        let h = rw (f, g) at e in
        let whole : a.bytes ++ more ≡ bytes = cc in
        rw (f, next more g) (ap Some (sym (append_assoc a.bytes more address.bytes) ∙ ap (λ (l : List ℕ). l ++ address.bytes) whole))

-- a text that is no address
pub one_wrong : (texts : List (List ℕ)) (i : ℕ) (d : List ℕ) → i < length texts → address_in (get_or texts i d) ≡ None → all_addresses texts ≡ None
one_wrong [] i d lt wrong = absurd (omega arith)
one_wrong (t ∷ texts) zero d lt wrong = rw wrong refl
one_wrong (t ∷ texts) (suc i) d lt wrong = by (address_in t) refl (one_wrong texts i d (omega arith) wrong)
  where
    by : (a : Option V4) → address_in t ≡ a → all_addresses texts ≡ None → all_addresses (t ∷ texts) ≡ None
    by None f rest = rw f refl
    by (Some a) f rest = rw (f, rest) refl
