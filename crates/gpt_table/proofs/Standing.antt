-- A table is sane exactly where each of its used entries stands behind those before it.
use Rattle.std.proofs.Common.{◌≡◌, ◌≢◌, inl, inr, ⊎_elim, ℕ, zero, suc, ◌<◌, List, [], ◌∷◌, length, take, min, Some, slice_get, refl, sym, ◌∙◌, arith}
use Rattle.std.proofs.lemmas.Bool.{cases_order}
use Rattle.std.proofs.lemmas.List.{length-take}
use Rattle.std.proofs.lemmas.Option.{slice_get_within}
use Rattle.gpt_copy.specs.declared.table.Entry.{Entry}
use Rattle.gpt_copy.specs.declared.table.Table.{Table}
use Rattle.storage_model.specs.Entries.{HasEntry, IsSane}
use Rattle.gpt_table.specs.Together.{AreTogether, Stands}

-- an element before a place
get_before : {X : Type 0} (xs : List X) (n i : ℕ) → i < n → slice_get (take n xs) i ≡ slice_get xs i
get_before xs zero i lt = absurd (omega arith)
get_before [] (suc n) i lt = refl
get_before (x ∷ xs) (suc n) zero lt = refl
get_before (x ∷ xs) (suc n) (suc i) lt = get_before xs n i (omega arith)

-- an element of the first n is before them
within_take : {X : Type 0} (xs : List X) (n i : ℕ) (x : X) → slice_get (take n xs) i ≡ Some x → i < n
within_take xs n i x is =
    let short : i < length (take n xs) = slice_get_within (take n xs) i x is in
    let size : length (take n xs) ≡ min n (length xs) = length-take n xs in
    omega arith

pub stands_from_sane : (t : Table) → IsSane t → (i : ℕ) → Stands t i
stands_from_sane t sane i e has = record {
  within = sane.within i e has;
  after = λ j f is used.
      let lt : j < i = within_take t.entries i j f is in
      let other : HasEntry t j f = record { is = sym (get_before t.entries i j lt) ∙ is; used = used } in
      let apart : j ≢ i = omega arith in
      record { apart = sane.apart j i f e other has apart; different = sane.different j i f e other has apart };
}

-- two entries of which the first comes first
in_order : (t : Table) → ((i : ℕ) → Stands t i) → (i j : ℕ) (e f : Entry) → i < j → HasEntry t i e → HasEntry t j f → AreTogether e f
in_order t each i j e f lt has other = (each j f other).after i e (get_before t.entries j i lt ∙ has.is) has.used

turned : (e f : Entry) → AreTogether f e → AreTogether e f
turned e f together = record { apart = ⊎_elim (λ l. inr l) (λ r. inl r) together.apart; different = λ same. together.different (sym same) }

pub sane_from_stands : (t : Table) → ((i : ℕ) → Stands t i) → IsSane t
sane_from_stands t each = record {
  within = λ i e has. (each i e has).within;
  apart = λ i j e f has other not. (both i j e f has other not).apart;
  different = λ i j e f has other not. (both i j e f has other not).different;
}
  where
    both : (i j : ℕ) (e f : Entry) → HasEntry t i e → HasEntry t j f → i ≢ j → AreTogether e f
    both i j e f has other not = ⊎_elim (λ same. absurd (not same))
        (λ order. ⊎_elim (λ lt. in_order t each i j e f lt has other) (λ gt. turned e f (in_order t each j i f e gt other has)) order)
        (cases_order i j)
