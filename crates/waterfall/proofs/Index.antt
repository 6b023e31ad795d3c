-- An index of shown texts, and one text more.
use Rattle.std.proofs.Common.{◌≡◌, ℕ, Bool, true, false, not, ◌||◌, cond, List, [], ◌∷◌, ◌++◌, refl, sym, ap, ◌∙◌}
use Rattle.std.specs.List.{list_any}
use Rattle.std.specs.Str.{bytes_eq}
use Rattle.std.specs.BTreeSet.{BTreeSet, contains_by, insert_key}
use Rattle.std.specs.BTreeMap.{is_at}
use Rattle.std.specs.Cmp.Lexicographic.{slice_cmp}
use Rattle.std.specs.Ordering.{match_ordering, nat_cmp}
use Rattle.std.specs.declared.cmp.Ordering.{Ordering}
use Rattle.std.specs.declared.cmp.Ordering.TheVariants.{Less, Equal, Greater}
use Rattle.std.specs.declared.vec.Vec.{Vec}
use Rattle.std.proofs.lemmas.List.Folds.{list_any-append}
use Rattle.std.proofs.lemmas.Map.Text.{is_eq-slice_cmp}
use Rattle.std.proofs.lemmas.Map.Lookups.{exact_bytes}
use Rattle.waterfall.specs.declared.candidate.Candidate.{Candidate}
use Rattle.waterfall.specs.Firsts.{IsIndex, shows, with_new}
use Rattle.waterfall.proofs.Firsts.{bytes_eq-comm}

twice : (b r : Bool) → (b || r) ≡ (b || (b || r))
twice true r = refl
twice false r = refl

swapped : (a b r : Bool) → (a || (b || r)) ≡ (b || (a || r))
swapped true true r = refl
swapped true false r = refl
swapped false b r = refl

behind : (a b : Bool) → (a || b) ≡ (b || (a || false))
behind true true = refl
behind true false = refl
behind false true = refl
behind false false = refl

module _ {Y : Type 0} where
  abbrev order : Vec ℕ Y → Vec ℕ Y → Ordering
  order x y = slice_cmp nat_cmp x.items y.items

  abbrev reads : List ℕ → Vec ℕ Y → Bool
  reads text = is_at (λ key. slice_cmp nat_cmp text key.items)

  -- a text is read in the keys with one more where it is the new key's, or was read before
  read_in_more : (text : List ℕ) (keys : List (Vec ℕ Y)) (key : Vec ℕ Y) → list_any (reads text) (insert_key order keys key) ≡ (reads text key || list_any (reads text) keys)
  read_in_more text [] key = refl
  read_in_more text (x ∷ xs) key = by (order key x) refl (read_in_more text xs key)
    where
      by : (o : Ordering) → order key x ≡ o → list_any (reads text) (insert_key order xs key) ≡ (reads text key || list_any (reads text) xs)
          → list_any (reads text) (match_ordering o (key ∷ x ∷ xs) (x ∷ xs) (x ∷ insert_key order xs key)) ≡ (reads text key || (reads text x || list_any (reads text) xs))
      by Less is more = refl
      by Equal is more =
          let same : key.items ≡ x.items = exact_bytes key.items x.items is in
          let alike : reads text x ≡ reads text key = is_eq-slice_cmp text x.items ∙ ap (bytes_eq text) (sym same) ∙ sym (is_eq-slice_cmp text key.items) in
          twice (reads text x) (list_any (reads text) xs) ∙ ap (λ (b : Bool). b || (reads text x || list_any (reads text) xs)) alike
      by Greater is more = ap (λ (b : Bool). reads text x || b) more ∙ swapped (reads text x) (reads text key) (list_any (reads text) xs)

  -- one text more, of a candidate that comes last
  pub index_more : (old new : BTreeSet (Vec ℕ Y)) (cs : List Candidate) (c : Candidate) (key : Vec ℕ Y) → IsIndex old cs → key.items ≡ c.shown → new.keys ≡ insert_key order old.keys key → IsIndex new (cs ++ c ∷ [])
  index_more old new cs c key index same keys = λ text.
      ap (list_any (reads text)) keys
      ∙ read_in_more text old.keys key
      ∙ ap (λ (b : Bool). reads text key || b) (index text)
      ∙ ap (λ (b : Bool). b || list_any (shows text) cs) (is_eq-slice_cmp text key.items ∙ ap (bytes_eq text) same ∙ bytes_eq-comm text c.shown)
      ∙ behind (shows text c) (list_any (shows text) cs)
      ∙ sym (list_any-append (shows text) cs (c ∷ []))

  -- whether the text is new tells what becomes of the candidate
  pub pushed_new : (old : BTreeSet (Vec ℕ Y)) (cs : List Candidate) (c : Candidate) (key : Vec ℕ Y) → IsIndex old cs → key.items ≡ c.shown → true ≡ not (contains_by (order key) old) → cs ++ c ∷ [] ≡ with_new cs c
  pushed_new old cs c key index same added =
      sym (ap (λ (b : Bool). cond b cs (cs ++ c ∷ [])) (is_shown old cs c key index same ∙ flipped (contains_by (order key) old) added))
    where
      flipped : (b : Bool) → true ≡ not b → b ≡ false
      flipped true e = cc
      flipped false e = refl

      is_shown : (old : BTreeSet (Vec ℕ Y)) (cs : List Candidate) (c : Candidate) (key : Vec ℕ Y) → IsIndex old cs → key.items ≡ c.shown → list_any (shows c.shown) cs ≡ contains_by (order key) old
      is_shown old cs c key index same = ap (λ (t : List ℕ). list_any (shows t) cs) (sym same) ∙ sym (index key.items)

  pub pushed_old : (old : BTreeSet (Vec ℕ Y)) (cs : List Candidate) (c : Candidate) (key : Vec ℕ Y) → IsIndex old cs → key.items ≡ c.shown → false ≡ not (contains_by (order key) old) → cs ≡ with_new cs c
  pushed_old old cs c key index same added =
      sym (ap (λ (b : Bool). cond b cs (cs ++ c ∷ [])) (ap (λ (t : List ℕ). list_any (shows t) cs) (sym same) ∙ sym (index key.items) ∙ flipped (contains_by (order key) old) added))
    where
      flipped : (b : Bool) → false ≡ not b → b ≡ true
      flipped true e = refl
      flipped false e = cc
