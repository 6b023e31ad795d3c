-- What a search among a table's entries finds.
use Rattle.std.proofs.Common.{◌≡◌, ◌≢◌, ℕ, ◌<◌, Bool, true, false, cond, ◌&&◌, not, nat_lt, length, get_or, slice_get, Option, Some, None, refl, sym, ◌∙◌, ap, arith}
use Rattle.std.specs.Str.{bytes_eq}
use Rattle.std.specs.List.{position_or_len}
use Rattle.std.specs.Option.{option_and_then}
use Rattle.std.proofs.lemmas.Bool.{lt-ltb}
use Rattle.std.proofs.lemmas.List.Folds.{find_at}
use Rattle.std.proofs.lemmas.List.Sums.{position_or_len_is}
use Rattle.std.proofs.lemmas.Option.{get_or_from_slice_get, slice_get-get_or, slice_get_within}
use Rattle.std.proofs.lemmas.Slice.Eq.{bytes_eq-Decides}
use Rattle.bd_text.specs.declared.guid.Guid.{Guid}
use Rattle.gpt_copy.specs.declared.table.Entry.{Entry}
use Rattle.gpt_copy.specs.declared.table.Table.{Table}
use Rattle.storage_model.specs.Entries.{HasEntry, IsSane, OnieEntry, onie_type, unused_type}
use Rattle.storage_model.specs.Choices.{entry_of, is_used_as, onie_part, onie_place}
use Rattle.storage_model.specs.Tests.{is_of}

-- GUIDs are the same where their bytes are
same_guid : (g h : Guid) → bytes_eq g.bytes h.bytes ≡ true → g ≡ h
same_guid g h test = ap (λ bytes. record { bytes = bytes }) ((bytes_eq-Decides g.bytes h.bytes).0 test)

is_same : (g h : Guid) → g ≡ h → bytes_eq g.bytes h.bytes ≡ true
is_same g h same = (bytes_eq-Decides g.bytes h.bytes).1 (ap (λ (x : Guid). x.bytes) same)

is_other : (g h : Guid) → g ≢ h → bytes_eq g.bytes h.bytes ≡ false
is_other g h other = by_test (bytes_eq g.bytes h.bytes) refl
  where
    by_test : (b : Bool) → bytes_eq g.bytes h.bytes ≡ b → bytes_eq g.bytes h.bytes ≡ false
    by_test true test = absurd (other (same_guid g h test))
    by_test false test = test

-- the first element that passes stands at a place before which none does
first_at : (p : Entry → Bool) (xs : _) (i : ℕ) (e : Entry) → slice_get xs i ≡ Some e → p e ≡ true → ((k : ℕ) → k < i → p (get_or xs k e) ≡ false) → position_or_len p xs ≡ i
first_at p xs i e is passes before =
    position_or_len_is p xs i e (let lt = slice_get_within xs i e is in omega (arith, lt)) before (λ lt. ap p (get_or_from_slice_get xs i e e is) ∙ passes)

module _ (t : Table) (i : ℕ) (e : Entry) (one : OnieEntry t i e) where
  -- none before it is of ONIE's type
  none_before : (k : ℕ) → k < i → is_of onie_type (get_or t.entries k e) ≡ false
  none_before k lt = is_other (get_or t.entries k e).kind onie_type (λ same.
      let within = slice_get_within t.entries i e one.has.has.is in
      let is : slice_get t.entries k ≡ Some (get_or t.entries k e) = slice_get-get_or t.entries k e (omega (arith, lt, within)) in
      let used : (get_or t.entries k e).kind ≢ unused_type = λ unused. one.has.has.used (one.has.kind ∙ sym same ∙ unused) in
      let here : k ≡ i = one.only k (get_or t.entries k e) (record { has = record { is = is; used = used }; kind = same }) in
      omega (arith, lt, here))

  at_place : position_or_len (is_of onie_type) t.entries ≡ i
  at_place = first_at (is_of onie_type) t.entries i e one.has.has.is (is_same e.kind onie_type one.has.kind) none_before

  pub onie_at : onie_place t ≡ Some i
  onie_at =
      let lt : nat_lt (position_or_len (is_of onie_type) t.entries) (length t.entries) ≡ true =
      lt-ltb (position_or_len (is_of onie_type) t.entries) (length t.entries) (let within = slice_get_within t.entries i e one.has.has.is in omega (arith, at_place, within)) in
      ap (λ (b : Bool). cond b (Some (position_or_len (is_of onie_type) t.entries)) None) lt ∙ ap (λ (n : ℕ). Some n) at_place

  pub onie_found : onie_part t ≡ Some e
  onie_found = ap (λ (o : Option ℕ). option_and_then (slice_get t.entries) o) onie_at ∙ one.has.has.is

-- a sane table has one used entry of a GUID
module _ (t : Table) (i : ℕ) (e : Entry) (sane : IsSane t) (has : HasEntry t i e) where
  and_false : (a b : Bool) → ((a ≡ true) → (b ≡ true) → ⊥) → (a && b) ≡ false
  and_false false b none = refl
  and_false true false none = refl
  and_false true true none = absurd (none refl refl)

  not_true : (a : Bool) → not a ≡ true → a ≡ false
  not_true false test = refl
  not_true true test = absurd cc

  used_here : not (is_of unused_type e) ≡ true
  used_here = ap not (is_other e.kind unused_type has.used)

  others : (k : ℕ) → k < i → is_used_as e.guid (get_or t.entries k e) ≡ false
  others k lt = and_false (not (is_of unused_type (get_or t.entries k e))) (bytes_eq (get_or t.entries k e).guid.bytes e.guid.bytes) (λ used same.
      let within = slice_get_within t.entries i e has.is in
      let is : slice_get t.entries k ≡ Some (get_or t.entries k e) = slice_get-get_or t.entries k e (omega (arith, lt, within)) in
      let in_use : (get_or t.entries k e).kind ≢ unused_type = λ unused.
      (let one : is_of unused_type (get_or t.entries k e) ≡ true = is_same (get_or t.entries k e).kind unused_type unused in
      let none : is_of unused_type (get_or t.entries k e) ≡ false = not_true (is_of unused_type (get_or t.entries k e)) used in
      let no : true ≡ false = sym one ∙ none in absurd cc) in
      sane.different k i (get_or t.entries k e) e (record { is = is; used = in_use }) has (λ here. omega (arith, lt, here)) (same_guid (get_or t.entries k e).guid e.guid same))

  passes : is_used_as e.guid e ≡ true
  passes = ap (λ (b : Bool). b && bytes_eq e.guid.bytes e.guid.bytes) used_here ∙ is_same e.guid e.guid refl

  pub entry_found : entry_of t e.guid ≡ Some e
  entry_found = find_at (is_used_as e.guid) t.entries ∙ ap (slice_get t.entries) (first_at (is_used_as e.guid) t.entries i e has.is passes others) ∙ has.is
