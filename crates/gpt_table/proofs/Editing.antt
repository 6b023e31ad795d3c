-- What a change of one entry leaves, and that a refusal has one reason.
use Rattle.std.proofs.Common.{◌≡◌, ◌≢◌, ◌⊎◌, inl, inr, ⊎_elim, ℕ, ◌+◌, ◌-◌, ◌<◌, length, replicate, get_or, slice_get, Some, refl, sym, ◌∙◌, ap, subst, arith}
use Rattle.std.proofs.lemmas.Bool.{cases_eq, cases_lt, cases_order}
use Rattle.std.proofs.lemmas.List.{get_or-replicate, length-replicate}
use Rattle.std.proofs.lemmas.Option.{get_or_from_slice_get, slice_get_within}
use Rattle.bd_dev.proofs.Places.{slice_get-set_other, slice_get-set_same}
use Rattle.bd_text.specs.declared.guid.Guid.{Guid}
use Rattle.gpt_copy.specs.declared.table.Entry.{Entry}
use Rattle.gpt_copy.specs.declared.table.Table.{Table}
use Rattle.storage_model.specs.Entries.{AreApart, HasEntry, IsSane, IsWithin, unused_type}
use Rattle.gpt_table.specs.declared.edits.EditFault.{EditFault}
use Rattle.gpt_table.specs.declared.edits.EditFault.TheVariants.{GuidUsed, NoEntry, NumberUsed, Overlap, Range, TableFull}
use Rattle.gpt_table.specs.Edits.{FitsAt, HasGuid, IsNumber, IsUnused, IsUsed, RefusesAddition, RefusesChange, RefusesEntry, RefusesGuid, RefusesPlace, TakesPlace, emptied, unused_entry, with_entry}

-- an entry can stand at a place, beside those at the others
pub record Beside (t : Table) (i : ℕ) (e : Entry) : Type 0 where
  pub within : IsWithin t e
  pub apart : (j : ℕ) (f : Entry) → HasEntry t j f → j ≢ i → AreApart f e
  pub different : (j : ℕ) (f : Entry) → HasEntry t j f → j ≢ i → f.guid ≢ e.guid

-- what a place has after a change
changed : (t : Table) (i : ℕ) (e : Entry) → i < length t.entries → (j : ℕ) (f : Entry) → HasEntry (with_entry t i e) j f → ((j ≡ i) × (f ≡ e)) ⊎ ((j ≢ i) × HasEntry t j f)
changed t i e lt j f has = elim (cases_eq j i) [
  | inl here ↦
      let new = slice_get-set_same t.entries i e lt in
      let is : slice_get (with_entry t i e).entries i ≡ Some f = ap (slice_get (with_entry t i e).entries) (sym here) ∙ has.is in
      inl (here, cc)
  | inr other ↦ inr (other, record { is = sym (slice_get-set_other t.entries i j e other) ∙ has.is; used = has.used })
]

turned : (e f : Entry) → AreApart f e → AreApart e f
turned e f apart = ⊎_elim (λ l. inr l) (λ r. inl r) apart

pub sane_with : (t : Table) (i : ℕ) (e : Entry) → IsSane t → i < length t.entries → (e.kind ≢ unused_type → Beside t i e) → IsSane (with_entry t i e)
sane_with t i e sane lt fits = record {
  within = λ j f has. elim (changed t i e lt j f has) [
    | inl here ↦ within_as f here.1 has.used
    | inr other ↦
        let w = sane.within j f other.1 in
        record { from = w.from; ordered = w.ordered; until = w.until }
  ];
  apart = λ j k f g one two ne. elim (changed t i e lt j f one) [
    | inl here ↦ elim (changed t i e lt k g two) [
      | inl there ↦ absurd (ne (here.0 ∙ sym there.0))
      | inr other ↦ subst (λ (x : Entry). AreApart x g) (sym here.1) (turned e g ((beside f here.1 one.used).apart k g other.1 other.0))
    ]
    | inr other ↦ elim (changed t i e lt k g two) [
      | inl there ↦ subst (λ (x : Entry). AreApart f x) (sym there.1) ((beside g there.1 two.used).apart j f other.1 other.0)
      | inr also ↦ sane.apart j k f g other.1 also.1 ne
    ]
  ];
  different = λ j k f g one two ne. elim (changed t i e lt j f one) [
    | inl here ↦ elim (changed t i e lt k g two) [
      | inl there ↦ absurd (ne (here.0 ∙ sym there.0))
      | inr other ↦ λ same. (beside f here.1 one.used).different k g other.1 other.0 (sym same ∙ ap (λ (x : Entry). x.guid) here.1)
    ]
    | inr other ↦ elim (changed t i e lt k g two) [
      | inl there ↦ λ same. (beside g there.1 two.used).different j f other.1 other.0 (same ∙ ap (λ (x : Entry). x.guid) there.1)
      | inr also ↦ sane.different j k f g other.1 also.1 ne
    ]
  ];
}
  where
    beside : (f : Entry) → f ≡ e → f.kind ≢ unused_type → Beside t i e
    beside f is used = fits (subst (λ (x : Entry). x.kind ≢ unused_type) is used)

    within_as : (f : Entry) → f ≡ e → f.kind ≢ unused_type → IsWithin (with_entry t i e) f
    within_as f is used =
        let w = (beside f is used).within in
        subst (λ (x : Entry). IsWithin (with_entry t i e) x) (sym is) (record { from = w.from; ordered = w.ordered; until = w.until })

-- one entry alone

none_used : (t : Table) (i : ℕ) (e : Entry) → HasEntry (emptied t) i e → ⊥
none_used t i e has =
    let lt : i < 128 = subst (λ (n : ℕ). i < n) (length-replicate 128 unused_entry) (slice_get_within (replicate 128 unused_entry) i e has.is) in
    let read : get_or (replicate 128 unused_entry) i e ≡ e = get_or_from_slice_get (replicate 128 unused_entry) i e e has.is in
    let same : unused_entry ≡ e = sym (get_or-replicate 128 i unused_entry e lt) ∙ read in
    has.used (ap (λ (x : Entry). x.kind) (sym same))

sane_emptied : (t : Table) → IsSane (emptied t)
sane_emptied t = record {
  within = λ i e has. absurd (none_used t i e has);
  apart = λ i j e f has other ne. absurd (none_used t i e has);
  different = λ i j e f has other ne. absurd (none_used t i e has);
}

pub sane_alone : (t : Table) (i : ℕ) (old e : Entry) → IsSane t → i < 128 → HasEntry t i old → e ≡ old → IsSane (with_entry (emptied t) i e)
sane_alone t i old e sane lt has same =
    let w = sane.within i old has in
    sane_with (emptied t) i e (sane_emptied t) (subst (λ (n : ℕ). i < n) (sym (length-replicate 128 unused_entry)) lt) (λ used. subst (Beside (emptied t) i) (sym same) (record {
      within = record { from = w.from; ordered = w.ordered; until = w.until };
      apart = λ j f other ne. absurd (none_used t j f other);
      different = λ j f other ne. absurd (none_used t j f other);
    }))

-- what is tested at an addition is enough
pub beside_of : (t : Table) (i : ℕ) (e : Entry) → FitsAt t i e → Beside t i e
beside_of t i e fits = record {
  within = fits.within;
  apart = λ j f has ne. elim (cases_lt f.last e.first) [
    | inl before ↦ inl before
    | inr not_before ↦ elim (cases_lt e.last f.first) [
      | inl behind ↦ inr behind
      | inr not_behind ↦ absurd (fits.apart (j, f, has, λ apart. ⊎_elim (λ l. absurd (omega arith)) (λ r. absurd (omega arith)) apart))
    ]
  ];
  different = λ j f has ne same. fits.different (j, (ne, (f, has, same)));
}

-- an entry that keeps its sectors and its GUID stands as before
pub beside_same : (t : Table) (i : ℕ) (old e : Entry) → IsSane t → HasEntry t i old → e.first ≡ old.first → e.last ≡ old.last → ((j : ℕ) (f : Entry) → HasEntry t j f → j ≢ i → f.guid ≢ e.guid) → Beside t i e
beside_same t i old e sane has first last different =
    let w = sane.within i old has in
    record {
      within = record { from = omega (arith, w.from); ordered = omega (arith, w.ordered); until = omega (arith, w.until) };
      apart = λ j f other ne. ⊎_elim (λ l. inl (omega arith)) (λ r. inr (omega arith)) (sane.apart j i f old other has ne);
      different = different;
    }

-- ---- one reason

one_place : (t : Table) (number i j : ℕ) → TakesPlace t number i → TakesPlace t number j → i ≡ j
one_place t number i j a b = elim (cases_eq number 0) [
  | inl zero ↦ elim (cases_order i j) [
    | inl same ↦ same
    | inr order ↦ ⊎_elim (λ lt. absurd (b.least zero i lt a.unused)) (λ gt. absurd (a.least zero j gt b.unused)) order
  ]
  | inr other ↦ sym (a.asked other) ∙ b.asked other
]

pub place_refused : (t : Table) (number i : ℕ) (f : EditFault) → RefusesPlace t number f → TakesPlace t number i → ⊥
place_refused t number i TableFull refuses takes = refuses.1 i takes.unused
place_refused t number i NumberUsed refuses takes = refuses.1 (subst (IsUnused t) (sym (takes.asked refuses.0)) takes.unused)
place_refused t number i NoEntry refuses takes = refuses
place_refused t number i Range refuses takes = refuses
place_refused t number i Overlap refuses takes = refuses
place_refused t number i GuidUsed refuses takes = refuses

one_refused_place : (t : Table) (number : ℕ) (f g : EditFault) → RefusesPlace t number f → RefusesPlace t number g → f ≡ g
one_refused_place t number TableFull TableFull p q = refl
one_refused_place t number TableFull NumberUsed p q = absurd (q.0 p.0)
one_refused_place t number TableFull _ p q = absurd q
one_refused_place t number NumberUsed TableFull p q = absurd (p.0 q.0)
one_refused_place t number NumberUsed NumberUsed p q = refl
one_refused_place t number NumberUsed _ p q = absurd q
one_refused_place t number _ _ p q = absurd p

one_refused_entry : (t : Table) (i : ℕ) (e : Entry) (f g : EditFault) → RefusesEntry t i e f → RefusesEntry t i e g → f ≡ g
one_refused_entry t i e Range Range p q = refl
one_refused_entry t i e Range Overlap p q = absurd (p q.0)
one_refused_entry t i e Range GuidUsed p q = absurd (p q.0)
one_refused_entry t i e Range _ p q = absurd q
one_refused_entry t i e Overlap Range p q = absurd (q p.0)
one_refused_entry t i e Overlap Overlap p q = refl
one_refused_entry t i e Overlap GuidUsed p q = absurd (q.1 p.1)
one_refused_entry t i e Overlap _ p q = absurd q
one_refused_entry t i e GuidUsed Range p q = absurd (q p.0)
one_refused_entry t i e GuidUsed Overlap p q = absurd (p.1 q.1)
one_refused_entry t i e GuidUsed GuidUsed p q = refl
one_refused_entry t i e GuidUsed _ p q = absurd q
one_refused_entry t i e _ _ p q = absurd p

pub one_addition : (t : Table) (number : ℕ) (e : Entry) (f g : EditFault) → RefusesAddition t number e f → RefusesAddition t number e g → f ≡ g
one_addition t number e f g p q = elim p [
  | inl a ↦ elim q [
    | inl b ↦ one_refused_place t number f g a b
    | inr b ↦ absurd (place_refused t number b.0 f a b.1)
  ]
  | inr a ↦ elim q [
    | inl b ↦ absurd (place_refused t number a.0 g b a.1)
    | inr b ↦ one_refused_entry t a.0 e f g a.2 (subst (λ (i : ℕ). RefusesEntry t i e g) (one_place t number b.0 a.0 b.1 a.1) b.2)
  ]
]

-- what is added is not refused
fits_anyway : (t : Table) (i : ℕ) (e : Entry) (f : EditFault) → FitsAt t i e → RefusesEntry t i e f → ⊥
fits_anyway t i e Range fits refuses = refuses fits.within
fits_anyway t i e Overlap fits refuses = fits.apart refuses.1
fits_anyway t i e GuidUsed fits refuses = fits.different refuses.2
fits_anyway t i e _ fits refuses = refuses

pub added_anyway : (t : Table) (number i : ℕ) (e : Entry) (f : EditFault) → TakesPlace t number i → FitsAt t i e → RefusesAddition t number e f → ⊥
added_anyway t number i e f takes fits refuses = elim refuses [
  | inl a ↦ place_refused t number i f a takes
  | inr a ↦ fits_anyway t i e f fits (subst (λ (j : ℕ). RefusesEntry t j e f) (one_place t number a.0 i a.1 takes) a.2)
]

pub one_change : (t : Table) (number : ℕ) (f g : EditFault) → RefusesChange t number f → RefusesChange t number g → f ≡ g
one_change t number NoEntry NoEntry p q = refl
one_change t number NoEntry _ p q = absurd q
one_change t number _ _ p q = absurd p

pub one_guid : (t : Table) (number : ℕ) (g : Guid) (f h : EditFault) → RefusesGuid t number g f → RefusesGuid t number g h → f ≡ h
one_guid t number g NoEntry NoEntry p q = refl
one_guid t number g NoEntry GuidUsed p q = absurd (p q.0)
one_guid t number g NoEntry _ p q = absurd q
one_guid t number g GuidUsed NoEntry p q = absurd (q p.0)
one_guid t number g GuidUsed GuidUsed p q = refl
one_guid t number g GuidUsed _ p q = absurd q
one_guid t number g _ _ p q = absurd p

-- ---- the entry of a number

-- the used entry at the place of a number
pub at_place : (t : Table) (number place : ℕ) → number ≡ place + 1 → IsNumber t number → IsUsed t place
at_place t number place is used = let same : number - 1 ≡ place = omega arith in subst (IsUsed t) same used.used

-- a change that keeps the entry's sectors keeps the table sane, where no other entry has its GUID
pub sane_renumbered : (t : Table) (place : ℕ) (old d e : Entry) → IsSane t → HasEntry t place old → e.first ≡ (get_or t.entries place d).first → e.last ≡ (get_or t.entries place d).last
    → (¬ HasGuid t e.guid place) → IsSane (with_entry t place e)
sane_renumbered t place old d e sane has first last different =
    let read : get_or t.entries place d ≡ old = get_or_from_slice_get t.entries place old d has.is in
    sane_with t place e sane (slice_get_within t.entries place old has.is) (λ used.
    beside_same t place old e sane has (first ∙ ap (λ (x : Entry). x.first) read) (last ∙ ap (λ (x : Entry). x.last) read)
    (λ j f other ne same. different (j, (ne, (f, other, same)))))

-- a change that keeps its GUID too
pub sane_kept : (t : Table) (place : ℕ) (old d e : Entry) → IsSane t → HasEntry t place old → e.first ≡ (get_or t.entries place d).first → e.last ≡ (get_or t.entries place d).last
    → e.guid ≡ (get_or t.entries place d).guid → IsSane (with_entry t place e)
sane_kept t place old d e sane has first last guid =
    let read : get_or t.entries place d ≡ old = get_or_from_slice_get t.entries place old d has.is in
    sane_renumbered t place old d e sane has first last (λ other.
    sane.different other.0 place other.1.1.0 old other.1.1.1 has other.1.0 (other.1.1.2 ∙ guid ∙ ap (λ (x : Entry). x.guid) read))

-- a number's place is one before it
pub before_next : (place : ℕ) → place ≡ place + 1 - 1
before_next place = omega arith
