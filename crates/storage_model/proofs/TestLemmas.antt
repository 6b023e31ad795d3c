-- What the tests of a table decide.
use Rattle.std.proofs.Common.{◌≡◌, ◌≢◌, ◌⊎◌, inl, inr, ⊎_elim, IsTrue, ℕ, ◌<◌, ◌≤◌, ◌==◌, length, Bool, true, false, cond, ◌&&◌, ◌||◌, not, nat_le, slice_get, Option, Some, None, refl, sym, ap, subst, ◌∙◌}
use Rattle.std.specs.Bool.{Decides}
use Rattle.std.specs.Option.{option_and_then}
use Rattle.std.specs.Str.{bytes_eq}
use Rattle.std.proofs.lemmas.Bool.{cases_eq, le-leb, leb-true}
use Rattle.std.proofs.lemmas.Bool.Decides.{Decides-and, Decides-below_and, Decides-below_or, Decides-eqb, Decides-like, Decides-ltb, Decides-not, Decides-or}
use Rattle.std.proofs.lemmas.Option.{same_Some, slice_get_within}
use Rattle.std.proofs.lemmas.Slice.Eq.{bytes_eq-Decides}
use Rattle.bd_text.specs.declared.guid.Guid.{Guid}
use Rattle.gpt_copy.specs.declared.table.Entry.{Entry}
use Rattle.gpt_copy.specs.declared.table.Table.{Table}
use Rattle.storage_model.specs.Entries.{AreApart, HasEntry, HasOnie, IsSane, IsWithin, NosEntry, onie_type, unused_type}
use Rattle.storage_model.specs.Image.{has_image}
use Rattle.storage_model.specs.Soundness.{IsSoundTable}
use Rattle.storage_model.specs.Tests.{any_below, any_used, are_two, each_below, each_used, has_nos, if_used, is_found, is_lone, is_of, is_sane, is_sound_table, is_within, passes, used_at}

pub same_guid : (g h : Guid) → Decides (bytes_eq g.bytes h.bytes) (g ≡ h)
same_guid g h = Decides-like (bytes_eq g.bytes h.bytes) (ap (λ bytes. record { bytes = bytes })) (ap (λ (x : Guid). x.bytes)) (bytes_eq-Decides g.bytes h.bytes)

at_most : (a b : ℕ) → Decides (nat_le a b) (a ≤ b)
at_most a b = (leb-true a b, le-leb a b)

-- ---- the used entry at a place

used_is : (t : Table) (i : ℕ) (e : Entry) → HasEntry t i e → used_at t i ≡ Some e
used_is t i e has =
    ap (λ o. option_and_then if_used o) has.is ∙ by_test (is_of unused_type e) refl
  where
    by_test : (b : Bool) → is_of unused_type e ≡ b → cond b None (Some e) ≡ Some e
    by_test true test = absurd (has.used ((same_guid e.kind unused_type).0 test))
    by_test false test = refl

is_used : (t : Table) (i : ℕ) (e : Entry) → used_at t i ≡ Some e → HasEntry t i e
is_used t i e used = by_entry (slice_get t.entries i) refl used
  where
    by_test : (f : Entry) (b : Bool) → slice_get t.entries i ≡ Some f → is_of unused_type f ≡ b → cond b None (Some f) ≡ Some e → HasEntry t i e
    by_test f true is test same = absurd cc
    by_test f false is test same =
        subst (HasEntry t i) (same_Some f e same) (record { is = is; used = λ unused. absurd (let one = (same_guid f.kind unused_type).1 unused in cc) })

    by_entry : (o : Option Entry) → slice_get t.entries i ≡ o → option_and_then if_used o ≡ Some e → HasEntry t i e
    by_entry None is same = absurd cc
    by_entry (Some f) is same = by_test f (is_of unused_type f) is refl same

within : (t : Table) (i : ℕ) (e : Entry) → HasEntry t i e → i < length t.entries
within t i e has = slice_get_within t.entries i e has.is

-- ---- each used entry, and one of them

module _ (t : Table) (p : ℕ → Entry → Bool) (P : ℕ → Entry → Type 0) (each : (i : ℕ) (e : Entry) → Decides (p i e) (P i e)) where
  passes_decides : (i : ℕ) (o : Option Entry) → Decides (passes (p i) o) ((e : Entry) → o ≡ Some e → P i e)
  passes_decides i None = (λ test e same. absurd cc, λ all. refl)
  passes_decides i (Some f) = (λ test e same. subst (P i) (same_Some f e same) ((each i f).0 test), λ all. (each i f).1 (all f refl))

  found_decides : (i : ℕ) (o : Option Entry) → Decides (is_found (p i) o) ((e : Entry) × (o ≡ Some e) × P i e)
  found_decides i None = (λ test. absurd cc, λ one. let same = one.1 in absurd cc)
  found_decides i (Some f) = (λ test. (f, refl, (each i f).0 test), λ one. (each i f).1 (subst (P i) (sym (same_Some f one.0 one.1)) one.2))

  pub each_decides : Decides (each_used t p) ((i : ℕ) (e : Entry) → HasEntry t i e → P i e)
  each_decides =
      Decides-like (each_used t p)
      (λ all i e has. all i (within t i e has) e (used_is t i e has))
      (λ all i lt e used. all i e (is_used t i e used))
      (Decides-below_and (λ i. passes (p i) (used_at t i)) (λ i. (e : Entry) → used_at t i ≡ Some e → P i e) (each_below (λ i. passes (p i) (used_at t i)))
      (λ i. passes_decides i (used_at t i)) refl (λ n. refl) (length t.entries))

  pub any_decides : Decides (any_used t p) ((i : ℕ) × (e : Entry) × HasEntry t i e × P i e)
  any_decides =
      Decides-like (any_used t p)
      (λ one. (one.0, one.2.0, is_used t one.0 one.2.0 one.2.1, one.2.2))
      (λ one. (one.0, within t one.0 one.1 one.2, (one.1, used_is t one.0 one.1 one.2, one.3)))
      (Decides-below_or (λ i. is_found (p i) (used_at t i)) (λ i. (e : Entry) × (used_at t i ≡ Some e) × P i e) (any_below (λ i. is_found (p i) (used_at t i)))
      (λ i. found_decides i (used_at t i)) refl (λ n. refl) (length t.entries))

-- ---- a sane table

within_decides : (t : Table) (e : Entry) → Decides (is_within t e) (IsWithin t e)
within_decides t e =
    Decides-like (is_within t e) (λ both. record { from = both.0; ordered = both.1.0; until = both.1.1 }) (λ is. (is.from, (is.ordered, is.until)))
    (Decides-and _ _ (at_most t.first_usable e.first) (Decides-and _ _ (at_most e.first e.last) (at_most e.last t.last_usable)))

two_decides : (e f : Entry) → Decides (are_two e f) (AreApart e f × (e.guid ≢ f.guid))
two_decides e f =
    Decides-and _ _ (Decides-or _ _ (Decides-ltb e.last f.first) (Decides-ltb f.last e.first)) (Decides-not _ (same_guid e.guid f.guid))

pub sane_decides : (t : Table) → Decides (is_sane t) (IsSane t)
sane_decides t =
    Decides-like (is_sane t) to from
    (each_decides t (λ i e. is_within t e && each_used t (λ j f. (i == j) || are_two e f))
    (λ i e. IsWithin t e × ((j : ℕ) (f : Entry) → HasEntry t j f → (i ≡ j) ⊎ (AreApart e f × (e.guid ≢ f.guid))))
    (λ i e. Decides-and _ _ (within_decides t e)
    (each_decides t (λ j f. (i == j) || are_two e f) (λ j f. (i ≡ j) ⊎ (AreApart e f × (e.guid ≢ f.guid))) (λ j f. Decides-or _ _ (Decides-eqb i j) (two_decides e f)))))
  where
    to : ((i : ℕ) (e : Entry) → HasEntry t i e → IsWithin t e × ((j : ℕ) (f : Entry) → HasEntry t j f → (i ≡ j) ⊎ (AreApart e f × (e.guid ≢ f.guid)))) → IsSane t
    to all = record {
      within = λ i e has. (all i e has).0;
      apart = λ i j e f has other not_same. ⊎_elim (λ same. absurd (not_same same)) (λ two. two.0) ((all i e has).1 j f other);
      different = λ i j e f has other not_same. ⊎_elim (λ same. absurd (not_same same)) (λ two. two.1) ((all i e has).1 j f other);
    }

    from : IsSane t → (i : ℕ) (e : Entry) → HasEntry t i e → IsWithin t e × ((j : ℕ) (f : Entry) → HasEntry t j f → (i ≡ j) ⊎ (AreApart e f × (e.guid ≢ f.guid)))
    from sane i e has = (
      sane.within i e has,
      λ j f other. elim (cases_eq i j) [
        | inl same ↦ inl same
        | inr differ ↦ inr (sane.apart i j e f has other differ, sane.different i j e f has other differ)
      ],
    )

-- ---- a sound one

lone_decides : (t : Table) (i : ℕ) → Decides (is_lone t i) ((j : ℕ) (f : Entry) → HasOnie t j f → j ≡ i)
lone_decides t i =
    Decides-like (is_lone t i)
    (λ all j f has. ⊎_elim (λ other. absurd (other has.kind)) (λ same. same) (all j f has.has))
    (λ only j f has. elim (kind_or_not f) [
      | inl kind ↦ inr (only j f (record { has = has; kind = kind }))
      | inr other ↦ inl other
    ])
    (each_decides t (λ j f. not (is_of onie_type f) || (j == i)) (λ j f. (f.kind ≢ onie_type) ⊎ (j ≡ i))
    (λ j f. Decides-or _ _ (Decides-not _ (same_guid f.kind onie_type)) (Decides-eqb j i)))
  where
    by_test : (f : Entry) (b : Bool) → is_of onie_type f ≡ b → (f.kind ≡ onie_type) ⊎ (f.kind ≢ onie_type)
    by_test f true test = inl ((same_guid f.kind onie_type).0 test)
    by_test f false test = inr (λ same. absurd (let one = (same_guid f.kind onie_type).1 same in cc))

    kind_or_not : (f : Entry) → (f.kind ≡ onie_type) ⊎ (f.kind ≢ onie_type)
    kind_or_not f = by_test f (is_of onie_type f) refl

image_decides : (disk : ℕ → ℕ) (e : Entry) → Decides (has_image disk e) (IsTrue (has_image disk e))
image_decides disk e = (λ test. test, λ is. is)

-- the one entry of ONIE's type holds an image
abbrev HoldsImage : (ℕ → ℕ) → Table → ℕ → Entry → Type 0
HoldsImage disk t i e = (e.kind ≡ onie_type) × (((j : ℕ) (f : Entry) → HasOnie t j f → j ≡ i) × IsTrue (has_image disk e))

pub sound_decides : (disk : ℕ → ℕ) (t : Table) → Decides (is_sound_table disk t) (IsSoundTable disk t)
sound_decides disk t =
    Decides-like (is_sound_table disk t)
    (λ both. record {
      sane = both.0;
      index = both.1.0;
      onie = both.1.1;
      one = record { has = record { has = both.1.2; kind = both.1.3.0 }; only = both.1.3.1.0 };
      image = both.1.3.1.1;
    })
    (λ sound. (sound.sane, (sound.index, sound.onie, sound.one.has.has, (sound.one.has.kind, (sound.one.only, sound.image)))))
    (Decides-and (is_sane t) _ (sane_decides t)
    (any_decides t (λ i e. is_of onie_type e && (is_lone t i && has_image disk e)) (HoldsImage disk t)
    (λ i e. Decides-and _ _ (same_guid e.kind onie_type) (Decides-and _ _ (lone_decides t i) (image_decides disk e)))))

-- ---- a system

pub nos_decides : (t : Table) (g : Guid) → Decides (has_nos t g) ((i : ℕ) × (e : Entry) × NosEntry t g i e)
nos_decides t g =
    Decides-like (has_nos t g)
    (λ one. (one.0, one.1, record { has = one.2; guid = one.3.0; other = one.3.1 }))
    (λ one. (one.0, one.1, one.2.has, (one.2.guid, one.2.other)))
    (any_decides t (λ i e. bytes_eq e.guid.bytes g.bytes && not (is_of onie_type e)) (λ i e. (e.guid ≡ g) × (e.kind ≢ onie_type))
    (λ i e. Decides-and _ _ (same_guid e.guid g) (Decides-not _ (same_guid e.kind onie_type))))
