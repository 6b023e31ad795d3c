-- A board from which the law holds, and a run with an effect of each kind that keeps its rules, in which the variables
-- come to name a NOS: so neither the law nor what it says of a NOS is empty.
use Rattle.std.proofs.Common.{◌≡◌, ◌≢◌, ◌⊎◌, inl, inr, ℕ, zero, suc, ◌*◌, ◌<◌, ◌≤◌, List, [], ◌∷◌, ◌++◌, codes, replicate, slice_index, true, Some, refl, sym, ◌∙◌, ap, subst, arith}
use Rattle.bd_text.specs.declared.guid.Guid.{Guid}
use Rattle.bd_dev.specs.declared.plant.Area.{Area}
use Rattle.bd_dev.specs.declared.plant.Area.TheVariants.{Disk, Flash}
use Rattle.gpt_copy.specs.declared.table.Entry.{Entry}
use Rattle.gpt_copy.specs.declared.table.Table.{Table}
use Rattle.std.proofs.lemmas.Option.{same_Some}
use Rattle.storage_model.specs.Copies.{OffCopies}
use Rattle.storage_model.specs.Entries.{HasEntry, InEntry, IsSane, IsWithin, NosEntry, OnieEntry, onie_type}
use Rattle.storage_model.specs.Image.{has_image, image_word, is_image_head}
use Rattle.storage_model.specs.Named.{named_in}
use Rattle.storage_model.specs.Variables.{IsText, Names, is_name, is_value, value_of}
use Rattle.storage_model.proofs.Lines.{text_decides}
use Rattle.storage_model.proofs.NamedLemmas.{is_named, named_is}
use Rattle.bd_dev.specs.Content.{window}
use Rattle.cuts.specs.declared.effect.Effect.{Effect}
use Rattle.cuts.specs.declared.effect.Effect.TheVariants.{Put, Sync, Table as SetTable, Vars as SetVars}
use Rattle.cuts.specs.States.{InPut, State, after, patch}
use Rattle.cuts.specs.Law.{IsStart}
use Rattle.cuts.specs.Orderly.{AreLawful, AreOrderly, IsNamed, IsPlacedAs}

-- a GUID of sixteen equal bytes
guid : ℕ → Guid
guid b = record { bytes = replicate 16 b }

-- ONIE's entry, and one of a NOS
onie : Entry
onie = record { kind = onie_type; guid = guid 1; first = 34; last = 65; attributes = 0; name = replicate 36 0 }

nos : Entry
nos = record { kind = guid 9; guid = guid 2; first = 66; last = 70; attributes = 0; name = replicate 36 0 }

before : Table
before = record { disk = guid 3; first_usable = 34; last_usable = 166; entries = onie ∷ [] }

with_nos : Table
with_nos = record { disk = guid 3; first_usable = 34; last_usable = 166; entries = onie ∷ nos ∷ [] }

-- ONIE's image of one byte begins at its first sector
disk : ℕ → ℕ
disk = patch (λ k. 0) (512 * 34) (image_word ++ 1 ∷ 0 ∷ 0 ∷ 0 ∷ [])

board : State
board = record { table = before; text = []; number = 1; disk = disk }

-- a disk of 200 sectors, a flash of 34
size : Area → ℕ
size Disk = 200
size Flash = 34

-- the variables that name the NOS
command : List ℕ
command = codes "nos_bootcmd=boot 02020202-0202-0202-0202-020202020202" ++ 0 ∷ []

-- a NOS of a sector is put, it gets its entry, and it is named; then a sector beside it is put
run : List Effect
run = Put 66 (replicate 512 7) ∷ Sync ∷ SetTable with_nos ∷ SetVars command ∷ Put 100 (replicate 512 8) ∷ []

is_command : IsText command
unfolding command is_name is_value
is_command = (text_decides command).0 refl

names_nos : named_in command ≡ Some (guid 2)
unfolding command value_of guid
names_nos = refl

-- no other is named
only_nos : (g : Guid) → Names command g → g ≡ guid 2
only_nos g names = same_Some g (guid 2) (sym (named_is command g names) ∙ names_nos)

has_image_there : has_image disk onie ≡ true
unfolding disk onie patch is_image_head window
has_image_there = refl

names_none : (g : Guid) → Names [] g → ⊥
unfolding value_of
names_none g names = let value = names.value in cc

-- the used entries
only_onie : (i : ℕ) (e : Entry) → HasEntry before i e → (i ≡ 0) × (e ≡ onie)
unfolding before
only_onie zero e has = let is = has.is in (refl, cc)
only_onie (suc i) e has = let is = has.is in cc

both : (i : ℕ) (e : Entry) → HasEntry with_nos i e → ((i ≡ 0) × (e ≡ onie)) ⊎ ((i ≡ 1) × (e ≡ nos))
unfolding with_nos
both zero e has = let is = has.is in inl (refl, cc)
both (suc zero) e has = let is = has.is in inr (refl, cc)
both (suc (suc i)) e has = let is = has.is in cc

sane_before : IsSane before
unfolding before onie
sane_before = record {
  within = λ i e has. subst (λ (f : Entry). IsWithin before f) (sym (only_onie i e has).1) (record { from = omega arith; ordered = omega arith; until = omega arith });
  apart = λ i j e f has other not. absurd (not ((only_onie i e has).0 ∙ sym (only_onie j f other).0));
  different = λ i j e f has other not. absurd (not ((only_onie i e has).0 ∙ sym (only_onie j f other).0));
}

differ : (m n : ℕ) → m < n → m ≡ n → ⊥
differ m n lt same = omega arith

other_guid : onie.guid ≢ nos.guid
unfolding onie nos guid
other_guid same = differ 1 2 (omega arith) (ap (λ (g : Guid). slice_index g.bytes 0) same)

other_kind : nos.kind ≢ onie.kind
unfolding onie nos guid
other_kind same = differ 9 0xD5 (omega arith) (ap (λ (g : Guid). slice_index g.bytes 0) same)

sane_after : IsSane with_nos
unfolding with_nos onie nos
sane_after = record { within = within; apart = apart; different = different }
  where
    within : (i : ℕ) (e : Entry) → HasEntry with_nos i e → IsWithin with_nos e
    within i e has = elim (both i e has) [
      | inl one ↦ subst (λ (f : Entry). IsWithin with_nos f) (sym one.1) (record { from = omega arith; ordered = omega arith; until = omega arith })
      | inr two ↦ subst (λ (f : Entry). IsWithin with_nos f) (sym two.1) (record { from = omega arith; ordered = omega arith; until = omega arith })
    ]

    apart : (i j : ℕ) (e f : Entry) → HasEntry with_nos i e → HasEntry with_nos j f → i ≢ j → (e.last < f.first) ⊎ (f.last < e.first)
    apart i j e f has other not = elim (both i e has) [
      | inl one ↦ elim (both j f other) [
        | inl same ↦ absurd (not (one.0 ∙ sym same.0))
        | inr two ↦ inl (let last = ap (λ (x : Entry). x.last) one.1 in let first = ap (λ (x : Entry). x.first) two.1 in omega (arith, last, first))
      ]
      | inr two ↦ elim (both j f other) [
        | inl one ↦ inr (let last = ap (λ (x : Entry). x.last) one.1 in let first = ap (λ (x : Entry). x.first) two.1 in omega (arith, last, first))
        | inr same ↦ absurd (not (two.0 ∙ sym same.0))
      ]
    ]

    different : (i j : ℕ) (e f : Entry) → HasEntry with_nos i e → HasEntry with_nos j f → i ≢ j → e.guid ≢ f.guid
    different i j e f has other not same_guid = elim (both i e has) [
      | inl one ↦ elim (both j f other) [
        | inl same ↦ not (one.0 ∙ sym same.0)
        | inr two ↦ other_guid (ap (λ (x : Entry). x.guid) (sym one.1) ∙ same_guid ∙ ap (λ (x : Entry). x.guid) two.1)
      ]
      | inr two ↦ elim (both j f other) [
        | inl one ↦ other_guid (ap (λ (x : Entry). x.guid) (sym one.1) ∙ sym same_guid ∙ ap (λ (x : Entry). x.guid) two.1)
        | inr same ↦ not (two.0 ∙ sym same.0)
      ]
    ]

onie_before : OnieEntry before 0 onie
unfolding before onie guid
onie_before = record {
  has = record { has = record { is = refl; used = λ same. differ 0 0xD5 (omega arith) (sym (ap (λ (g : Guid). slice_index g.bytes 0) same)) }; kind = refl };
  only = λ j f has. (only_onie j f has.has).0;
}

onie_after : OnieEntry with_nos 0 onie
unfolding with_nos onie nos guid
onie_after = record {
  has = record { has = record { is = refl; used = λ same. differ 0 0xD5 (omega arith) (sym (ap (λ (g : Guid). slice_index g.bytes 0) same)) }; kind = refl };
  only = λ j f has. elim (both j f has.has) [ inl one ↦ one.0 | inr two ↦ absurd (other_kind (ap (λ (x : Entry). x.kind) (sym two.1) ∙ has.kind)) ];
}

nos_after : NosEntry with_nos (guid 2) 1 nos
unfolding with_nos onie nos guid
nos_after = record {
  has = record { is = refl; used = λ same. differ 0 9 (omega arith) (sym (ap (λ (g : Guid). slice_index g.bytes 0) same)) };
  guid = refl;
  other = other_kind;
}

-- the law holds from this board, nothing of which is unsynced
starts : IsStart size board (λ q. ⊥)
unfolding board size before
starts = record {
  fits = record { from = omega arith; ordered = omega arith; until = omega arith };
  sound = record { sane = sane_before; index = 0; onie = onie; one = onie_before; image = has_image_there };
  text = ([], record { lines = refl; variables = tt });
  off = record { onie = λ i e one q none. absurd none; named = λ i e named q none. absurd none };
}

off_the_copies : (lba b q : ℕ) → 34 ≤ lba → lba < 166 → InPut lba (replicate 512 b) q → OffCopies 200 q
off_the_copies lba b q from until inside = inr (omega (arith, from, inside.from), omega (arith, until, inside.until))

lawful : AreLawful (size Disk) board run
unfolding size board run before with_nos
lawful = (
  record { whole = refl; some = omega arith; few = omega arith; off = λ q inside. off_the_copies 66 7 q (omega arith) (omega arith) inside },
  (
    tt,
    (
      record { sane = sane_after; first = refl; last = refl; disk = refl },
      (
        record { is = is_command; room = λ same. omega (arith, same) },
        (record { whole = refl; some = omega arith; few = omega arith; off = λ q inside. off_the_copies 100 8 q (omega arith) (omega arith) inside }, tt),
      ),
    ),
  ),
)

orderly : AreOrderly board (λ q. ⊥) run
unfolding board run onie nos
orderly = (
  record {
    onie = λ i e one q inside within. let last : e.last ≡ 65 = ap (λ (x : Entry). x.last) (only_onie i e one.has.has).1 in omega (arith, inside.from, within.until, last);
    named = λ i e named q inside within. names_none e.guid named.names;
  },
  (
    tt,
    (
      record {
        onie = λ i e one. record { index = 0; entry = onie; one = onie_after; placed = subst (λ (x : Entry). IsPlacedAs x onie) (sym (only_onie i e one.has.has).1) (record { guid = refl; first = refl; last = refl }) };
        named = λ i e named. absurd (names_none e.guid named.names);
      },
      (
        λ g names. inr (record { index = 1; entry = nos; has = subst (λ (h : Guid). NosEntry with_nos h 1 nos) (sym (only_nos g names)) nos_after; settled = λ q none. absurd none }),
        (
          record {
            onie = λ i e one q inside within. beside i e one.has.has q inside within;
            named = λ i e named q inside within. beside i e named.has q inside within;
          },
          tt,
        ),
      ),
    ),
  ),
)
  where
    beside : (i : ℕ) (e : Entry) → HasEntry with_nos i e → (q : ℕ) → InPut 100 (replicate 512 8) q → InEntry e q → ⊥
    beside i e has q inside within = elim (both i e has) [
      | inl one ↦ let last : e.last ≡ 65 = ap (λ (x : Entry). x.last) one.1 in omega (arith, inside.from, within.until, last)
      | inr two ↦ let last : e.last ≡ 70 = ap (λ (x : Entry). x.last) two.1 in omega (arith, inside.from, within.until, last)
    ]

-- at its end the variables name the NOS's entry: of that the law says that each cut leaves it whole
named_after : IsNamed (after board run).table (after board run).text 1 nos
unfolding board run nos
named_after = record { has = nos_after.has; names = is_named command (guid 2) names_nos }
