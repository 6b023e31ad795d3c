-- What boots, by the function and by the relation.
use Rattle.std.proofs.Common.{◌≡◌, inl, inr, ℕ, List, Bool, true, false, cond, ◌&&◌, Option, Some, None, refl, sym, ap, subst, ◌∙◌}
use Rattle.std.specs.Option.{option_and_then}
use Rattle.std.proofs.lemmas.Bool.Decides.{Decides-and}
use Rattle.std.proofs.lemmas.Option.{same_Some}
use Rattle.bd_dev.specs.declared.plant.Area.{Area}
use Rattle.bd_dev.specs.declared.plant.Area.TheVariants.{Disk, Flash}
use Rattle.bd_dev.specs.Content.{Image}
use Rattle.bd_mode.specs.declared.mode.Mode.{Mode}
use Rattle.bd_mode.specs.declared.mode.Mode.TheVariants.{Install}
use Rattle.bd_text.specs.declared.guid.Guid.{Guid}
use Rattle.gpt_copy.specs.declared.table.Table.{Table}
use Rattle.slot_model.specs.Slots.{Stored}
use Rattle.storage_model.specs.Boots.{BootsNos, BootsOnie, NamesEntry}
use Rattle.storage_model.specs.Choices.{Booted, Boots, Nos, Nothing, Onie, boots_by, boots_in, boots_of, boots_with, nos_in}
use Rattle.storage_model.specs.Disk.{table_of}
use Rattle.storage_model.specs.Named.{named_in}
use Rattle.storage_model.specs.Soundness.{IsSoundBoard, IsSoundTable}
use Rattle.storage_model.specs.Tests.{has_nos, is_sound_table, is_text}
use Rattle.storage_model.specs.Variables.{IsText, kept_in, mode_in}
use Rattle.storage_model.proofs.Lines.{text_decides}
use Rattle.storage_model.proofs.NamedLemmas.{is_named, named_is}
use Rattle.storage_model.proofs.TestLemmas.{nos_decides, sound_decides}

-- ---- a system that is named and there

module _ (t : Table) (text : List ℕ) where
  there : Guid → Option Guid
  there g = cond (has_nos t g) (Some g) None

  pub entry_is : (g : Guid) → NamesEntry t text g → nos_in t text ≡ Some g
  entry_is g names =
      ap (λ (o : Option Guid). option_and_then (λ g. cond (has_nos t g) (Some g) None) o) (named_is text g names.names)
      ∙ ap (λ (b : Bool). cond b (Some g) None) ((nos_decides t g).1 (names.index, names.entry, names.has))

  by_test : (g h : Guid) (b : Bool) → named_in text ≡ Some h → has_nos t h ≡ b → cond b (Some h) None ≡ Some g → NamesEntry t text g
  by_test g h true named has same =
      let one = (nos_decides t h).0 has in
      subst (NamesEntry t text) (same_Some h g same) (record { names = is_named text h named; index = one.0; entry = one.1; has = one.2 })
  by_test g h false named has same = absurd cc

  by_name : (g : Guid) (o : Option Guid) → named_in text ≡ o → option_and_then (λ g. cond (has_nos t g) (Some g) None) o ≡ Some g → NamesEntry t text g
  by_name g None named same = absurd cc
  by_name g (Some h) named same = by_test g h (has_nos t h) named refl same

  pub is_entry : (g : Guid) → nos_in t text ≡ Some g → NamesEntry t text g
  is_entry g same = by_name g (named_in text) refl same

  -- ---- what boots

  pub onie_is : (mode : Mode) → BootsOnie t text mode → boots_of t text ≡ Onie mode
  onie_is mode (inl asked) = ap (λ (o : Option Mode). boots_by o (nos_in t text)) asked
  onie_is mode (inr default) =
      ap (λ (o : Option Mode). boots_by o (nos_in t text)) default.no_mode ∙ none (nos_in t text) refl ∙ ap (λ m. Onie m) (sym default.install)
    where
      none : (o : Option Guid) → nos_in t text ≡ o → boots_by None o ≡ Onie Install
      none None is = refl
      none (Some g) is = absurd (default.no_nos g (is_entry g is))

  pub nos_is : (g : Guid) → BootsNos t text g → boots_of t text ≡ Nos g
  nos_is g boots =
      ap (λ (o : Option Mode). boots_by o (nos_in t text)) boots.no_mode ∙ ap (λ (o : Option Guid). boots_by None o) (entry_is g boots.named)

  same_mode : (m n : Mode) → Onie m ≡ Onie n → m ≡ n
  same_mode m n same = cc

  same_nos : (g h : Guid) → Nos g ≡ Nos h → g ≡ h
  same_nos g h same = cc

  by_onie : (mode : Mode) (m : Option Mode) (o : Option Guid) → mode_in text ≡ m → nos_in t text ≡ o → boots_by m o ≡ Onie mode → BootsOnie t text mode
  by_onie mode (Some n) o asked there same = inl (asked ∙ ap (λ k. Some k) (same_mode n mode same))
  by_onie mode None (Some g) asked there same = absurd cc
  by_onie mode None None asked there same =
      inr (record { no_mode = asked; no_nos = λ g names. absurd (let is = entry_is g names in cc); install = sym (same_mode Install mode same) })

  pub is_onie : (mode : Mode) → boots_of t text ≡ Onie mode → BootsOnie t text mode
  is_onie mode same = by_onie mode (mode_in text) (nos_in t text) refl refl same

  by_nos : (g : Guid) (m : Option Mode) (o : Option Guid) → mode_in text ≡ m → nos_in t text ≡ o → boots_by m o ≡ Nos g → BootsNos t text g
  by_nos g (Some n) o asked there same = absurd cc
  by_nos g None (Some h) asked there same = record { no_mode = asked; named = is_entry g (there ∙ ap (λ k. Some k) (same_nos h g same)) }
  by_nos g None None asked there same = absurd cc

  pub is_nos : (g : Guid) → boots_of t text ≡ Nos g → BootsNos t text g
  is_nos g same = by_nos g (mode_in text) (nos_in t text) refl refl same

  -- it boots something
  pub boots_some : boots_of t text ≡ Nothing → ⊥
  boots_some same = by_choice (mode_in text) (nos_in t text) same
    where
      by_choice : (m : Option Mode) (o : Option Guid) → boots_by m o ≡ Nothing → ⊥
      by_choice (Some n) o same = cc
      by_choice None (Some g) same = cc
      by_choice None None same = cc

-- ---- what an image boots

module _ (size : Area → ℕ) (c : Image) where
  -- a sound board's test passes
  sound_passes : (t : Table) (kept : Stored) → IsSoundTable (c Disk) t → IsText kept.content → (is_sound_table (c Disk) t && is_text kept.content) ≡ true
  sound_passes t kept sound text = (Decides-and _ _ (sound_decides (c Disk) t) (text_decides kept.content)).1 (sound, text)

  pub sound_boots : (sound : IsSoundBoard size c) → boots_in size c ≡ boots_of sound.table sound.kept.content
  sound_boots sound =
      ap (λ (o : Option Table). boots_with (c Disk) o (kept_in (size Flash) (c Flash))) sound.disk.table
      ∙ ap (λ (o : Option Stored). boots_with (c Disk) (Some sound.table) o) sound.variables.is
      ∙ ap (λ (b : Bool). cond b (boots_of sound.table sound.kept.content) Nothing) (sound_passes sound.table sound.kept sound.disk.sound sound.variables.text)

  by_passes : (t : Table) (kept : Stored) (test : Bool) → table_of (size Disk) (c Disk) ≡ Some t → kept_in (size Flash) (c Flash) ≡ Some kept → (is_sound_table (c Disk) t && is_text kept.content) ≡ test
      → (cond test (boots_of t kept.content) Nothing ≡ Nothing → ⊥) → IsSoundBoard size c
  by_passes t kept true table holds passed some =
      let both = (Decides-and _ _ (sound_decides (c Disk) t) (text_decides kept.content)).0 passed in
      record { table = t; disk = record { table = table; sound = both.0 }; kept = kept; variables = record { is = holds; text = both.1 } }
  by_passes t kept false table holds passed some = absurd (some refl)

  by_found : (t : Option Table) (kept : Option Stored) → table_of (size Disk) (c Disk) ≡ t → kept_in (size Flash) (c Flash) ≡ kept → (boots_with (c Disk) t kept ≡ Nothing → ⊥) → IsSoundBoard size c
  by_found (Some t) (Some kept) table holds some = by_passes t kept (is_sound_table (c Disk) t && is_text kept.content) table holds refl some
  by_found (Some t) None table holds some = absurd (some refl)
  by_found None kept table holds some = absurd (some refl)

  pub some_is_sound : (boots_in size c ≡ Nothing → ⊥) → IsSoundBoard size c
  some_is_sound some = by_found (table_of (size Disk) (c Disk)) (kept_in (size Flash) (c Flash)) refl refl some

  pub boots : (b : Booted) → boots_in size c ≡ b → Boots size c b
  boots Nothing same = λ sound. boots_some sound.table sound.kept.content (sym (sound_boots sound) ∙ same)
  boots (Onie mode) same =
      let sound = some_is_sound (λ none. let no = sym same ∙ none in cc) in
      (sound, is_onie sound.table sound.kept.content mode (sym (sound_boots sound) ∙ same))
  boots (Nos g) same =
      let sound = some_is_sound (λ none. let no = sym same ∙ none in cc) in
      (sound, is_nos sound.table sound.kept.content g (sym (sound_boots sound) ∙ same))

  by_case : (b found : Booted) → boots_in size c ≡ found → Boots size c b → boots_in size c ≡ b
  by_case Nothing Nothing is none = is
  by_case Nothing (Onie mode) is none = absurd (none (boots (Onie mode) is).0)
  by_case Nothing (Nos g) is none = absurd (none (boots (Nos g) is).0)
  by_case (Onie mode) found is one = sound_boots one.0 ∙ onie_is one.0.table one.0.kept.content mode one.1
  by_case (Nos g) found is one = sound_boots one.0 ∙ nos_is one.0.table one.0.kept.content g one.1

  pub boots_is : (b : Booted) → Boots size c b → boots_in size c ≡ b
  boots_is b one = by_case b (boots_in size c) refl one

-- an image boots one thing
pub one_boot : (size : Area → ℕ) (c : Image) (a b : Booted) → Boots size c a → Boots size c b → a ≡ b
one_boot size c a b one other = sym (boots_is size c a one) ∙ boots_is size c b other
