-- The tests find one thing: a board is sound, or it is not for one reason.
use Rattle.std.proofs.Common.{◌≡◌, ℕ, IsTrue, Option, Some, None, option_map, slice_get, refl, sym, ◌∙◌, ap, subst}
use Rattle.std.proofs.lemmas.Option.{same_Some}
use Rattle.bd_dev.specs.declared.plant.Area.{Area}
use Rattle.bd_dev.specs.declared.plant.Area.TheVariants.{Disk, Flash}
use Rattle.bd_dev.specs.Content.{Image}
use Rattle.gpt_copy.specs.declared.table.Entry.{Entry}
use Rattle.gpt_copy.specs.declared.table.Table.{Table}
use Rattle.bd_dev.specs.Plant.{View}
use Rattle.bd_dev.specs.Runs.{Looks}
use Rattle.storage_model.specs.Disk.{Found, found, table_of}
use Rattle.storage_model.specs.Entries.{OnieEntry}
use Rattle.storage_model.specs.Image.{has_image}
use Rattle.storage_model.specs.Soundness.{IsSoundBoard, IsSoundTable}
use Rattle.slot_model.specs.Slots.{Stored}
use Rattle.storage_model.specs.Variables.{HoldsVariables}
use Rattle.soundness.specs.declared.judging.SoundKind.{SoundKind}
use Rattle.soundness.specs.declared.judging.SoundKind.TheVariants as kinds
use Rattle.soundness.specs.Judgement.{HasNoImage, IsFaultOf, IsTableFault, IsUnsound}
use Rattle.soundness.specs.Onie.{HasTwoOnie}

-- more than one entry of ONIE's type is not exactly one
two_not_one : (t : Table) (i : ℕ) (e : Entry) → HasTwoOnie t → OnieEntry t i e → ⊥
two_not_one t i e two one = two.different (one.only two.first two.one two.has_one ∙ sym (one.only two.second two.other two.has_other))

-- the one entry is one
same_onie : (t : Table) (i j : ℕ) (e f : Entry) → OnieEntry t i e → OnieEntry t j f → e ≡ f
same_onie t i j e f one other =
    same_Some e f (sym one.has.has.is ∙ ap (slice_get t.entries) (other.only i e one.has) ∙ other.has.has.is)

no_image_not_sound : (disk : ℕ → ℕ) (t : Table) → HasNoImage disk t → IsSoundTable disk t → ⊥
no_image_not_sound disk t none sound =
    none.no_image (subst (λ (e : Entry). IsTrue (has_image disk e)) (same_onie t sound.index none.index sound.onie none.onie sound.one none.one) sound.image)

module _ (size : Area → ℕ) (c : Image) where
  -- a table has one fault
  one_fault : (t : Table) (k l : SoundKind) → IsTableFault size c t k → IsTableFault size c t l → k ≡ l
  one_fault t kinds.NoTable l a b = absurd a
  one_fault t kinds.Entries kinds.NoTable a b = absurd b
  one_fault t kinds.Entries kinds.Entries a b = refl
  one_fault t kinds.Entries kinds.NoOnie a b = absurd (a b.0)
  one_fault t kinds.Entries kinds.TwoOnie a b = absurd (a b.0)
  one_fault t kinds.Entries kinds.NoImage a b = absurd (a b.0)
  one_fault t kinds.Entries kinds.NoVars a b = absurd (a b.0.sane)
  one_fault t kinds.NoOnie kinds.NoTable a b = absurd b
  one_fault t kinds.NoOnie kinds.Entries a b = absurd (b a.0)
  one_fault t kinds.NoOnie kinds.NoOnie a b = refl
  one_fault t kinds.NoOnie kinds.TwoOnie a b = absurd (a.1 b.1.first b.1.one b.1.has_one)
  one_fault t kinds.NoOnie kinds.NoImage a b = absurd (a.1 b.1.index b.1.onie b.1.one.has)
  one_fault t kinds.NoOnie kinds.NoVars a b = absurd (a.1 b.0.index b.0.onie b.0.one.has)
  one_fault t kinds.TwoOnie kinds.NoTable a b = absurd b
  one_fault t kinds.TwoOnie kinds.Entries a b = absurd (b a.0)
  one_fault t kinds.TwoOnie kinds.NoOnie a b = absurd (b.1 a.1.first a.1.one a.1.has_one)
  one_fault t kinds.TwoOnie kinds.TwoOnie a b = refl
  one_fault t kinds.TwoOnie kinds.NoImage a b = absurd (two_not_one t b.1.index b.1.onie a.1 b.1.one)
  one_fault t kinds.TwoOnie kinds.NoVars a b = absurd (two_not_one t b.0.index b.0.onie a.1 b.0.one)
  one_fault t kinds.NoImage kinds.NoTable a b = absurd b
  one_fault t kinds.NoImage kinds.Entries a b = absurd (b a.0)
  one_fault t kinds.NoImage kinds.NoOnie a b = absurd (b.1 a.1.index a.1.onie a.1.one.has)
  one_fault t kinds.NoImage kinds.TwoOnie a b = absurd (two_not_one t a.1.index a.1.onie b.1 a.1.one)
  one_fault t kinds.NoImage kinds.NoImage a b = refl
  one_fault t kinds.NoImage kinds.NoVars a b = absurd (no_image_not_sound (c Disk) t a.1 b.0)
  one_fault t kinds.NoVars kinds.NoTable a b = absurd b
  one_fault t kinds.NoVars kinds.Entries a b = absurd (b a.0.sane)
  one_fault t kinds.NoVars kinds.NoOnie a b = absurd (b.1 a.0.index a.0.onie a.0.one.has)
  one_fault t kinds.NoVars kinds.TwoOnie a b = absurd (two_not_one t a.0.index a.0.onie b.1 a.0.one)
  one_fault t kinds.NoVars kinds.NoImage a b = absurd (no_image_not_sound (c Disk) t b.1 a.0)
  one_fault t kinds.NoVars kinds.NoVars a b = refl

  one_of : (found : Option Table) (k l : SoundKind) → IsFaultOf size c found k → IsFaultOf size c found l → k ≡ l
  one_of None k l a b = a ∙ sym b
  one_of (Some t) k l a b = one_fault t k l a b

  -- a board is not sound for one reason
  pub one_reason : (k l : SoundKind) → IsUnsound size c k → IsUnsound size c l → k ≡ l
  one_reason k l a b = one_of (table_of (size Disk) (c Disk)) k l a b

  not_both : (t : Table) (k : SoundKind) → IsTableFault size c t k → IsSoundTable (c Disk) t → (kept : Stored) → HoldsVariables (size Flash) (c Flash) kept → ⊥
  not_both t kinds.NoTable fault sound kept holds = fault
  not_both t kinds.Entries fault sound kept holds = fault sound.sane
  not_both t kinds.NoOnie fault sound kept holds = fault.1 sound.index sound.onie sound.one.has
  not_both t kinds.TwoOnie fault sound kept holds = two_not_one t sound.index sound.onie fault.1 sound.one
  not_both t kinds.NoImage fault sound kept holds = no_image_not_sound (c Disk) t fault.1 sound
  not_both t kinds.NoVars fault sound kept holds = fault.1 kept holds

  -- a sound board is not unsound
  pub sound_not_unsound : (k : SoundKind) → IsSoundBoard size c → IsUnsound size c k → ⊥
  sound_not_unsound k sound unsound =
      not_both sound.table k (subst (λ (found : Option Table). IsFaultOf size c found k) sound.disk.table unsound) sound.disk.sound sound.kept sound.variables

-- what is wrong with the table that was found is wrong with the board
pub fault_found : (size : Area → ℕ) (c : Image) (f : Found) (k : SoundKind) → found (size Disk) (c Disk) ≡ Some f → IsTableFault size c f.table k → IsUnsound size c k
fault_found size c f k is fault = subst (λ (o : Option Found). IsFaultOf size c (option_map (λ g. g.table) o) k) (sym is) fault

-- and after reads alone it was wrong before
pub fault_before : (old new : View) (t : Table) (k : SoundKind) → Looks old new → old.tells → IsTableFault new.size new.reads t k → IsTableFault old.size old.reads t k
fault_before old new t k looks tells fault =
    let sizes : new.size ≡ old.size = λ i a. looks.continues.size a i in
    subst (λ (size : Area → ℕ). IsTableFault size old.reads t k) sizes (subst (λ (c : Image). IsTableFault new.size c t k) (looks.told tells).only.reads fault)

-- what was found after reads alone was there before
pub found_before : (old new : View) (o : Option Found) → Looks old new → old.tells → found (new.size Disk) (new.reads Disk) ≡ o → found (old.size Disk) (old.reads Disk) ≡ o
found_before old new o looks tells is =
    sym (ap (λ (size : ℕ). found size (new.reads Disk)) (looks.continues.size Disk) ∙ ap (λ (c : Image). found (old.size Disk) (c Disk)) (looks.told tells).only.reads) ∙ is

-- and the table is as sound as it is afterwards
pub sound_before : (old mid new : View) (t : Table) → Looks old mid → Looks mid new → old.tells → IsSoundTable (new.reads Disk) t → IsSoundTable (old.reads Disk) t
sound_before old mid new t opened looked tells sound =
    subst (λ (w : Image). IsSoundTable (w Disk) t) ((looked.told (opened.continues.still_tells tells)).only.reads ∙ (opened.told tells).only.reads) sound
