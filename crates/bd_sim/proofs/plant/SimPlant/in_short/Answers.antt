use Rattle.std.proofs.Common.{◌≡◌, ℕ, List, length, ◌++◌, ◌∷◌, [], take, sym, ◌∙◌, ap, subst}
use Rattle.bd_dev.specs.declared.plant.Area.{Area}
use Rattle.bd_dev.specs.declared.plant.Area.TheVariants.{Disk, Flash}
use Rattle.bd_sim.specs.declared.journal.Noted.{Noted}
use Rattle.bd_sim.specs.Journal.{IsRead, after_each, before_call, of_area, start, with_call}
use Rattle.bd_sim.specs.View.{PlantInMemory}
use Rattle.bd_sim.specs.Open.{IsInShort}
use Rattle.bd_sim.proofs.Shorts.{in_short, two_writes}
use Rattle.bd_sim.proofs.plant.SimPlant.in_short.Goals as goal

pub returns : goal.returns
returns c =
    let inside = c.self.inside in
    let p : PlantInMemory = record { disk = inside.disk.items; flash = inside.flash.items; journal = inside.journal.items; calls = inside.calls; writes = inside.writes } in
    let disk = c.in_ok-disk.disk.items in
    let flash = c.in_ok-flash.flash.items in
    let old_disk = c.in_ok-old_content.field-0.items in
    let old_flash = c.in_ok-old_content-2.field-0.items in
    let noted : c.note-2.new.journal.items ≡ two_writes disk flash =
    c.in_ok-note-2.ensures.noted ∙ (λ i. (c.in_ok-note.ensures.noted ∙ (λ j. c.new-journal.ensures.items j ++ c.in_ok-write.ensures j ∷ [])) i ++ c.in_ok-write-2.ensures i ∷ [])
    ∙ (λ i. two_writes (c.deref-5.ensures.value i) (c.deref-6.ensures.value i)) in
    let long : (a : Area) → length (of_area old_disk old_flash a) ≡ length (of_area p.disk p.flash a) =
    λ a. elim a as (λ a. length (of_area old_disk old_flash a) ≡ length (of_area p.disk p.flash a)) [
      | Disk ↦ c.in_ok-old_content.ensures.size ∙ ap length c.deref-7.ensures.value
      | Flash ↦ c.in_ok-old_content-2.ensures.size ∙ ap length c.deref-9.ensures.value
    ] in
    let long_then : (a : Area) → length (of_area disk flash a) ≡ length (of_area p.disk p.flash a) =
    λ a. elim a as (λ a. length (of_area disk flash a) ≡ length (of_area p.disk p.flash a)) [
      | Disk ↦ c.in_ok-disk.ensures.size ∙ ap length c.deref.ensures.value
      | Flash ↦ c.in_ok-flash.ensures.size ∙ ap length c.deref-3.ensures.value
    ] in
    let was : (a : Area) → IsRead ((after_each (start p.disk p.flash) (take (before_call p.journal c.args.moment) p.journal)).durable a) 0 (of_area old_disk old_flash a) =
    λ a. elim a as (λ a. IsRead ((after_each (start p.disk p.flash) (take (before_call p.journal c.args.moment) p.journal)).durable a) 0 (of_area old_disk old_flash a)) [
      | Disk ↦ subst (λ (l : List Noted). IsRead ((after_each (start p.disk p.flash) (take (before_call l c.args.moment) l)).durable Disk) 0 old_disk) c.deref-8.ensures.value (c.in_ok-old_content.ensures.bytes p.disk p.flash c.deref-7.ensures.value)
      | Flash ↦ subst (λ (l : List Noted). IsRead ((after_each (start p.disk p.flash) (take (before_call l c.args.moment) l)).durable Flash) 0 old_flash) c.deref-10.ensures.value (c.in_ok-old_content-2.ensures.bytes p.disk p.flash c.deref-9.ensures.value)
    ] in
    let is : (a : Area) → IsRead ((after_each (start p.disk p.flash) (take (with_call p.journal c.args.moment) p.journal)).reads a) 0 (of_area disk flash a) =
    λ a. elim a as (λ a. IsRead ((after_each (start p.disk p.flash) (take (with_call p.journal c.args.moment) p.journal)).reads a) 0 (of_area disk flash a)) [
      | Disk ↦ subst (λ (l : List Noted). IsRead ((after_each (start p.disk p.flash) (take (with_call l c.args.moment) l)).reads Disk) 0 disk) c.deref-2.ensures.value (c.in_ok-disk.ensures.bytes p.disk p.flash c.deref.ensures.value)
      | Flash ↦ subst (λ (l : List Noted). IsRead ((after_each (start p.disk p.flash) (take (with_call l c.args.moment) l)).reads Flash) 0 flash) c.deref-4.ensures.value (c.in_ok-flash.ensures.bytes p.disk p.flash c.deref-3.ensures.value)
    ] in
    subst (λ (x : PlantInMemory). IsInShort x c.args.moment (record { disk = old_disk; flash = old_flash; journal = c.note-2.new.journal.items; calls = c.in_ok-new.field-0; writes = record { disk = 0; flash = 0 } })) c.self.view_is
    (in_short p c.args.moment _ disk flash noted long long_then was is)
