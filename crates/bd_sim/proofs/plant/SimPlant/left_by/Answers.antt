use Rattle.std.proofs.Common.{ℕ, List, length, subst, ap, refl}
use Rattle.bd_dev.specs.declared.plant.Area.TheVariants.{Disk, Flash}
use Rattle.bd_sim.specs.declared.journal.Noted.{Noted}
use Rattle.bd_sim.specs.View.{PlantInMemory}
use Rattle.bd_sim.specs.Image.{IsLeft}
use Rattle.bd_sim.proofs.Picking.{IsAreaImage, IsLeft-new}
use Rattle.bd_sim.proofs.plant.SimPlant.left_by.Goals as goal

pub returns : goal.returns
returns c =
    let p = c.self.inside in
    let journal = p.journal.items in
    let picks = c.args.picks.now in
    let disk : IsAreaImage p.disk.items p.flash.items journal c.args.moment picks Disk (length p.disk.items) c.in_ok-area_image.field-0.items =
    subst (λ (n : ℕ). IsAreaImage p.disk.items p.flash.items journal c.args.moment picks Disk n c.in_ok-area_image.field-0.items) (ap length c.deref.ensures.value)
    (subst (λ (l : List Noted). IsAreaImage p.disk.items p.flash.items l c.args.moment picks Disk (length c.deref.result.now) c.in_ok-area_image.field-0.items) c.deref-2.ensures.value
    (c.in_ok-area_image.ensures p.disk.items p.flash.items c.deref.ensures.value)) in
    let flash : IsAreaImage p.disk.items p.flash.items journal c.args.moment picks Flash (length p.flash.items) c.in_ok-area_image-2.field-0.items =
    subst (λ (n : ℕ). IsAreaImage p.disk.items p.flash.items journal c.args.moment picks Flash n c.in_ok-area_image-2.field-0.items) (ap length c.deref-3.ensures.value)
    (subst (λ (l : List Noted). IsAreaImage p.disk.items p.flash.items l c.args.moment picks Flash (length c.deref-3.result.now) c.in_ok-area_image-2.field-0.items) c.deref-4.ensures.value
    (c.in_ok-area_image-2.ensures p.disk.items p.flash.items c.deref-3.ensures.value)) in
    subst (λ (x : PlantInMemory). IsLeft x c.args.moment picks (record { disk = c.in_ok-area_image.field-0.items; flash = c.in_ok-area_image-2.field-0.items; journal = c.new.result.items; calls = c.in_ok-new.field-0; writes = record { disk = 0; flash = 0 } })) c.self.view_is
    (IsLeft-new (record { disk = p.disk.items; flash = p.flash.items; journal = journal; calls = p.calls; writes = p.writes }) c.args.moment picks _ c.new.ensures.items c.in_ok-new.ensures refl disk flash)
