use Rattle.std.proofs.Common.{◌≡◌, ℕ, ◌++◌, ◌/◌, List, length, ◌∙◌, ap, subst}
use Rattle.bd_dev.specs.declared.plant.Area.{Area}
use Rattle.bd_dev.specs.declared.plant.Area.TheVariants.{Disk, Flash}
use Rattle.bd_sim.specs.declared.image.Pick.TheVariants.{Old}
use Rattle.bd_sim.specs.declared.journal.Noted.{Noted}
use Rattle.bd_sim.specs.Image.{may_tear}
use Rattle.bd_sim.specs.Open.{Sector, open_below, open_sectors}
use Rattle.bd_sim.specs.View.{PlantInMemory}
use Rattle.bd_sim.proofs.plant.SimPlant.open_sectors.Goals as goal

pub returns : goal.returns
returns c =
    let moment = c.args.moment in
    let disk = c.in_ok-push_open.ensures ∙ (λ i. c.new-sectors.ensures.items i ++ open_below (λ (s : ℕ). may_tear (c.deref-2.ensures.value i) moment (Disk, s, Old)) Disk (length (c.deref.ensures.value i) / 512)) in
    let both = c.in_ok-push_open-2.ensures ∙ (λ i. disk i ++ open_below (λ (s : ℕ). may_tear (c.deref-4.ensures.value i) moment (Flash, s, Old)) Flash (length (c.deref-3.ensures.value i) / 512)) in
    subst (λ (p : PlantInMemory). c.push_open-2.new.found.items ≡ open_sectors p moment) c.self.view_is both
