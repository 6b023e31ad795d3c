use Rattle.std.proofs.Common.{◌≡◌, ◌+◌, ◌*◌, List, length, subst, ap, ◌∙◌, rules}
use Rattle.bd_dev.specs.Calls.{Calls, IsListed}
use Rattle.bd_dev.specs.Content.{window}
use Rattle.bd_sim.specs.declared.journal.Noted.{Noted}
use Rattle.bd_sim.specs.Journal.{after_each, of_area, start}
use Rattle.bd_sim.specs.View.{PlantInMemory, now}
use Rattle.bd_sim.proofs.Replaying.{window_is}
use Rattle.bd_sim.proofs.plant.SimPlant.read_area.Goals as goal

pub returns-in_err-next-clause-listed : goal.returns-in_err-next-clause-listed
returns-in_err-next-clause-listed c =
    let same = ap (λ (p : PlantInMemory). p.calls) c.self.view_is in
    (λ _. subst (λ (x : Calls). IsListed x) same (c.in_err-next.ensures.listed.0 (search rules)), λ _. search rules)

pub returns-clause-bytes : goal.returns-clause-bytes
returns-clause-bytes c =
    let disk = c.self.inside.disk.items in
    let flash = c.self.inside.flash.items in
    let first : c.of_area-first.result.now ≡ of_area disk flash c.args.area = c.of_area-first.ensures ∙ (λ i. of_area (c.deref.ensures.value i) (c.deref-2.ensures.value i) c.args.area) in
    subst (λ (p : PlantInMemory). c.read_back.new.out ≡ window ((now p).reads c.args.area) (512 * c.args.lba) (length c.args.out.now)) c.self.view_is
    (window_is ((after_each (start disk flash) c.self.inside.journal.items).reads c.args.area) (512 * c.args.lba) (length c.args.out.now) c.read_back.new.out c.read_back.auto.out
    (λ k lt. c.read_back.ensures disk flash first k lt ∙ ap (λ (l : List Noted). (after_each (start disk flash) l).reads c.args.area (512 * c.args.lba + k)) c.deref-3.ensures.value))
