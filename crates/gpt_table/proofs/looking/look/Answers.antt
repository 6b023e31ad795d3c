use Rattle.std.proofs.Common.{◌≡◌, ℕ, Some, None, sym, ◌∙◌, ap, subst}
use Rattle.bd_dev.specs.Content.{Image}
use Rattle.bd_dev.specs.declared.plant.Area.TheVariants.{Disk}
use Rattle.gpt_copy.specs.declared.table.Which.TheVariants.{Primary, Backup}
use Rattle.storage_model.specs.Disk.{copy_of, found}
use Rattle.gpt_table.proofs.Finding.{found_small, found_primary, found_backup, found_none}
use Rattle.gpt_table.proofs.looking.look.Goals as goal

pub returns-then-sectors-lt68-clause-none : goal.returns-then-sectors-lt68-clause-none
returns-then-sectors-lt68-clause-none g c = λ t is.
    subst (λ (n : ℕ). found n ((g.P.Plant.view c.args.plant.now).reads Disk) ≡ None) c.sectors-sectors.ensures (found_small c.sectors-sectors.result _ c.if-sectors-lt68.true)

pub returns-in-Some-clause-found : goal.returns-in-Some-clause-found
returns-in-Some-clause-found g c = λ t.
    let z = (g.P.Plant.view c.args.plant.now).reads Disk in
    let is : copy_of Primary c.sectors-sectors.result z ≡ Some c.in-Some.table = sym (c.in_ok-table.ensures.read t) ∙ c.in-Some.is in
    subst (λ (n : ℕ). found n z ≡ Some (record { table = c.in-Some.table; copy = Primary })) c.sectors-sectors.ensures (found_primary c.sectors-sectors.result z c.in-Some.table c.if-sectors-lt68.false is)

pub returns-in-Some-2-clause-found : goal.returns-in-Some-2-clause-found
returns-in-Some-2-clause-found g c = λ t.
    let z = (g.P.Plant.view c.args.plant.now).reads Disk in
    let looks = c.in_ok-table.ensures.looks in
    let same = (looks.told t).only.reads in
    let no : copy_of Primary c.sectors-sectors.result z ≡ None = sym (c.in_ok-table.ensures.read t) ∙ c.in_default.is in
    let read = c.in_ok-table-2.ensures.read (looks.continues.still_tells t) in
    let is : copy_of Backup c.sectors-sectors.result z ≡ Some c.in-Some-2.table = ap (λ (w : Image). copy_of Backup c.sectors-sectors.result (w Disk)) (sym same) ∙ sym read ∙ c.in-Some-2.is in
    subst (λ (n : ℕ). found n z ≡ Some (record { table = c.in-Some-2.table; copy = Backup })) c.sectors-sectors.ensures (found_backup c.sectors-sectors.result z c.in-Some-2.table c.if-sectors-lt68.false no is)

pub returns-in-None-clause-none : goal.returns-in-None-clause-none
returns-in-None-clause-none g c = λ t is.
    let z = (g.P.Plant.view c.args.plant.now).reads Disk in
    let looks = c.in_ok-table.ensures.looks in
    let same = (looks.told t).only.reads in
    let no : copy_of Primary c.sectors-sectors.result z ≡ None = sym (c.in_ok-table.ensures.read t) ∙ c.in_default.is in
    let read = c.in_ok-table-2.ensures.read (looks.continues.still_tells t) in
    let nor : copy_of Backup c.sectors-sectors.result z ≡ None = ap (λ (w : Image). copy_of Backup c.sectors-sectors.result (w Disk)) (sym same) ∙ sym read ∙ c.in-None.is in
    subst (λ (n : ℕ). found n z ≡ None) c.sectors-sectors.ensures (found_none c.sectors-sectors.result z c.if-sectors-lt68.false no nor)
