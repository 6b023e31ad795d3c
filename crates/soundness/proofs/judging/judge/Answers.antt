use Rattle.std.proofs.Common.{◌≡◌, ◌⊎◌, inl, inr, ⊎_elim, Err, option_map, refl, ◌∙◌, ap, subst}
use Rattle.bd_dev.specs.declared.plant.Area.TheVariants.{Disk, Flash}
use Rattle.soundness.specs.declared.judging.JudgeFault.{JudgeFault}
use Rattle.soundness.specs.declared.judging.JudgeFault.TheVariants.{Fault, NotSound}
use Rattle.soundness.specs.declared.judging.SoundKind.{SoundKind}
use Rattle.soundness.specs.declared.judging.SoundKind.TheVariants.{NoVars}
use Rattle.storage_model.specs.Disk.{Found}
use Rattle.soundness.specs.Judgement.{IsUnsound, MayHold}
use Rattle.soundness.proofs.Verdicts.{fault_before, fault_found, found_before, one_reason, sound_before, sound_not_unsound}
use Rattle.soundness.proofs.judging.judge.Goals as goal

-- the table's fault is the reason
reason : (g : _) (c : goal.In-Err g) (kind : SoundKind) → (g.P.Plant.view c.args.plant.now).tells → c.in-Err.fault ≡ NotSound kind
    → IsUnsound (g.P.Plant.view c.args.plant.now).size (g.P.Plant.view c.args.plant.now).reads kind
reason g c kind t is =
    let old = g.P.Plant.view c.args.plant.now in
    let mid = g.P.Plant.view c.open_vars.new.plant in
    let new = g.P.Plant.view c.find_table.new.plant in
    let opened = c.in_ok-vars.ensures.looks in
    let looked = c.in_ok-table.ensures.looks in
    let t1 = opened.continues.still_tells t in
    let t2 = looked.continues.still_tells t1 in
    let found = found_before old mid _ opened t (c.in_ok-table.ensures.found t1) in
    let fault = c.judge_table.ensures.unsound t2 kind (c.in-Err.is ∙ ap Err is) in
    fault_found old.size old.reads (record { table = c.in_ok-table.table; copy = c.in_ok-table.copy }) kind found
    (fault_before old mid c.in_ok-table.table kind opened t (fault_before mid new c.in_ok-table.table kind looked t1 fault))

pub returns-in-Err-clause-unsound : goal.returns-in-Err-clause-unsound
returns-in-Err-clause-unsound g c = λ kind t is. reason g c kind t (let same : c.in-Err.fault ≡ NotSound kind = cc in same)

-- it is the one reason, or the plant's fault
exactly : (g : _) (c : goal.In-Err g) (kind : SoundKind) → (g.P.Plant.view c.args.plant.now).tells
    → IsUnsound (g.P.Plant.view c.args.plant.now).size (g.P.Plant.view c.args.plant.now).reads kind
    → (f : JudgeFault) → c.in-Err.fault ≡ f → (f ≡ NotSound kind) ⊎ (f ≡ Fault)
exactly g c kind t unsound (NotSound k) is = inl (ap NotSound (one_reason (g.P.Plant.view c.args.plant.now).size (g.P.Plant.view c.args.plant.now).reads k kind (reason g c k t is) unsound))
exactly g c kind t unsound Fault is = inr refl

pub returns-in-Err-clause-exact : goal.returns-in-Err-clause-exact
returns-in-Err-clause-exact g c = λ kind t unsound. ⊎_elim (λ is. inl (ap Err is)) (λ is. inr (ap Err is)) (exactly g c kind t unsound c.in-Err.fault refl)

pub returns-in-Some-clause-exact : goal.returns-in-Some-clause-exact
returns-in-Some-clause-exact g c = λ kind t unsound.
    let old = g.P.Plant.view c.args.plant.now in
    let mid = g.P.Plant.view c.open_vars.new.plant in
    let opened = c.in_ok-vars.ensures.looks in
    let looked = c.in_ok-table.ensures.looks in
    let t1 = opened.continues.still_tells t in
    let found = found_before old mid _ opened t (c.in_ok-table.ensures.found t1) in
    absurd (sound_not_unsound old.size old.reads kind (record {
      table = c.in_ok-table.table;
      disk = record {
        table = ap (option_map (λ (f : Found). f.table)) found;
        sound = sound_before old mid (g.P.Plant.view c.find_table.new.plant) c.in_ok-table.table opened looked t (c.in_default.ensures.sound (looked.continues.still_tells t1));
      };
      kept = record { number = c.in-Some.vars.pair.number; content = c.in-Some.vars.text };
      variables = subst (MayHold (old.size Flash) (old.reads Flash)) c.in-Some.is (c.in_ok-vars.ensures.held t);
    }) unsound)

pub returns-in-None-clause-exact : goal.returns-in-None-clause-exact
returns-in-None-clause-exact g c = λ kind t unsound.
    let old = g.P.Plant.view c.args.plant.now in
    let mid = g.P.Plant.view c.open_vars.new.plant in
    let opened = c.in_ok-vars.ensures.looks in
    let looked = c.in_ok-table.ensures.looks in
    let t1 = opened.continues.still_tells t in
    let found = found_before old mid _ opened t (c.in_ok-table.ensures.found t1) in
    let sound = sound_before old mid (g.P.Plant.view c.find_table.new.plant) c.in_ok-table.table opened looked t (c.in_default.ensures.sound (looked.continues.still_tells t1)) in
    let none = fault_found old.size old.reads (record { table = c.in_ok-table.table; copy = c.in_ok-table.copy }) NoVars found
    (sound, subst (MayHold (old.size Flash) (old.reads Flash)) c.in-None.is (c.in_ok-vars.ensures.held t)) in
    inl (ap (λ (k : SoundKind). Err (NotSound k)) (one_reason old.size old.reads NoVars kind none unsound))
