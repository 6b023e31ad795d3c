use Rattle.std.proofs.Common.{◌≡◌, ℕ, ◌-◌, Err, ap, ◌∙◌, sym, subst}
use Rattle.bd_dev.specs.declared.plant.Area.TheVariants.{Disk, Flash}
use Rattle.bd_dev.specs.Plant.{View}
use Rattle.gpt_copy.specs.Copy.{FitsDisk}
use Rattle.storage_model.specs.Copies.{ReadsBoth}
use Rattle.cuts.proofs.Openings.{IsQuiet, IsSettled}
use Rattle.soundness.specs.declared.judging.SoundKind.{SoundKind}
use Rattle.soundness.specs.Judgement.{IsUnsound, MayHold}
use Rattle.board.specs.declared.opening.OpenFault.TheVariants.{NotSound}
use Rattle.board.proofs.Openings.{exactly, flash_settled, held_kept, opens_mended, opens_tested, ready, settled_look, settled_mended, settled_tested, some_vars_kept, sound_settled, unsound_settled}
use Rattle.board.proofs.Settling.{both_unwritten, lesser_look, lesser_opened, none_unwritten, nothing_look, nothing_mid, nothing_then, quiet_lesser, quiet_mid, wears_look, wears_nothing, wears_opened}
use Rattle.board.proofs.opening.prepare.Goals as goal

pub test_opened-requires-clause-held : goal.test_opened-requires-clause-held
test_opened-requires-clause-held g c = λ t.
    let one = c.in-Ok.ensures.looks.continues.tells (c.open.ensures.touches.continues.tells t) in
    held_kept (g.P.Plant.view c.settle.new.plant) (g.P.Plant.view c.open_vars.new.plant) (g.P.Plant.view c.open.new.plant) c.in-Ok.vars c.in-Ok.ensures.looks c.open.ensures.touches one (c.in-Ok.ensures.held one)

-- nothing is unsynced once the variables are opened
settled : (g : _) (c : goal.After-test_opened g) → (g.P.Plant.view c.args.plant.now).tells → IsSettled (g.P.Plant.view c.args.plant.now) (g.P.Plant.view c.open_vars.new.plant)
settled g c t = settled_look _ (g.P.Plant.view c.settle.new.plant) _ t
    (record { continues = c.settle.ensures.continues; reads = c.settle.ensures.reads t; unsynced = c.settle.ensures.unsynced t; crash = c.settle.ensures.crash t; between = c.settle.ensures.between t })
    (c.in_default.ensures.disk t) (c.in_default.ensures.flash t) c.in-Ok.ensures.looks

-- the plant tells then
told : (g : _) (c : goal.After-test_opened g) → (g.P.Plant.view c.args.plant.now).tells → (g.P.Plant.view c.open_vars.new.plant).tells
told g c t = c.in-Ok.ensures.looks.continues.still_tells (c.settle.ensures.continues.still_tells t)

-- what the flash holds after the repair
held : (g : _) (c : goal.After-test_opened g) → (g.P.Plant.view c.open.new.plant).tells → MayHold ((g.P.Plant.view c.open.new.plant).size Flash) ((g.P.Plant.view c.open.new.plant).reads Flash) c.in-Ok.vars
held g c t =
    let one = c.in-Ok.ensures.looks.continues.tells (c.open.ensures.touches.continues.tells t) in
    held_kept (g.P.Plant.view c.settle.new.plant) (g.P.Plant.view c.open_vars.new.plant) (g.P.Plant.view c.open.new.plant) c.in-Ok.vars c.in-Ok.ensures.looks c.open.ensures.touches one (c.in-Ok.ensures.held one)

-- the table fits the disk
fits : (g : _) (c : goal.After-test_opened g) → FitsDisk ((g.P.Plant.view c.open.new.plant).size Disk - 1) c.in-Ok-open.table
fits g c = subst (λ (n : ℕ). FitsDisk (n - 1) c.in-Ok-open.table) (sym (c.open.ensures.touches.continues.size Disk)) c.in-Ok-open.ensures.fits

pub returns-in-Ok-open-clause-opens : goal.returns-in-Ok-open-clause-opens
returns-in-Ok-open-clause-opens g c = λ t.
    let mid : View = g.P.Plant.view c.open_vars.new.plant in
    let new : View = g.P.Plant.view c.open.new.plant in
    let then = told g c t in
    opens_tested _ mid new t (settled g c t) c.open.ensures.touches c.in-Ok-open.table (c.in-Ok-open.ensures.found then) (c.in-Ok-open.ensures.both then) (c.in-Ok-open.ensures.synced then) _
    (opens_mended _ mid new t (settled g c t) c.open.ensures.touches (g.met.P.Plant.honest c.open.new.plant) c.open.ensures.crash c.open.ensures.between)
    c.test_opened.ensures.looks

pub returns-in-Ok-open-clause-ready : goal.returns-in-Ok-open-clause-ready
returns-in-Ok-open-clause-ready g c =
    let mid : View = g.P.Plant.view c.open_vars.new.plant in
    let new : View = g.P.Plant.view c.open.new.plant in
    let table = c.in-Ok-open.table in
    let before = c.open.ensures.touches.continues.tells in
    let start : (g.P.Plant.view c.open.new.plant).tells → (g.P.Plant.view c.args.plant.now).tells = λ t. c.settle.ensures.continues.tells (c.in-Ok.ensures.looks.continues.tells (before t)) in
    ready new _ table c.in-Ok.vars c.test_opened.result c.test_opened.ensures.looks (fits g c) (some_vars_kept mid new c.in-Ok.vars c.open.ensures.touches c.in-Ok.ensures.fits) (held g c)
    (λ t. subst (λ (n : ℕ). ReadsBoth n (new.reads Disk) table) (sym (c.open.ensures.touches.continues.size Disk)) (c.in-Ok-open.ensures.both (before t)))
    (λ t. c.in-Ok-open.ensures.synced (before t))
    (λ t. flash_settled _ mid new (start t) (settled g c (start t)) c.open.ensures.touches)
    c.test_opened.ensures.table c.test_opened.ensures.vars c.test_opened.ensures.sane c.test_opened.ensures.sound

-- what is wrong is the reason
reason : (g : _) (c : goal.After-test_opened g) (kind : SoundKind) → (g.P.Plant.view c.args.plant.now).tells → c.test_opened.result ≡ Err (NotSound kind)
    → IsUnsound (g.P.Plant.view c.args.plant.now).size (g.P.Plant.view c.args.plant.now).reads kind
reason g c kind t is =
    let then = told g c t in
    unsound_settled _ _ (g.P.Plant.view c.open.new.plant) t (settled g c t) c.open.ensures.touches c.in-Ok-open.table kind (c.in-Ok-open.ensures.found then) (fits g c)
    (c.test_opened.ensures.unsound kind (c.open.ensures.touches.continues.still_tells then) is)

pub returns-in-Ok-open-clause-unsound : goal.returns-in-Ok-open-clause-unsound
returns-in-Ok-open-clause-unsound g c = reason g c

pub returns-in-Ok-open-clause-exact : goal.returns-in-Ok-open-clause-exact
returns-in-Ok-open-clause-exact g c = λ kind t unsound.
    let then = told g c t in
    let now = c.open.ensures.touches.continues.still_tells then in
    exactly (g.P.Plant.view c.args.plant.now).size (g.P.Plant.view c.args.plant.now).reads c.test_opened.result kind (λ k is. reason g c k t is)
    (sound_settled _ _ (g.P.Plant.view c.open.new.plant) t (settled g c t) c.open.ensures.touches c.in-Ok-open.table c.in-Ok.vars c.test_opened.result (c.in-Ok-open.ensures.found then) (fits g c) (held g c now)
    c.test_opened.ensures.vars (c.test_opened.ensures.sound now))
    unsound

pub returns-in-Err-NoTable-clause-opens : goal.returns-in-Err-NoTable-clause-opens
returns-in-Err-NoTable-clause-opens g c = λ t.
    opens_mended _ (g.P.Plant.view c.open_vars.new.plant) _ t
    (settled_look _ (g.P.Plant.view c.settle.new.plant) _ t
    (record { continues = c.settle.ensures.continues; reads = c.settle.ensures.reads t; unsynced = c.settle.ensures.unsynced t; crash = c.settle.ensures.crash t; between = c.settle.ensures.between t })
    (c.in_default.ensures.disk t) (c.in_default.ensures.flash t) c.in-Ok.ensures.looks)
    c.open.ensures.touches (g.met.P.Plant.honest c.open.new.plant) c.open.ensures.crash c.open.ensures.between

pub returns-in-Err-Fault-clause-opens : goal.returns-in-Err-Fault-clause-opens
returns-in-Err-Fault-clause-opens g c = λ t.
    opens_mended _ (g.P.Plant.view c.open_vars.new.plant) _ t
    (settled_look _ (g.P.Plant.view c.settle.new.plant) _ t
    (record { continues = c.settle.ensures.continues; reads = c.settle.ensures.reads t; unsynced = c.settle.ensures.unsynced t; crash = c.settle.ensures.crash t; between = c.settle.ensures.between t })
    (c.in_default.ensures.disk t) (c.in_default.ensures.flash t) c.in-Ok.ensures.looks)
    c.open.ensures.touches (g.met.P.Plant.honest c.open.new.plant) c.open.ensures.crash c.open.ensures.between

-- what the opening of the table leaves, and the tests behind it

pub returns-in-Ok-open-clause-settled : goal.returns-in-Ok-open-clause-settled
returns-in-Ok-open-clause-settled g c = λ t fault.
    let mid : View = g.P.Plant.view c.open_vars.new.plant in
    let new : View = g.P.Plant.view c.open.new.plant in
    let then = told g c t in
    let run = (c.test_opened.ensures.looks.told (c.open.ensures.touches.continues.still_tells then)).only in
    record {
      disk = λ s un. c.in-Ok-open.ensures.synced then s (run.unsynced.unsynced Disk s un);
      flash = λ s un. flash_settled _ mid new t (settled g c t) c.open.ensures.touches s (run.unsynced.unsynced Flash s un);
      moment = mid.moment;
      settled = settled_tested _ mid new t (settled g c t) c.open.ensures.touches c.in-Ok-open.table (c.in-Ok-open.ensures.found then) (c.in-Ok-open.ensures.both then) (c.in-Ok-open.ensures.synced then) _ mid.moment
          (settled_mended _ mid new t (settled g c t) c.open.ensures.touches c.open.ensures.crash) c.test_opened.ensures.looks;
    }

pub returns-in-Ok-open-clause-lesser : goal.returns-in-Ok-open-clause-lesser
returns-in-Ok-open-clause-lesser g c = λ t.
    let then = told g c t in
    lesser_look _ (g.P.Plant.view c.open.new.plant) _
    (lesser_opened (g.P.Plant.view c.args.plant.now) (g.P.Plant.view c.settle.new.plant) (g.P.Plant.view c.open_vars.new.plant) (g.P.Plant.view c.open.new.plant) t (record { continues = c.settle.ensures.continues; reads = c.settle.ensures.reads t; unsynced = c.settle.ensures.unsynced t; crash = c.settle.ensures.crash t; between = c.settle.ensures.between t }) (c.settle.ensures.writes t) c.in-Ok.ensures.looks (c.open.ensures.lesser then))
    (c.open.ensures.touches.continues.still_tells then) c.test_opened.ensures.looks

pub returns-in-Ok-open-clause-unwritten : goal.returns-in-Ok-open-clause-unwritten
returns-in-Ok-open-clause-unwritten g c = λ t none.
    let then = told g c t in
    nothing_then _ (g.P.Plant.view c.open.new.plant) _
    (none_unwritten (g.P.Plant.view c.args.plant.now) (g.P.Plant.view c.settle.new.plant) (g.P.Plant.view c.open_vars.new.plant) (g.P.Plant.view c.open.new.plant) t (record { continues = c.settle.ensures.continues; reads = c.settle.ensures.reads t; unsynced = c.settle.ensures.unsynced t; crash = c.settle.ensures.crash t; between = c.settle.ensures.between t }) (c.settle.ensures.writes t) c.in-Ok.ensures.looks (c.open.ensures.unwritten then) none)
    (nothing_look _ _ (c.open.ensures.touches.continues.still_tells then) c.test_opened.ensures.looks)

pub returns-in-Ok-open-clause-agreeing : goal.returns-in-Ok-open-clause-agreeing
returns-in-Ok-open-clause-agreeing g c = λ t table both.
    let then = told g c t in
    nothing_then _ (g.P.Plant.view c.open.new.plant) _
    (both_unwritten (g.P.Plant.view c.args.plant.now) (g.P.Plant.view c.settle.new.plant) (g.P.Plant.view c.open_vars.new.plant) (g.P.Plant.view c.open.new.plant) t (record { continues = c.settle.ensures.continues; reads = c.settle.ensures.reads t; unsynced = c.settle.ensures.unsynced t; crash = c.settle.ensures.crash t; between = c.settle.ensures.between t }) (c.settle.ensures.writes t) c.in-Ok.ensures.looks (c.open.ensures.agreeing then) table both)
    (nothing_look _ _ (c.open.ensures.touches.continues.still_tells then) c.test_opened.ensures.looks)

pub returns-in-Ok-open-clause-wears : goal.returns-in-Ok-open-clause-wears
returns-in-Ok-open-clause-wears g c = λ t.
    let then = told g c t in
    wears_look _ (g.P.Plant.view c.open.new.plant) _
    (wears_opened (g.P.Plant.view c.args.plant.now) (g.P.Plant.view c.settle.new.plant) (g.P.Plant.view c.open_vars.new.plant) (g.P.Plant.view c.open.new.plant) t (record { continues = c.settle.ensures.continues; reads = c.settle.ensures.reads t; unsynced = c.settle.ensures.unsynced t; crash = c.settle.ensures.crash t; between = c.settle.ensures.between t }) (c.settle.ensures.writes t) c.in-Ok.ensures.looks (c.open.ensures.wears then))
    (nothing_look _ _ (c.open.ensures.touches.continues.still_tells then) c.test_opened.ensures.looks)

pub returns-in-Err-NoTable-clause-lesser : goal.returns-in-Err-NoTable-clause-lesser
returns-in-Err-NoTable-clause-lesser g c = λ t.
    lesser_opened (g.P.Plant.view c.args.plant.now) (g.P.Plant.view c.settle.new.plant) (g.P.Plant.view c.open_vars.new.plant) (g.P.Plant.view c.open.new.plant) t (record { continues = c.settle.ensures.continues; reads = c.settle.ensures.reads t; unsynced = c.settle.ensures.unsynced t; crash = c.settle.ensures.crash t; between = c.settle.ensures.between t }) (c.settle.ensures.writes t) c.in-Ok.ensures.looks (c.open.ensures.lesser (c.in-Ok.ensures.looks.continues.still_tells (c.settle.ensures.continues.still_tells t)))

pub returns-in-Err-NoTable-clause-unwritten : goal.returns-in-Err-NoTable-clause-unwritten
returns-in-Err-NoTable-clause-unwritten g c = λ t none.
    none_unwritten (g.P.Plant.view c.args.plant.now) (g.P.Plant.view c.settle.new.plant) (g.P.Plant.view c.open_vars.new.plant) (g.P.Plant.view c.open.new.plant) t (record { continues = c.settle.ensures.continues; reads = c.settle.ensures.reads t; unsynced = c.settle.ensures.unsynced t; crash = c.settle.ensures.crash t; between = c.settle.ensures.between t }) (c.settle.ensures.writes t) c.in-Ok.ensures.looks (c.open.ensures.unwritten (c.in-Ok.ensures.looks.continues.still_tells (c.settle.ensures.continues.still_tells t))) none

pub returns-in-Err-NoTable-clause-agreeing : goal.returns-in-Err-NoTable-clause-agreeing
returns-in-Err-NoTable-clause-agreeing g c = λ t table both.
    both_unwritten (g.P.Plant.view c.args.plant.now) (g.P.Plant.view c.settle.new.plant) (g.P.Plant.view c.open_vars.new.plant) (g.P.Plant.view c.open.new.plant) t (record { continues = c.settle.ensures.continues; reads = c.settle.ensures.reads t; unsynced = c.settle.ensures.unsynced t; crash = c.settle.ensures.crash t; between = c.settle.ensures.between t }) (c.settle.ensures.writes t) c.in-Ok.ensures.looks (c.open.ensures.agreeing (c.in-Ok.ensures.looks.continues.still_tells (c.settle.ensures.continues.still_tells t))) table both

pub returns-in-Err-NoTable-clause-wears : goal.returns-in-Err-NoTable-clause-wears
returns-in-Err-NoTable-clause-wears g c = λ t.
    wears_opened (g.P.Plant.view c.args.plant.now) (g.P.Plant.view c.settle.new.plant) (g.P.Plant.view c.open_vars.new.plant) (g.P.Plant.view c.open.new.plant) t (record { continues = c.settle.ensures.continues; reads = c.settle.ensures.reads t; unsynced = c.settle.ensures.unsynced t; crash = c.settle.ensures.crash t; between = c.settle.ensures.between t }) (c.settle.ensures.writes t) c.in-Ok.ensures.looks (c.open.ensures.wears (c.in-Ok.ensures.looks.continues.still_tells (c.settle.ensures.continues.still_tells t)))

pub returns-in-Err-Fault-clause-lesser : goal.returns-in-Err-Fault-clause-lesser
returns-in-Err-Fault-clause-lesser g c = λ t.
    lesser_opened (g.P.Plant.view c.args.plant.now) (g.P.Plant.view c.settle.new.plant) (g.P.Plant.view c.open_vars.new.plant) (g.P.Plant.view c.open.new.plant) t (record { continues = c.settle.ensures.continues; reads = c.settle.ensures.reads t; unsynced = c.settle.ensures.unsynced t; crash = c.settle.ensures.crash t; between = c.settle.ensures.between t }) (c.settle.ensures.writes t) c.in-Ok.ensures.looks (c.open.ensures.lesser (c.in-Ok.ensures.looks.continues.still_tells (c.settle.ensures.continues.still_tells t)))

pub returns-in-Err-Fault-clause-unwritten : goal.returns-in-Err-Fault-clause-unwritten
returns-in-Err-Fault-clause-unwritten g c = λ t none.
    none_unwritten (g.P.Plant.view c.args.plant.now) (g.P.Plant.view c.settle.new.plant) (g.P.Plant.view c.open_vars.new.plant) (g.P.Plant.view c.open.new.plant) t (record { continues = c.settle.ensures.continues; reads = c.settle.ensures.reads t; unsynced = c.settle.ensures.unsynced t; crash = c.settle.ensures.crash t; between = c.settle.ensures.between t }) (c.settle.ensures.writes t) c.in-Ok.ensures.looks (c.open.ensures.unwritten (c.in-Ok.ensures.looks.continues.still_tells (c.settle.ensures.continues.still_tells t))) none

pub returns-in-Err-Fault-clause-agreeing : goal.returns-in-Err-Fault-clause-agreeing
returns-in-Err-Fault-clause-agreeing g c = λ t table both.
    both_unwritten (g.P.Plant.view c.args.plant.now) (g.P.Plant.view c.settle.new.plant) (g.P.Plant.view c.open_vars.new.plant) (g.P.Plant.view c.open.new.plant) t (record { continues = c.settle.ensures.continues; reads = c.settle.ensures.reads t; unsynced = c.settle.ensures.unsynced t; crash = c.settle.ensures.crash t; between = c.settle.ensures.between t }) (c.settle.ensures.writes t) c.in-Ok.ensures.looks (c.open.ensures.agreeing (c.in-Ok.ensures.looks.continues.still_tells (c.settle.ensures.continues.still_tells t))) table both

pub returns-in-Err-Fault-clause-wears : goal.returns-in-Err-Fault-clause-wears
returns-in-Err-Fault-clause-wears g c = λ t.
    wears_opened (g.P.Plant.view c.args.plant.now) (g.P.Plant.view c.settle.new.plant) (g.P.Plant.view c.open_vars.new.plant) (g.P.Plant.view c.open.new.plant) t (record { continues = c.settle.ensures.continues; reads = c.settle.ensures.reads t; unsynced = c.settle.ensures.unsynced t; crash = c.settle.ensures.crash t; between = c.settle.ensures.between t }) (c.settle.ensures.writes t) c.in-Ok.ensures.looks (c.open.ensures.wears (c.in-Ok.ensures.looks.continues.still_tells (c.settle.ensures.continues.still_tells t)))

pub returns-in-Err-NoTable-clause-settled : goal.returns-in-Err-NoTable-clause-settled
returns-in-Err-NoTable-clause-settled g c = λ t fault.
    let mid : View = g.P.Plant.view c.open_vars.new.plant in
    let new : View = g.P.Plant.view c.open.new.plant in
    let then = c.in-Ok.ensures.looks.continues.still_tells (c.settle.ensures.continues.still_tells t) in
    let synced = settled_look (g.P.Plant.view c.args.plant.now) (g.P.Plant.view c.settle.new.plant) mid t
    (record { continues = c.settle.ensures.continues; reads = c.settle.ensures.reads t; unsynced = c.settle.ensures.unsynced t; crash = c.settle.ensures.crash t; between = c.settle.ensures.between t })
    (c.in_default.ensures.disk t) (c.in_default.ensures.flash t) c.in-Ok.ensures.looks in
    let only = c.open.ensures.unwritten then (c.open.ensures.none then (c.in-Err-NoTable.is ∙ ap Err c.in-Err-NoTable.field-0-is)) in
    record {
      disk = λ s un. synced.disk s (only.unsynced.unsynced Disk s un);
      flash = λ s un. synced.flash s (only.unsynced.unsynced Flash s un);
      moment = mid.moment;
      settled = settled_mended _ mid new t synced c.open.ensures.touches c.open.ensures.crash;
    }
