-- What the flash keeps, by the pair that was opened, and after a run that only reads.
use Rattle.std.proofs.Common.{◌≡◌, Bool, false, cond, nat_lt, Some, None, sym, ◌∙◌, ap, arith}
use Rattle.std.proofs.lemmas.Bool.{le-ltb}
use Rattle.bd_dev.specs.declared.plant.Area.TheVariants.{Flash}
use Rattle.bd_dev.specs.Plant.{View}
use Rattle.bd_dev.specs.Runs.{Looks}
use Rattle.slot_pair.proofs.Pairs.{fits_then}
use Rattle.boot_vars.specs.Vars.{FitsVars, Vars}
use Rattle.slot_pair.specs.Pair.{Fits, Pair}
use Rattle.slot_model.specs.Slots.{Stored, current}
use Rattle.storage_model.specs.Variables.{kept_in}

pub kept : (old mid : View) (pair : Pair) (s : Stored) → Looks old mid → old.tells → Fits 16 mid pair → pair.area ≡ Flash → pair.base ≡ 0
    → current 16 (mid.reads pair.area) pair.base ≡ Some s → kept_in (old.size Flash) (old.reads Flash) ≡ Some s
kept old mid pair s looks tells fits area base is =
    let same = (looks.told tells).only.reads in
    let size : mid.size pair.area ≡ old.size Flash = ap mid.size area ∙ looks.continues.size Flash in
    let room : nat_lt (old.size Flash) 34 ≡ false = le-ltb (old.size Flash) 34 (omega (arith, fits.room, size, base)) in
    ap (λ (b : Bool). cond b None (current 16 (old.reads Flash) 0)) room
    ∙ (λ i. current 16 (sym same i (sym area i)) (sym base i)) ∙ is

-- a run that only reads leaves the variables as they are
pub fits_vars_then : (old new : View) (vars : Vars) → Looks old new → FitsVars old vars → FitsVars new vars
fits_vars_then old new vars looks fits = record {
  pair = fits_then 16 old new vars.pair looks fits.pair;
  area = fits.area;
  base = fits.base;
  kept = λ tells.
      let told = looks.continues.tells tells in
      (λ i. kept_in (looks.continues.size Flash i) ((looks.told told).only.reads i Flash)) ∙ fits.kept told;
}
