use Rattle.std.proofs.Common.{◌≡◌, Bool, false, length, nat_eq, sym, ◌∙◌, ap, ◌&&◌, arith}
use Rattle.std.proofs.lemmas.Bool.Decides.{nat_tests}
use Rattle.bd_sim.specs.Journal.{after_each, same_area, start}
use Rattle.bd_sim.proofs.Picking.{IsPicked-outside, IsPicked-put}
use Rattle.bd_sim.proofs.image.put_pick.Goals as goal

pub returns-then-lba-out : goal.returns-then-lba-out
returns-then-lba-out c = λ disk flash picks first before.
    IsPicked-put ((after_each (start disk flash) c.args.old.now).reads c.args.area) ((after_each (start disk flash) c.args.new.now).reads c.args.area) picks c.args.area (length c.args.first.now) c.args.picked c.args.out.now before
    c.put_sector.new.out (sym c.is_same.ensures ∙ c.if-is_same.true) c.put_sector.auto.out
    (λ k lt. c.put_sector.ensures.put k lt ∙ c.picked_sector-sector.ensures.bytes disk flash first k lt)
    c.put_sector.ensures.below c.put_sector.ensures.above

pub returns-else-lba-out : goal.returns-else-lba-out
returns-else-lba-out c = λ disk flash picks first before.
    IsPicked-outside ((after_each (start disk flash) c.args.old.now).reads c.args.area) ((after_each (start disk flash) c.args.new.now).reads c.args.area) picks c.args.area (length c.args.first.now) c.args.picked c.args.out.now before
    (λ s lt. let far : nat_eq c.args.picked.1 s ≡ false = grind (arith, nat_tests, lt, c.if-lba-out.false, c.requires) in
    ap (λ (b : Bool). same_area c.args.picked.0 c.args.area && b) far ∙ none (same_area c.args.picked.0 c.args.area))
  where
    none : (b : Bool) → (b && false) ≡ false
    none b = grind arith

pub returns-else-is_same : goal.returns-else-is_same
returns-else-is_same c = λ disk flash picks first before.
    IsPicked-outside ((after_each (start disk flash) c.args.old.now).reads c.args.area) ((after_each (start disk flash) c.args.new.now).reads c.args.area) picks c.args.area (length c.args.first.now) c.args.picked c.args.out.now before
    (λ s lt. ap (λ (b : Bool). b && nat_eq c.args.picked.1 s) (sym c.is_same.ensures ∙ c.if-is_same.false))
