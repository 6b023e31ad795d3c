use Rattle.std.proofs.Common.{◌≡◌, Bool, Some, true, false, refl, sym, ◌∙◌, subst, length}
use Rattle.sh_expand.specs.Scan.{items_in, text_in, spot, CutsTo}
use Rattle.sh_expand.proofs.Fronts.{starts, keeps_star, keeps_byte, keeps_stuck, keeps_end, shortest, longest_end, no_more}
use Rattle.sh_expand.proofs.Scans.{sized_start, sized_star, sized_byte, sized_later}
use Rattle.sh_expand.proofs.Sides.{text_length}
use Rattle.sh_expand.proofs.cut.cut.Goals as goal

pub scan-init : goal.scan-init
scan-init c = (starts _ _ _ refl refl, sized_start _, λ _. refl)

pub scan-preserved-in-Star : goal.scan-preserved-in-Star
scan-preserved-in-Star c = (keeps_star _ _ _ _ _ _ c.scan.invariant.0 c.in-Star.ensures, (sized_star _ _ _ _ _ c.scan.invariant.1 c.in-Star.ensures).0, c.scan.invariant.2)

pub scan-smaller-in-Star : goal.scan-smaller-in-Star
scan-smaller-in-Star c = (sized_star _ _ _ _ _ c.scan.invariant.1 c.in-Star.ensures).1

pub scan-preserved-in-Byte : goal.scan-preserved-in-Byte
scan-preserved-in-Byte c = (keeps_byte _ _ _ _ _ _ c.scan.invariant.0 c.in-Byte.ensures, (sized_byte _ _ _ _ _ c.scan.invariant.1 c.in-Byte.ensures).0, c.scan.invariant.2)

pub scan-smaller-in-Byte : goal.scan-smaller-in-Byte
scan-smaller-in-Byte c = (sized_byte _ _ _ _ _ c.scan.invariant.1 c.in-Byte.ensures).1

pub returns-then-not-longest : goal.returns-then-not-longest
returns-then-not-longest c =
    subst (λ (b : Bool). CutsTo (items_in c.args.items) (text_in c.args.items c.args.text.now) b (Some (length c.scan.here.text.now))) (sym c.if-not-longest.true)
    ((spot c.scan.here).text, shortest _ _ _ _ _ c.scan.invariant.0 c.in-End.ensures.items (c.scan.invariant.2 c.if-not-longest.true), text_length c.scan.here.items c.scan.here.text.now)

pub returns-in_default : goal.returns-in_default
returns-in_default c =
    subst (λ (b : Bool). CutsTo (items_in c.args.items) (text_in c.args.items c.args.text.now) b (Some (length c.scan.here.text.now))) (sym c.if-not-longest.false)
    ((spot c.scan.here).text, longest_end _ _ _ _ _ c.scan.invariant.0 c.in-End.ensures.items c.in_default.ensures, text_length c.scan.here.items c.scan.here.text.now)

pub scan-preserved-in-End : goal.scan-preserved-in-End
scan-preserved-in-End c = (
  keeps_end _ _ _ _ _ c.scan.invariant.0 c.in-End.ensures.items _ _ (sym (text_length c.scan.here.items c.scan.here.text.now)) c.in-Some.ensures,
  (sized_later _ _ _ _ _ c.scan.invariant.1 c.in-Some.ensures).0,
  λ e. let f : true ≡ false = sym c.if-not-longest.false ∙ e in cc,
)

pub scan-smaller-in-End : goal.scan-smaller-in-End
scan-smaller-in-End c = (sized_later _ _ _ _ _ c.scan.invariant.1 c.in-Some.ensures).1

pub returns-in_default-later : goal.returns-in_default-later
returns-in_default-later c = no_more _ _ _ _ _ _ c.scan.invariant.2 c.scan.invariant.0 c.in-Stuck.ensures.front c.in_default-later.ensures

pub scan-preserved : goal.scan-preserved
scan-preserved c =
    (keeps_stuck _ _ _ _ _ _ c.scan.invariant.0 c.in-Stuck.ensures.front c.in-Some-later.ensures, (sized_later _ _ _ _ _ c.scan.invariant.1 c.in-Some-later.ensures).0, c.scan.invariant.2)

pub scan-smaller : goal.scan-smaller
scan-smaller c = (sized_later _ _ _ _ _ c.scan.invariant.1 c.in-Some-later.ensures).1
