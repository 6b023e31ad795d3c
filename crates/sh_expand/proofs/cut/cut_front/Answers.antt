use Rattle.std.proofs.Common.{sym, subst}
use Rattle.sh_expand.specs.Pattern.{Pieces, Text, items_of}
use Rattle.sh_expand.specs.Cut.{IsCut}
use Rattle.sh_expand.proofs.Sides.{cut_within, front_cut}
use Rattle.sh_expand.proofs.cut.cut_front.Goals as goal

pub overflow_sub-text : goal.overflow_sub-text
overflow_sub-text c = cut_within _ _ _ _ c.in_ok-size.ensures

pub returns : goal.returns
returns c =
    subst (λ (p : Pieces). IsCut (items_of p) c.args.text.now c.args.longest c.split_at.result.1.now) c.as_slice.ensures
    (subst (λ (x : Text). IsCut (items_of c.as_slice.result.now) c.args.text.now c.args.longest x) (sym c.split_at.ensures.back) (front_cut _ _ _ _ c.in_ok-size.ensures))
