use Rattle.std.proofs.Common.{◌≡◌, ◌≤◌, List, ℕ, subst, ap, sym, ◌∙◌}
use Rattle.std.specs.Prelude.{map}
use Rattle.std.proofs.lemmas.List.{length-reverse}
use Rattle.sh_expand.specs.declared.item.Item.{Item as Found}
use Rattle.sh_expand.specs.Pattern.{Pieces, Text, Item, items_of}
use Rattle.sh_expand.specs.CutEnd.{IsCutEnd, NoCutEnd}
use Rattle.sh_expand.specs.Reading.{item_of}
use Rattle.sh_expand.proofs.Sides.{cut_within, end_cut, no_end}
use Rattle.sh_expand.proofs.cut.cut_end.Goals as goal

read : {a b : List Found} {p q : Pieces} → a ≡ b → map item_of b ≡ items_of p → p ≡ q → map item_of a ≡ items_of q
read e f g = ap (λ is. map item_of is) e ∙ f ∙ ap items_of g

pub split_at-requires : goal.split_at-requires
split_at-requires c = subst (λ (n : ℕ). c.in-Some.size ≤ n) (length-reverse c.args.text.now) (cut_within _ _ _ _ c.in-Some.ensures)

pub returns-in_default : goal.returns-in_default
returns-in_default c =
    subst (λ (is : List Item). NoCutEnd is c.args.text.now) (read c.as_slice-2.ensures.value c.in_ok-items.ensures c.as_slice.ensures)
    (no_end (map item_of c.as_slice-2.result.now) c.args.text.now c.in_default.ensures)

pub returns : goal.returns
returns c =
    subst (λ (is : List Item). IsCutEnd is c.args.text.now c.args.longest c.split_at.result.0.now) (read c.as_slice-2.ensures.value c.in_ok-items.ensures c.as_slice.ensures)
    (subst (λ (x : Text). IsCutEnd (map item_of c.as_slice-2.result.now) c.args.text.now c.args.longest x) (sym c.split_at.ensures.front)
    (end_cut (map item_of c.as_slice-2.result.now) c.args.text.now c.args.longest c.in-Some.size c.in-Some.ensures))
