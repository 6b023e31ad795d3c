use Rattle.std.proofs.Common.{◌∙◌, ap, sym, ◌∷◌}
use Rattle.sh_expand.specs.Pattern.{items_of, items_from}
use Rattle.sh_expand.specs.Reading.{item_of}
use Rattle.sh_expand.proofs.Items.{items_past}
use Rattle.sh_expand.proofs.item.first_item.Goals as goal

pub returns-clause-found : goal.returns-clause-found
returns-clause-found c =
    ap items_of c.in_ok-piece.ensures
    ∙ ap (λ i. i.0 ∷ items_from i.1 c.in_ok-piece.rest.now) (sym c.item_at-taken.ensures.item)
    ∙ ap (λ is. item_of c.item_at-taken.result.0 ∷ is) (items_past c.item_at-taken.result.1 c.in_ok-piece.rest.now ∙ ap items_of (sym c.split_at.ensures.back))
