use Rattle.std.proofs.Common.{map, ap, sym, ◌∙◌}
use Rattle.bd_dev.specs.Rows.{in_order}
use Rattle.bd_dev.proofs.Ordering.{in_order-ordered, ordered-in_order}
use Rattle.list_net.specs.Rows.{row_of}
use Rattle.list_net.proofs.list_feeds.ListFeeds.new.Goals as goal

pub invariant_of-result : goal.invariant_of-result
invariant_of-result c =
    let rows = map row_of c.args.rows.items in
    let is = c.in_ok-ordered.ensures in
    ap in_order is ∙ (in_order-ordered (in_order rows) (ordered-in_order rows) ∙ sym is)
