use Rattle.std.proofs.Common.{◌≡◌, List, map, filter, sym, subst, ◌∙◌}
use Rattle.arrival_player.specs.Spots.{timed_of}
use Rattle.bd_dev.specs.Rows.{Row, arrivals, is_for, timed_of as timed_row}
use Rattle.bd_dev.proofs.Ordering.{AreOrdered, arrivals-from_ordered, ordered-in_order}
use Rattle.list_net.specs.declared.list_row.ListRow.{ListRow}
use Rattle.list_net.specs.Rows.{arrival_at, row_of}
use Rattle.list_net.proofs.list_feeds.ListFeedsFeeds.spots.Goals as goal

pub returns : goal.returns
returns c =
    let p = is_for c.args.round c.args.label.now in
    let spots = c.in_ok-spots.spots.items in
    let ordered : AreOrdered (map row_of c.self.inside.rows.items) = subst AreOrdered c.self.invariant (ordered-in_order (map row_of c.self.inside.rows.items)) in
    let mine = subst (λ (rows : List ListRow). map (timed_of (arrival_at (map row_of rows))) spots ≡ map timed_row (filter p (map row_of rows))) c.deref.ensures.value c.in_ok-spots.ensures in
    subst (λ (rows : List Row). map (timed_of (arrival_at rows)) spots ≡ arrivals rows c.args.round c.args.label.now) c.self.view_is
    (mine ∙ sym (arrivals-from_ordered (map row_of c.self.inside.rows.items) c.args.round c.args.label.now ordered))
