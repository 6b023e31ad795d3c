use Rattle.std.proofs.Common.{map, ap, sym, ◌∙◌, arith}
use Rattle.std.specs.List.{filter}
use Rattle.std.proofs.lemmas.List.{length-map, take_all}
use Rattle.arrival_player.specs.Spots.{timed_of}
use Rattle.bd_dev.specs.Rows.{is_for, timed_of as timed_row}
use Rattle.list_net.specs.Rows.{arrival_at, row_of}
use Rattle.list_net.proofs.Reading.{row_at}
use Rattle.list_net.proofs.Spotting.{filter-pass, spots_more}
use Rattle.list_net.proofs.list_feeds.spots_of.Goals.{then-is_for+in_ok-push, else-is_for}
use Rattle.list_net.proofs.list_feeds.spots_of.Goals as goal

pub loop-feed-preserved : goal.loop-feed-preserved
loop-feed-preserved c =
    let rows = map row_of c.args.rows.now in
    let p = is_for c.args.round c.args.label.now in
    let row = row_of c.index-rows-feed.result in
    let here = row_at c.args.rows.now c.loop-feed.feed c.index-rows-feed.result c.loop-feed-test.true c.index-rows-feed.is in
    elim c.if-is_for.branch [
      | then-is_for+in_ok-push w ↦ spots_more rows p c.loop-feed.spots.items c.if-is_for.spots.items c.loop-feed.feed row here (sym c.is_for.ensures ∙ w.if-is_for.true) (ap (λ v. v.items) w.spots-is ∙ w.in_ok-push.ensures) c.loop-feed.invariant
      | else-is_for w ↦ ap (λ v. map (timed_of (arrival_at rows)) v.items) w.spots-is ∙ (c.loop-feed.invariant ∙ sym (ap (map timed_row) (filter-pass p rows c.loop-feed.feed row here (sym c.is_for.ensures ∙ w.if-is_for.false))))
    ]

pub returns : goal.returns
returns c =
    let rows = map row_of c.args.rows.now in
    let p = is_for c.args.round c.args.label.now in
    let long = length-map c.args.rows.now row_of in
    let end = c.loop-feed-test.false in
    c.loop-feed.invariant ∙ ap (λ xs. map timed_row (filter p xs)) (take_all c.loop-feed.feed rows (omega (arith, long, end)))
