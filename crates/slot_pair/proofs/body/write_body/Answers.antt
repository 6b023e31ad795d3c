use Rattle.std.proofs.Common.{◌≡◌, ◌+◌, ◌*◌, ◌++◌, List, ℕ, get_or, length, ◌∙◌, ap, arith}
use Rattle.bd_dev.specs.Content.{Image}
use Rattle.bd_dev.proofs.Joins.{writes_none, writes_then, writes_wider}
use Rattle.bd_dev.proofs.Touch.{touch_any, touch_then, touch_wider}
use Rattle.slot_model.specs.Slots.{body}
use Rattle.slot_pair.specs.Body.{body_bytes}
use Rattle.slot_pair.proofs.Bodies.{whole_body, written_more}
use Rattle.slot_pair.proofs.body.write_body.Goals as goal

pub returns-in_err-write_sectors-clause-touches : goal.returns-in_err-write_sectors-clause-touches
returns-in_err-write_sectors-clause-touches g c =
    touch_then _ _ _ _ _ _ c.sectors.invariant.touches (touch_wider _ _ _ _ _ _ _ (omega arith) (omega (arith, c.body_sector-sector.ensures.size)) c.write_sectors.ensures.touches)

pub sectors-preserved : goal.sectors-preserved
sectors-preserved g c = record {
  touches = touch_then _ _ _ _ _ _ c.sectors.invariant.touches (touch_wider _ _ _ _ _ _ _ (omega arith) (omega (arith, c.body_sector-sector.ensures.size)) c.write_sectors.ensures.touches);
  few = touch_then _ _ _ _ _ _ c.sectors.invariant.few (touch_wider _ _ _ _ _ _ _ (omega arith) (omega (arith, c.body_sector-sector.ensures.size)) c.write_sectors.ensures.touches);
  wears = λ tells.
      let now = c.sectors.invariant.touches.continues.still_tells tells in
      writes_wider _ _ _ _ _ (omega (arith, c.body_sector-sector.ensures.size)) (writes_then _ _ _ _ _ _ (c.sectors.invariant.wears tells) (c.write_sectors.ensures.wears now));
  quiet = c.in_ok-write_sectors.ensures.cause.quiet ∙ c.sectors.invariant.quiet;
  written = λ tells.
      let now = c.sectors.invariant.touches.continues.still_tells tells in
      let long : length c.body_sector-sector.result ≡ 512 = c.body_sector-sector.ensures.size in
      written_more _ _ _ _ (body_bytes c.args.number c.args.content.now) c.body_sector-sector.result (g.P.Plant.view c.sectors.plant).reads (g.P.Plant.view c.write_sectors.new.plant).reads (omega arith) long (c.sectors.invariant.written tells) (c.write_sectors.ensures.touches.told now).reads (c.in_ok-write_sectors.ensures.bytes now)
      (λ k lt. c.body_sector-sector.ensures.bytes k lt ∙ ap (λ (head : List ℕ). get_or (head ++ c.args.content.now) (512 * c.sectors.index + k) 0) c.body_head-head.ensures);
}

pub returns-in_err-sync_area-clause-touches : goal.returns-in_err-sync_area-clause-touches
returns-in_err-sync_area-clause-touches g c = touch_then _ _ _ _ _ _ c.sectors.invariant.touches (touch_any _ _ _ _ _ _ c.sync_area.ensures.touches)

pub returns-clause-touches : goal.returns-clause-touches
returns-clause-touches g c = touch_then _ _ _ _ _ _ c.sectors.invariant.touches (touch_any _ _ _ _ _ _ c.sync_area.ensures.touches)

pub returns-clause-body : goal.returns-clause-body
returns-clause-body g c = λ tells.
    let now = c.sectors.invariant.touches.continues.still_tells tells in
    ap (λ (z : Image). body c.args.sectors (z c.args.area) c.args.gate) (c.sync_area.ensures.reads now)
    ∙ whole_body _ _ _ _ _ (512 * c.sectors.index) c.requires.short c.requires.few (omega arith) (omega arith) (c.sectors.invariant.written tells)

pub returns-in_err-write_sectors-clause-few : goal.returns-in_err-write_sectors-clause-few
returns-in_err-write_sectors-clause-few g c =
    touch_then _ _ _ _ _ _ c.sectors.invariant.few (touch_wider _ _ _ _ _ _ _ (omega arith) (omega (arith, c.body_sector-sector.ensures.size)) c.write_sectors.ensures.touches)

pub returns-in_err-sync_area-clause-few : goal.returns-in_err-sync_area-clause-few
returns-in_err-sync_area-clause-few g c = touch_then _ _ _ _ _ _ c.sectors.invariant.few (touch_any _ _ _ _ _ _ c.sync_area.ensures.touches)

pub returns-clause-few : goal.returns-clause-few
returns-clause-few g c = touch_then _ _ _ _ _ _ c.sectors.invariant.few (touch_any _ _ _ _ _ _ c.sync_area.ensures.touches)

pub returns-clause-bytes : goal.returns-clause-bytes
returns-clause-bytes g c = λ tells.
    let now = c.sectors.invariant.touches.continues.still_tells tells in
    λ k lt. ap (λ (z : Image). z c.args.area (512 * (c.args.gate + 1) + k)) (c.sync_area.ensures.reads now) ∙ c.sectors.invariant.written tells k (omega arith)

pub returns-in_err-write_sectors-clause-wears : goal.returns-in_err-write_sectors-clause-wears
returns-in_err-write_sectors-clause-wears g c = λ tells.
    let now = c.sectors.invariant.touches.continues.still_tells tells in
    writes_wider _ _ _ _ _ (omega (arith, c.body_sector-sector.ensures.size)) (writes_then _ _ _ _ _ _ (c.sectors.invariant.wears tells) (c.write_sectors.ensures.wears now))

pub returns-in_err-sync_area-clause-wears : goal.returns-in_err-sync_area-clause-wears
returns-in_err-sync_area-clause-wears g c = λ tells.
    let now = c.sectors.invariant.touches.continues.still_tells tells in
    writes_wider _ _ _ _ _ (omega arith) (writes_then _ _ _ _ _ _ (c.sectors.invariant.wears tells) (writes_none _ 0 _ _ (c.sync_area.ensures.wears now)))

pub returns-clause-wears : goal.returns-clause-wears
returns-clause-wears g c = λ tells.
    let now = c.sectors.invariant.touches.continues.still_tells tells in
    writes_wider _ _ _ _ _ (omega arith) (writes_then _ _ _ _ _ _ (c.sectors.invariant.wears tells) (writes_none _ 0 _ _ (c.sync_area.ensures.wears now)))
