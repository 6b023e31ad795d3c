use Rattle.std.proofs.Common.{◌+◌, length, refl, subst, arith}
use Rattle.bd_dev.specs.Runs.{WritesAtMost}
use Rattle.bd_dev.proofs.Joins.{writes_none, writes_then, writes_wider}
use Rattle.bd_dev.proofs.Touch.{touch_now}
use Rattle.slot_pair.specs.Body.{used_sectors}
use Rattle.slot_pair.specs.Pair.{Pair}
use Rattle.slot_pair.proofs.Puts.{closing_few, closing_puts, filling_bytes, filling_few, filling_puts, filling_stores, puts_nothing}
use Rattle.slot_pair.proofs.pair.SlotPair.put.Goals as goal

pub returns-then-is_too_long-clause-puts : goal.returns-then-is_too_long-clause-puts
returns-then-is_too_long-clause-puts g c = puts_nothing _ _ _ _ c.requires.some (g.met.P.Plant.honest c.args.plant.now) c.requires.synced

pub returns-then-is_last-clause-puts : goal.returns-then-is_last-clause-puts
returns-then-is_last-clause-puts g c = puts_nothing _ _ _ _ c.requires.some (g.met.P.Plant.honest c.args.plant.now) c.requires.synced

pub returns-in_err-close_gate-clause-puts : goal.returns-in_err-close_gate-clause-puts
returns-in_err-close_gate-clause-puts g c =
    closing_puts _ _ _ c.self.view_is _ _ c.requires.some _ _ c.requires.synced c.requires.fits c.other_gate-gate.ensures c.close_gate.ensures.touches c.close_gate.ensures.unwritten

pub returns-in_err-fill_slot-clause-puts : goal.returns-in_err-fill_slot-clause-puts
returns-in_err-fill_slot-clause-puts g c =
    filling_puts _ _ _ c.self.view_is _ _ c.requires.some _ _ c.requires.synced c.requires.fits c.other_gate-gate.ensures c.close_gate.ensures.touches c.close_gate.ensures.unwritten
    _ c.fill_slot.ensures.touches c.fill_slot.ensures.crash

pub returns-clause-puts : goal.returns-clause-puts
returns-clause-puts g c =
    filling_puts _ _ _ c.self.view_is _ _ c.requires.some _ _ c.requires.synced c.requires.fits c.other_gate-gate.ensures c.close_gate.ensures.touches c.close_gate.ensures.unwritten
    _ c.fill_slot.ensures.touches c.fill_slot.ensures.crash

pub returns-clause-stored : goal.returns-clause-stored
returns-clause-stored g c =
    filling_stores _ _ _ c.self.view_is _ _ c.requires.some _ _ c.requires.synced c.requires.fits c.other_gate-gate.ensures c.close_gate.ensures.touches c.close_gate.ensures.unwritten
    _ c.fill_slot.ensures.touches c.fill_slot.ensures.crash c.in_ok-fill_slot.ensures.filled c.in_ok-fill_slot.ensures.synced

pub returns-then-is_too_long-clause-few : goal.returns-then-is_too_long-clause-few
returns-then-is_too_long-clause-few g c = touch_now _ _ _ _ (g.met.P.Plant.honest c.args.plant.now)

pub returns-then-is_last-clause-few : goal.returns-then-is_last-clause-few
returns-then-is_last-clause-few g c = touch_now _ _ _ _ (g.met.P.Plant.honest c.args.plant.now)

pub returns-in_err-close_gate-clause-few : goal.returns-in_err-close_gate-clause-few
returns-in_err-close_gate-clause-few g c =
    closing_few _ _ _ c.self.view_is c.args.content.now _ c.requires.some _ _ c.requires.synced c.requires.fits c.other_gate-gate.ensures c.close_gate.ensures.touches c.close_gate.ensures.unwritten _

pub returns-in_err-fill_slot-clause-few : goal.returns-in_err-fill_slot-clause-few
returns-in_err-fill_slot-clause-few g c =
    filling_few _ _ _ c.self.view_is c.args.content.now _ c.requires.some _ _ c.requires.synced c.requires.fits c.other_gate-gate.ensures c.close_gate.ensures.touches c.close_gate.ensures.unwritten _
    _ c.fill_slot.ensures.few

pub returns-clause-few : goal.returns-clause-few
returns-clause-few g c =
    filling_few _ _ _ c.self.view_is c.args.content.now _ c.requires.some _ _ c.requires.synced c.requires.fits c.other_gate-gate.ensures c.close_gate.ensures.touches c.close_gate.ensures.unwritten _
    _ c.fill_slot.ensures.few

pub returns-clause-bytes : goal.returns-clause-bytes
returns-clause-bytes g c = λ tells.
    filling_bytes _ _ _ c.self.view_is c.args.content.now _ c.requires.some _ _ c.requires.synced c.requires.fits c.other_gate-gate.ensures c.close_gate.ensures.touches c.close_gate.ensures.unwritten (g.P.Plant.view c.fill_slot.new.plant)
    (c.in_ok-fill_slot.ensures.bytes (c.close_gate.ensures.touches.continues.still_tells tells))

pub returns-then-is_too_long-clause-wears : goal.returns-then-is_too_long-clause-wears
returns-then-is_too_long-clause-wears g c = λ tells. writes_none _ _ _ _ refl

pub returns-then-is_last-clause-wears : goal.returns-then-is_last-clause-wears
returns-then-is_last-clause-wears g c = λ tells. writes_none _ _ _ _ refl

pub returns-in_err-close_gate-clause-wears : goal.returns-in_err-close_gate-clause-wears
returns-in_err-close_gate-clause-wears g c = λ tells.
    let most = used_sectors (length c.args.content.now) + 2 in
    subst (λ (p : Pair). WritesAtMost p.area most (g.P.Plant.view c.args.plant.now) (g.P.Plant.view c.close_gate.new.plant)) c.self.view_is (writes_wider _ 1 most _ _ (omega arith) (c.close_gate.ensures.wears tells))

pub returns-in_err-fill_slot-clause-wears : goal.returns-in_err-fill_slot-clause-wears
returns-in_err-fill_slot-clause-wears g c = λ tells.
    let used = used_sectors (length c.args.content.now) in
    subst (λ (p : Pair). WritesAtMost p.area (used + 2) (g.P.Plant.view c.args.plant.now) (g.P.Plant.view c.fill_slot.new.plant)) c.self.view_is
    (writes_wider _ (1 + (used + 1)) (used + 2) _ _ (omega arith) (writes_then _ 1 (used + 1) _ _ _ (c.close_gate.ensures.wears tells) (c.fill_slot.ensures.wears (c.close_gate.ensures.touches.continues.still_tells tells))))

pub returns-clause-wears : goal.returns-clause-wears
returns-clause-wears g c = λ tells.
    let used = used_sectors (length c.args.content.now) in
    subst (λ (p : Pair). WritesAtMost p.area (used + 2) (g.P.Plant.view c.args.plant.now) (g.P.Plant.view c.fill_slot.new.plant)) c.self.view_is
    (writes_wider _ (1 + (used + 1)) (used + 2) _ _ (omega arith) (writes_then _ 1 (used + 1) _ _ _ (c.close_gate.ensures.wears tells) (c.fill_slot.ensures.wears (c.close_gate.ensures.touches.continues.still_tells tells))))
