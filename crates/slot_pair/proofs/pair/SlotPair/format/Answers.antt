use Rattle.std.proofs.Common.{◌+◌, inr, length, true, false, refl, ◌∙◌, arith}
use Rattle.bd_dev.proofs.Joins.{looks_now, writes_none, writes_then, writes_wider}
use Rattle.slot_pair.specs.Body.{used_sectors}
use Rattle.slot_pair.proofs.Alone.{alone_closing, alone_format, alone_look, shut_after}
use Rattle.slot_pair.proofs.Frames.{gate_frame}
use Rattle.slot_pair.proofs.Formats.{format_stored, formats_filling, formats_nothing}
use Rattle.slot_pair.proofs.pair.SlotPair.format.Goals as goal

pub returns-then-is_too_long-clause-formats : goal.returns-then-is_too_long-clause-formats
returns-then-is_too_long-clause-formats g c = formats_nothing _ _ _ _ c.requires.some _ (g.met.P.Plant.honest c.args.plant.now) c.requires.synced

pub fill_slot-requires-clause-closed : goal.fill_slot-requires-clause-closed
fill_slot-requires-clause-closed g c = λ now. c.in_ok-close_slots.ensures.closed (c.close_slots.ensures.touches.continues.tells now) false

pub returns-in_err-fill_slot-clause-formats : goal.returns-in_err-fill_slot-clause-formats
returns-in_err-fill_slot-clause-formats g c =
    formats_filling _ _ _ _ c.requires.some _ _ c.close_slots.ensures.touches c.close_slots.ensures.crash
    _ c.in_ok-close_slots.ensures.closed c.in_ok-close_slots.ensures.synced c.fill_slot.ensures.touches c.fill_slot.ensures.crash

pub returns-clause-formats : goal.returns-clause-formats
returns-clause-formats g c =
    formats_filling _ _ _ _ c.requires.some _ _ c.close_slots.ensures.touches c.close_slots.ensures.crash
    _ c.in_ok-close_slots.ensures.closed c.in_ok-close_slots.ensures.synced c.fill_slot.ensures.touches c.fill_slot.ensures.crash

pub returns-clause-stored : goal.returns-clause-stored
returns-clause-stored g c =
    format_stored _ _ _ _ c.requires.some _ _ c.close_slots.ensures.touches c.close_slots.ensures.crash
    _ c.in_ok-close_slots.ensures.closed c.in_ok-close_slots.ensures.synced c.fill_slot.ensures.touches c.fill_slot.ensures.crash c.requires.room c.in_ok-fill_slot.ensures.filled c.in_ok-fill_slot.ensures.synced

pub returns-clause-bytes : goal.returns-clause-bytes
returns-clause-bytes g c = λ tells. c.in_ok-fill_slot.ensures.bytes (c.close_slots.ensures.touches.continues.still_tells tells)

pub returns-then-is_too_long-clause-few : goal.returns-then-is_too_long-clause-few
returns-then-is_too_long-clause-few g c = λ tells. alone_look _ _ _ tells (looks_now _ (g.met.P.Plant.honest c.args.plant.now))

pub returns-then-is_too_long-clause-wears : goal.returns-then-is_too_long-clause-wears
returns-then-is_too_long-clause-wears g c = λ tells. writes_none _ _ _ _ refl

pub returns-in_err-close_slots-clause-few : goal.returns-in_err-close_slots-clause-few
returns-in_err-close_slots-clause-few g c = λ tells. alone_closing _ _ _ _ _ _ (c.close_slots.ensures.few tells)

pub returns-in_err-close_slots-clause-wears : goal.returns-in_err-close_slots-clause-wears
returns-in_err-close_slots-clause-wears g c = λ tells. writes_wider _ 2 _ _ _ (omega arith) (c.close_slots.ensures.wears tells)

pub returns-in_err-fill_slot-clause-few : goal.returns-in_err-fill_slot-clause-few
returns-in_err-fill_slot-clause-few g c = λ tells. alone_format _ _ _ _ _ _ _ tells (c.close_slots.ensures.touches.continues.still_tells tells) (c.close_slots.ensures.few tells) c.fill_slot.ensures.few

pub returns-in_err-fill_slot-clause-wears : goal.returns-in_err-fill_slot-clause-wears
returns-in_err-fill_slot-clause-wears g c = λ tells.
    let used = used_sectors (length c.args.content.now) in
    writes_wider _ (2 + (used + 1)) (used + 3) _ _ (omega arith) (writes_then _ 2 (used + 1) _ _ _ (c.close_slots.ensures.wears tells) (c.fill_slot.ensures.wears (c.close_slots.ensures.touches.continues.still_tells tells)))

pub returns-clause-few : goal.returns-clause-few
returns-clause-few g c = λ tells. alone_format _ _ _ _ _ _ _ tells (c.close_slots.ensures.touches.continues.still_tells tells) (c.close_slots.ensures.few tells) c.fill_slot.ensures.few

pub returns-clause-wears : goal.returns-clause-wears
returns-clause-wears g c = λ tells.
    let used = used_sectors (length c.args.content.now) in
    writes_wider _ (2 + (used + 1)) (used + 3) _ _ (omega arith) (writes_then _ 2 (used + 1) _ _ _ (c.close_slots.ensures.wears tells) (c.fill_slot.ensures.wears (c.close_slots.ensures.touches.continues.still_tells tells)))

pub returns-clause-shut : goal.returns-clause-shut
returns-clause-shut g c = λ tells.
    let now = c.close_slots.ensures.touches.continues.still_tells tells in
    shut_after _ _ _ _ (c.in_ok-close_slots.ensures.shut tells true) ((c.fill_slot.ensures.touches.told now).reads c.args.area _ (λ same. inr (omega arith)))

pub returns-clause-closed : goal.returns-clause-closed
returns-clause-closed g c = λ tells.
    let now = c.close_slots.ensures.touches.continues.still_tells tells in
    gate_frame _ _ _ ((c.fill_slot.ensures.touches.told now).reads c.args.area _ (λ same. inr (omega arith))) ∙ c.in_ok-close_slots.ensures.closed tells true
