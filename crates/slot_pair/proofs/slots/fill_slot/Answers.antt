use Rattle.std.proofs.Common.{◌<◌, inl, arith}
use Rattle.bd_dev.proofs.Joins.{writes_then, writes_wider}
use Rattle.bd_dev.proofs.Touch.{leaves_weaker, touch_then}
use Rattle.slot_pair.proofs.Spelling.{spelled}
use Rattle.slot_pair.proofs.Replacing.{opened, then_opening, touch_body, touch_gate, while_opening, while_writing}
use Rattle.slot_pair.proofs.slots.fill_slot.Goals as goal

pub returns-in_err-write_body-clause-crash : goal.returns-in_err-write_body-clause-crash
returns-in_err-write_body-clause-crash g c = λ tells.
    let some : 0 < c.args.sectors = omega (arith, c.requires.short) in
    leaves_weaker _ _ _ _ (while_writing _ _ _ some _ _ (c.requires.synced tells) (c.requires.closed tells) (c.write_body.ensures.touches.told tells)) (λ image none. inl none)

pub returns-in_err-write_body-clause-touches : goal.returns-in_err-write_body-clause-touches
returns-in_err-write_body-clause-touches g c = touch_body _ _ _ _ _ c.write_body.ensures.touches

pub returns-in_err-open_gate-clause-crash : goal.returns-in_err-open_gate-clause-crash
returns-in_err-open_gate-clause-crash g c = λ tells.
    let some : 0 < c.args.sectors = omega (arith, c.requires.short) in
    let behind = c.write_body.ensures.touches in
    let now = behind.continues.still_tells tells in
    then_opening _ _ _ some _ _ _ _ (while_writing _ _ _ some _ _ (c.requires.synced tells) (c.requires.closed tells) (behind.told tells))
    (while_opening _ _ _ some _ _ _ (c.in_ok-write_body.ensures.synced tells) (c.in_ok-write_body.ensures.body tells) (c.open_gate.ensures.touches.told now))

pub returns-in_err-open_gate-clause-touches : goal.returns-in_err-open_gate-clause-touches
returns-in_err-open_gate-clause-touches g c = touch_then _ _ _ _ _ _ (touch_body _ _ _ _ _ c.write_body.ensures.touches) (touch_gate _ _ _ _ _ c.open_gate.ensures.touches)

pub returns-clause-filled : goal.returns-clause-filled
returns-clause-filled g c = λ tells.
    let some : 0 < c.args.sectors = omega (arith, c.requires.short) in
    let now = c.write_body.ensures.touches.continues.still_tells tells in
    opened _ _ _ some _ _ _ (c.in_ok-write_body.ensures.body tells) (c.open_gate.ensures.touches.told now) (c.in_ok-open_gate.ensures.opened now)

pub returns-clause-crash : goal.returns-clause-crash
returns-clause-crash g c = λ tells.
    let some : 0 < c.args.sectors = omega (arith, c.requires.short) in
    let behind = c.write_body.ensures.touches in
    let now = behind.continues.still_tells tells in
    then_opening _ _ _ some _ _ _ _ (while_writing _ _ _ some _ _ (c.requires.synced tells) (c.requires.closed tells) (behind.told tells))
    (while_opening _ _ _ some _ _ _ (c.in_ok-write_body.ensures.synced tells) (c.in_ok-write_body.ensures.body tells) (c.open_gate.ensures.touches.told now))

pub returns-clause-touches : goal.returns-clause-touches
returns-clause-touches g c = touch_then _ _ _ _ _ _ (touch_body _ _ _ _ _ c.write_body.ensures.touches) (touch_gate _ _ _ _ _ c.open_gate.ensures.touches)

pub returns-in_err-write_body-clause-few : goal.returns-in_err-write_body-clause-few
returns-in_err-write_body-clause-few g c = touch_body _ _ _ _ _ c.write_body.ensures.few

pub returns-in_err-open_gate-clause-few : goal.returns-in_err-open_gate-clause-few
returns-in_err-open_gate-clause-few g c = touch_then _ _ _ _ _ _ (touch_body _ _ _ _ _ c.write_body.ensures.few) (touch_gate _ _ _ _ _ c.open_gate.ensures.touches)

pub returns-clause-few : goal.returns-clause-few
returns-clause-few g c = touch_then _ _ _ _ _ _ (touch_body _ _ _ _ _ c.write_body.ensures.few) (touch_gate _ _ _ _ _ c.open_gate.ensures.touches)

pub returns-clause-bytes : goal.returns-clause-bytes
returns-clause-bytes g c = λ tells.
    let now = c.write_body.ensures.touches.continues.still_tells tells in
    spelled _ _ _ _ _ _ (c.in_ok-write_body.ensures.bytes tells) (c.open_gate.ensures.touches.told now) (c.in_ok-open_gate.ensures.bytes now)

pub returns-in_err-write_body-clause-wears : goal.returns-in_err-write_body-clause-wears
returns-in_err-write_body-clause-wears g c = λ tells. writes_wider _ _ _ _ _ (omega arith) (c.write_body.ensures.wears tells)

pub returns-in_err-open_gate-clause-wears : goal.returns-in_err-open_gate-clause-wears
returns-in_err-open_gate-clause-wears g c = λ tells. writes_then _ _ 1 _ _ _ (c.write_body.ensures.wears tells) (c.open_gate.ensures.wears (c.write_body.ensures.touches.continues.still_tells tells))

pub returns-clause-wears : goal.returns-clause-wears
returns-clause-wears g c = λ tells. writes_then _ _ 1 _ _ _ (c.write_body.ensures.wears tells) (c.open_gate.ensures.wears (c.write_body.ensures.touches.continues.still_tells tells))
