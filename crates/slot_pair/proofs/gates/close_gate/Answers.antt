use Rattle.std.proofs.Common.{true, false, refl, sym, ◌∙◌, ap, arith}
use Rattle.bd_dev.specs.Content.{Image}
use Rattle.bd_dev.proofs.Joins.{writes_none, writes_then}
use Rattle.bd_dev.proofs.Touch.{touch_look, touch_then}
use Rattle.slot_model.specs.Slots.{is_open_gate}
use Rattle.slot_pair.proofs.OpenGates.{gate_is}
use Rattle.slot_pair.proofs.gates.close_gate.Goals as goal

-- the gate was tested, so it reads open
pub returns-in_err-write_through-clause-unwritten : goal.returns-in_err-write_through-clause-unwritten
returns-in_err-write_through-clause-unwritten g c = λ tells shut.
    let is_open = gate_is _ _ 512 _ true (omega arith) (sym (c.in_ok-read_sectors.ensures.bytes tells)) (sym c.says_open.ensures ∙ c.if-says_open.true) in
    absurd (cc (shut, is_open))

pub returns-in_ok-write_through-clause-unwritten : goal.returns-in_ok-write_through-clause-unwritten
returns-in_ok-write_through-clause-unwritten g c = λ tells shut.
    let is_open = gate_is _ _ 512 _ true (omega arith) (sym (c.in_ok-read_sectors.ensures.bytes tells)) (sym c.says_open.ensures ∙ c.if-says_open.true) in
    absurd (cc (shut, is_open))

pub returns-in_err-write_through-clause-touches : goal.returns-in_err-write_through-clause-touches
returns-in_err-write_through-clause-touches g c = touch_then _ _ _ _ _ _ (touch_look _ _ _ _ _ c.read_sectors.ensures.looks) c.write_through.ensures.touches

pub returns-in_ok-write_through-clause-touches : goal.returns-in_ok-write_through-clause-touches
returns-in_ok-write_through-clause-touches g c = touch_then _ _ _ _ _ _ (touch_look _ _ _ _ _ c.read_sectors.ensures.looks) c.write_through.ensures.touches

pub returns-in_ok-write_through-clause-closed : goal.returns-in_ok-write_through-clause-closed
returns-in_ok-write_through-clause-closed g c = λ tells.
    gate_is _ _ 512 _ false (omega arith) (c.in_ok-write_through.ensures.bytes (c.read_sectors.ensures.looks.continues.still_tells tells)) refl

pub returns-else-says_open-clause-closed : goal.returns-else-says_open-clause-closed
returns-else-says_open-clause-closed g c = λ tells.
    ap (λ (z : Image). is_open_gate (z c.args.area) c.args.gate) (c.read_sectors.ensures.looks.told tells).only.reads
    ∙ gate_is _ _ 512 _ false (omega arith) (sym (c.in_ok-read_sectors.ensures.bytes tells)) (sym c.says_open.ensures ∙ c.if-says_open.false)

pub returns-in_ok-write_through-clause-zeros : goal.returns-in_ok-write_through-clause-zeros
returns-in_ok-write_through-clause-zeros g c = λ tells is_open. c.in_ok-write_through.ensures.bytes (c.read_sectors.ensures.looks.continues.still_tells tells)

-- the gate was tested, so it reads closed
pub returns-else-says_open-clause-zeros : goal.returns-else-says_open-clause-zeros
returns-else-says_open-clause-zeros g c = λ tells is_open.
    let shut = gate_is _ _ 512 _ false (omega arith) (sym (c.in_ok-read_sectors.ensures.bytes tells)) (sym c.says_open.ensures ∙ c.if-says_open.false) in
    absurd (cc (shut, is_open))

pub returns-in_err-write_through-clause-wears : goal.returns-in_err-write_through-clause-wears
returns-in_err-write_through-clause-wears g c = λ tells.
    writes_then _ 0 1 _ _ _ (writes_none _ 0 _ _ (c.read_sectors.ensures.looks.told tells).only.writes) (c.write_through.ensures.wears (c.read_sectors.ensures.looks.continues.still_tells tells))

pub returns-in_ok-write_through-clause-wears : goal.returns-in_ok-write_through-clause-wears
returns-in_ok-write_through-clause-wears g c = λ tells.
    writes_then _ 0 1 _ _ _ (writes_none _ 0 _ _ (c.read_sectors.ensures.looks.told tells).only.writes) (c.write_through.ensures.wears (c.read_sectors.ensures.looks.continues.still_tells tells))

pub returns-else-says_open-clause-wears : goal.returns-else-says_open-clause-wears
returns-else-says_open-clause-wears g c = λ tells. writes_none _ 1 _ _ (c.read_sectors.ensures.looks.told tells).only.writes

pub returns-in_err-read_sectors-clause-wears : goal.returns-in_err-read_sectors-clause-wears
returns-in_err-read_sectors-clause-wears g c = λ tells. writes_none _ 1 _ _ (c.read_sectors.ensures.looks.told tells).only.writes
