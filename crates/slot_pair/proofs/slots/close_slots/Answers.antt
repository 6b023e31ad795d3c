use Rattle.std.proofs.Common.{arith}
use Rattle.bd_dev.proofs.Joins.{looks_then, writes_none, writes_then, writes_wider}
use Rattle.slot_pair.proofs.Alone.{alone_gate, alone_look, alone_then, shut_both}
use Rattle.slot_pair.proofs.Closings.{both_shut, chosen_by, crash_first, crash_second, looked_synced, only_looked, touch_first, touch_second}
use Rattle.slot_pair.proofs.slots.close_slots.Goals as goal

pub returns-in_err-first-clause-crash : goal.returns-in_err-first-clause-crash
returns-in_err-first-clause-crash g c = λ tells. only_looked _ _ _ c.requires.some _ _ tells (c.requires.synced tells) c.slot_number.ensures.looks

pub returns-in_err-other-clause-crash : goal.returns-in_err-other-clause-crash
returns-in_err-other-clause-crash g c = λ tells. only_looked _ _ _ c.requires.some _ _ tells (c.requires.synced tells) (looks_then _ _ _ c.slot_number.ensures.looks c.slot_number-2.ensures.looks)

pub returns-in_err-close_gate-clause-crash : goal.returns-in_err-close_gate-clause-crash
returns-in_err-close_gate-clause-crash g c =
    let looks = looks_then _ _ _ c.slot_number.ensures.looks c.slot_number-2.ensures.looks in
    let chosen = chosen_by _ _ _ _ _ c.in_ok-first.first c.in_ok-other.other _ c.slot_number.ensures.looks c.in_ok-first.ensures.number c.in_ok-other.ensures.number c.is_second-second.ensures in
    crash_first _ _ _ c.is_second-second.result _ c.requires.some _ _ _ c.requires.synced looks c.slot_gate.ensures c.close_gate.ensures.touches c.close_gate.ensures.unwritten chosen

pub returns-in_err-close_gate-clause-touches : goal.returns-in_err-close_gate-clause-touches
returns-in_err-close_gate-clause-touches g c =
    let looks = looks_then _ _ _ c.slot_number.ensures.looks c.slot_number-2.ensures.looks in
    touch_first _ _ _ c.is_second-second.result _ c.requires.some _ _ _ c.requires.synced looks c.slot_gate.ensures c.close_gate.ensures.touches c.close_gate.ensures.unwritten

pub returns-in_err-close_gate-2-clause-crash : goal.returns-in_err-close_gate-2-clause-crash
returns-in_err-close_gate-2-clause-crash g c =
    let looks = looks_then _ _ _ c.slot_number.ensures.looks c.slot_number-2.ensures.looks in
    let chosen = chosen_by _ _ _ _ _ c.in_ok-first.first c.in_ok-other.other _ c.slot_number.ensures.looks c.in_ok-first.ensures.number c.in_ok-other.ensures.number c.is_second-second.ensures in
    crash_second _ _ _ c.is_second-second.result _ c.requires.some _ _ _ c.requires.synced looks c.slot_gate.ensures c.close_gate.ensures.touches c.close_gate.ensures.unwritten chosen
    _ _ c.slot_gate-2.ensures c.in_ok-close_gate.ensures.closed (λ now. c.in_ok-close_gate.ensures.synced now (looked_synced _ _ _ c.requires.synced looks now)) c.close_gate-2.ensures.touches c.close_gate-2.ensures.unwritten

pub returns-in_err-close_gate-2-clause-touches : goal.returns-in_err-close_gate-2-clause-touches
returns-in_err-close_gate-2-clause-touches g c =
    let looks = looks_then _ _ _ c.slot_number.ensures.looks c.slot_number-2.ensures.looks in
    let chosen = chosen_by _ _ _ _ _ c.in_ok-first.first c.in_ok-other.other _ c.slot_number.ensures.looks c.in_ok-first.ensures.number c.in_ok-other.ensures.number c.is_second-second.ensures in
    touch_second _ _ _ c.is_second-second.result _ c.requires.some _ _ _ c.requires.synced looks c.slot_gate.ensures c.close_gate.ensures.touches c.close_gate.ensures.unwritten chosen
    _ _ c.slot_gate-2.ensures c.in_ok-close_gate.ensures.closed (λ now. c.in_ok-close_gate.ensures.synced now (looked_synced _ _ _ c.requires.synced looks now)) c.close_gate-2.ensures.touches c.close_gate-2.ensures.unwritten

pub returns-clause-crash : goal.returns-clause-crash
returns-clause-crash g c =
    let looks = looks_then _ _ _ c.slot_number.ensures.looks c.slot_number-2.ensures.looks in
    let chosen = chosen_by _ _ _ _ _ c.in_ok-first.first c.in_ok-other.other _ c.slot_number.ensures.looks c.in_ok-first.ensures.number c.in_ok-other.ensures.number c.is_second-second.ensures in
    crash_second _ _ _ c.is_second-second.result _ c.requires.some _ _ _ c.requires.synced looks c.slot_gate.ensures c.close_gate.ensures.touches c.close_gate.ensures.unwritten chosen
    _ _ c.slot_gate-2.ensures c.in_ok-close_gate.ensures.closed (λ now. c.in_ok-close_gate.ensures.synced now (looked_synced _ _ _ c.requires.synced looks now)) c.close_gate-2.ensures.touches c.close_gate-2.ensures.unwritten

pub returns-clause-touches : goal.returns-clause-touches
returns-clause-touches g c =
    let looks = looks_then _ _ _ c.slot_number.ensures.looks c.slot_number-2.ensures.looks in
    let chosen = chosen_by _ _ _ _ _ c.in_ok-first.first c.in_ok-other.other _ c.slot_number.ensures.looks c.in_ok-first.ensures.number c.in_ok-other.ensures.number c.is_second-second.ensures in
    touch_second _ _ _ c.is_second-second.result _ c.requires.some _ _ _ c.requires.synced looks c.slot_gate.ensures c.close_gate.ensures.touches c.close_gate.ensures.unwritten chosen
    _ _ c.slot_gate-2.ensures c.in_ok-close_gate.ensures.closed (λ now. c.in_ok-close_gate.ensures.synced now (looked_synced _ _ _ c.requires.synced looks now)) c.close_gate-2.ensures.touches c.close_gate-2.ensures.unwritten

pub returns-clause-closed : goal.returns-clause-closed
returns-clause-closed g c =
    let looks = looks_then _ _ _ c.slot_number.ensures.looks c.slot_number-2.ensures.looks in
    let chosen = chosen_by _ _ _ _ _ c.in_ok-first.first c.in_ok-other.other _ c.slot_number.ensures.looks c.in_ok-first.ensures.number c.in_ok-other.ensures.number c.is_second-second.ensures in
    both_shut _ _ _ c.is_second-second.result _ c.requires.some _ _ _ c.requires.synced looks c.slot_gate.ensures c.close_gate.ensures.touches c.close_gate.ensures.unwritten chosen
    _ _ c.slot_gate-2.ensures c.in_ok-close_gate.ensures.closed (λ now. c.in_ok-close_gate.ensures.synced now (looked_synced _ _ _ c.requires.synced looks now)) c.close_gate-2.ensures.touches c.close_gate-2.ensures.unwritten c.in_ok-close_gate-2.ensures.closed

pub returns-in_err-first-clause-few : goal.returns-in_err-first-clause-few
returns-in_err-first-clause-few g c = λ tells. alone_look _ _ _ tells c.slot_number.ensures.looks

pub returns-in_err-first-clause-wears : goal.returns-in_err-first-clause-wears
returns-in_err-first-clause-wears g c = λ tells. writes_none _ 2 _ _ (c.slot_number.ensures.looks.told tells).only.writes

pub returns-in_err-other-clause-few : goal.returns-in_err-other-clause-few
returns-in_err-other-clause-few g c = λ tells. alone_look _ _ _ tells (looks_then _ _ _ c.slot_number.ensures.looks c.slot_number-2.ensures.looks)

pub returns-in_err-other-clause-wears : goal.returns-in_err-other-clause-wears
returns-in_err-other-clause-wears g c = λ tells.
    let looks = looks_then _ _ _ c.slot_number.ensures.looks c.slot_number-2.ensures.looks in
    writes_none _ 2 _ _ (looks.told tells).only.writes

pub returns-in_err-close_gate-clause-few : goal.returns-in_err-close_gate-clause-few
returns-in_err-close_gate-clause-few g c = λ tells.
    let looks = looks_then _ _ _ c.slot_number.ensures.looks c.slot_number-2.ensures.looks in
    alone_then _ _ _ _ (alone_look _ _ _ tells looks) (alone_gate _ _ _ 0 _ _ _ _ c.slot_gate.ensures (looks.continues.still_tells tells) c.close_gate.ensures.touches)

pub returns-in_err-close_gate-clause-wears : goal.returns-in_err-close_gate-clause-wears
returns-in_err-close_gate-clause-wears g c = λ tells.
    let looks = looks_then _ _ _ c.slot_number.ensures.looks c.slot_number-2.ensures.looks in
    writes_wider _ 1 2 _ _ (omega arith) (writes_then _ 0 1 _ _ _ (writes_none _ 0 _ _ (looks.told tells).only.writes) (c.close_gate.ensures.wears (looks.continues.still_tells tells)))

pub returns-in_err-close_gate-2-clause-few : goal.returns-in_err-close_gate-2-clause-few
returns-in_err-close_gate-2-clause-few g c = λ tells.
    let looks = looks_then _ _ _ c.slot_number.ensures.looks c.slot_number-2.ensures.looks in
    let now = looks.continues.still_tells tells in
    let then = c.close_gate.ensures.touches.continues.still_tells now in
    alone_then _ _ _ _ (alone_then _ _ _ _ (alone_look _ _ _ tells looks) (alone_gate _ _ _ 0 _ _ _ _ c.slot_gate.ensures now c.close_gate.ensures.touches)) (alone_gate _ _ _ 0 _ _ _ _ c.slot_gate-2.ensures then c.close_gate-2.ensures.touches)

pub returns-in_err-close_gate-2-clause-wears : goal.returns-in_err-close_gate-2-clause-wears
returns-in_err-close_gate-2-clause-wears g c = λ tells.
    let looks = looks_then _ _ _ c.slot_number.ensures.looks c.slot_number-2.ensures.looks in
    let now = looks.continues.still_tells tells in
    let then = c.close_gate.ensures.touches.continues.still_tells now in
    writes_then _ 1 1 _ _ _ (writes_then _ 0 1 _ _ _ (writes_none _ 0 _ _ (looks.told tells).only.writes) (c.close_gate.ensures.wears now)) (c.close_gate-2.ensures.wears then)

pub returns-clause-few : goal.returns-clause-few
returns-clause-few g c = λ tells.
    let looks = looks_then _ _ _ c.slot_number.ensures.looks c.slot_number-2.ensures.looks in
    let now = looks.continues.still_tells tells in
    let then = c.close_gate.ensures.touches.continues.still_tells now in
    alone_then _ _ _ _ (alone_then _ _ _ _ (alone_look _ _ _ tells looks) (alone_gate _ _ _ 0 _ _ _ _ c.slot_gate.ensures now c.close_gate.ensures.touches)) (alone_gate _ _ _ 0 _ _ _ _ c.slot_gate-2.ensures then c.close_gate-2.ensures.touches)

pub returns-clause-wears : goal.returns-clause-wears
returns-clause-wears g c = λ tells.
    let looks = looks_then _ _ _ c.slot_number.ensures.looks c.slot_number-2.ensures.looks in
    let now = looks.continues.still_tells tells in
    let then = c.close_gate.ensures.touches.continues.still_tells now in
    writes_then _ 1 1 _ _ _ (writes_then _ 0 1 _ _ _ (writes_none _ 0 _ _ (looks.told tells).only.writes) (c.close_gate.ensures.wears now)) (c.close_gate-2.ensures.wears then)

pub returns-clause-shut : goal.returns-clause-shut
returns-clause-shut g c = λ tells.
    let looks = looks_then _ _ _ c.slot_number.ensures.looks c.slot_number-2.ensures.looks in
    shut_both _ _ _ c.is_second-second.result _ _ _ _ _ _ tells looks c.slot_gate.ensures c.slot_gate-2.ensures c.close_gate.ensures.touches c.close_gate-2.ensures.touches
    c.in_ok-close_gate.ensures.zeros c.close_gate.ensures.unwritten c.in_ok-close_gate-2.ensures.zeros c.close_gate-2.ensures.unwritten
