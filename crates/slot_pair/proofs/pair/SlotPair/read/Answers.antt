use Rattle.std.proofs.Common.{◌≡◌, ◌+◌, ◌*◌, ◌++◌, ℕ, List, length, take, drop, Some, ◌∙◌, sym, ap, arith, length-take}
use Rattle.std.proofs.lemmas.List.{take-append-le}
use Rattle.bd_dev.specs.declared.plant.Area.{Area}
use Rattle.bd_dev.specs.Content.{window}
use Rattle.slot_model.specs.Slots.{slot}
use Rattle.slot_pair.specs.Pair.{Pair}
use Rattle.slot_pair.proofs.Heads.{content_says}
use Rattle.slot_pair.proofs.pair.SlotPair.read.Goals as goal

pub returns-clause-content : goal.returns-clause-content
returns-clause-content g c = λ tells.
    let kept = c.requires.fits.kept tells in
    let moved = c.content_to_front-length.ensures in
    let body = c.read_sectors.new.out in
    let out = c.content_to_front-length.new.body in
    let rest = drop (512 * g.row.N) c.args.out.now in
    let len = c.content_to_front-length.result in
    let size : length (take (512 * g.row.N) c.args.out.now) ≡ 512 * g.row.N = omega (arith, length-take (512 * g.row.N) c.args.out.now) in
    let place : c.self.inside.area ≡ c.args.self.now.area = ap (λ (p : Pair). p.area) c.self.view_is in
    let reads = (g.P.Plant.view c.args.plant.now).reads in
    let read : body ≡ window (reads c.args.self.now.area) (512 * (c.gate-gate.result + 1)) (512 * g.row.N) =
    c.in_ok-read_sectors.ensures.bytes tells
    ∙ ap (λ (a : Area). window (reads a) (512 * (c.gate-gate.result + 1)) (length (take (512 * g.row.N) c.args.out.now))) place
    ∙ ap (λ (m : ℕ). window (reads c.args.self.now.area) (512 * (c.gate-gate.result + 1)) m) size in
    let front : take len (out ++ rest) ≡ take len out = take-append-le len out rest (omega (arith, moved.within, c.content_to_front-length.auto.body)) in
    let at_gate : slot g.row.N (reads c.args.self.now.area) c.gate-gate.result ≡ Some (record { number = c.args.self.now.number; content = kept.content }) =
    ap (λ (gate : ℕ). slot g.row.N (reads c.args.self.now.area) gate) c.gate-gate.ensures ∙ kept.this in
    let content : take len out ≡ kept.content = content_says g.row.N _ _ _ body len out c.requires.some at_gate read moved.length moved.content in
    kept.whole ∙ ap (λ (l : List ℕ). Some (record { number = c.args.self.now.number; content = l })) (sym (front ∙ content))
