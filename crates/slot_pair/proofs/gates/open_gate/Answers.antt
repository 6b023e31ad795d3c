use Rattle.std.proofs.Common.{◌≡◌, List, ℕ, ◌*◌, length, take, true, sym, ◌∙◌, ap, arith}
use Rattle.bd_dev.specs.Content.{window}
use Rattle.std.specs.Str.{bytes_eq}
use Rattle.slot_model.specs.Slots.{open_word}
use Rattle.slot_pair.proofs.OpenGates.{gate_is}
use Rattle.slot_pair.proofs.gates.open_gate.Goals as goal

pub returns-clause-opened : goal.returns-clause-opened
returns-clause-opened g c = λ tells.
    let long : length c.open_sector-sector.result ≡ 512 = ap length c.open_sector-sector.ensures in
    gate_is _ _ _ c.open_sector-sector.result true (omega arith) (c.in_ok-write_through.ensures.bytes tells) (ap (λ (l : List ℕ). bytes_eq (take 8 l) open_word) c.open_sector-sector.ensures)

pub returns-clause-bytes : goal.returns-clause-bytes
returns-clause-bytes g c = λ tells.
    let long : length c.open_sector-sector.result ≡ 512 = ap length c.open_sector-sector.ensures in
    ap (λ (n : ℕ). window ((g.P.Plant.view c.write_through.new.plant).reads c.args.area) (512 * c.args.gate) n) (sym long) ∙ c.in_ok-write_through.ensures.bytes tells ∙ c.open_sector-sector.ensures
