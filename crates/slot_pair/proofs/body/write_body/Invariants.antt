use Rattle.std.proofs.Common.{◌≡◌, ◌+◌, ◌*◌, length}
use Rattle.bd_dev.specs.Runs.{WritesAtMost}
use Rattle.bd_dev.specs.Touching.{Touches}
use Rattle.slot_pair.specs.Body.{Written, body_bytes, used_sectors}
use Rattle.slot_pair.proofs.body.write_body.Given as goal

abbrev pub invariant-sectors : goal.invariant-sectors
invariant-sectors g l = record {
  touches : Touches l.area (l.gate + 1) l.sectors (g.P.Plant.view l.fn.plant) (g.P.Plant.view l.plant);
  few : Touches l.area (l.gate + 1) (used_sectors (length l.content)) (g.P.Plant.view l.fn.plant) (g.P.Plant.view l.plant);
  wears : (g.P.Plant.view l.fn.plant).tells → WritesAtMost l.area l.index (g.P.Plant.view l.fn.plant) (g.P.Plant.view l.plant);
  quiet : (g.P.Plant.view l.plant).faults ≡ (g.P.Plant.view l.fn.plant).faults;
  written : (g.P.Plant.view l.fn.plant).tells → Written ((g.P.Plant.view l.plant).reads l.area) (512 * (l.gate + 1)) (body_bytes l.number l.content) (512 * l.index);
}
