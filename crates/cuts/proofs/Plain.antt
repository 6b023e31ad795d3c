-- The form of a cut in which a torn copy is excused implies the plain one, wherever the image is clean.
use Rattle.std.proofs.Common.{ℕ, Option, Some, None}
use Rattle.bd_dev.specs.declared.plant.Area.{Area}
use Rattle.bd_dev.specs.declared.plant.Area.TheVariants.{Disk}
use Rattle.bd_dev.specs.Content.{Image}
use Rattle.cuts.specs.declared.effect.Effect.{Effect}
use Rattle.cuts.specs.declared.effect.Effect.TheVariants.{Put, Sync, Table as SetTable, Vars as SetVars}
use Rattle.cuts.specs.States.{State}
use Rattle.cuts.specs.Cuts.{HasTable, IsCleanFor, IsCutAt, MayBeCutAt, MayHaveTable}
use Rattle.cuts.proofs.Copying.{table_of_both}

has_table : (size : ℕ) (s : State) (x : Option Effect) (c : Image) → MayHaveTable size s x c → IsCleanFor size s.table x c → HasTable size s x c
has_table size s None c may clean = table_of_both size (c Disk) s.table may
has_table size s (Some (Put lba bytes)) c may clean = table_of_both size (c Disk) s.table may
has_table size s (Some Sync) c may clean = table_of_both size (c Disk) s.table may
has_table size s (Some (SetTable t)) c may clean = may clean
has_table size s (Some (SetVars text)) c may clean = table_of_both size (c Disk) s.table may

pub plain : (size : Area → ℕ) (s : State) (U : ℕ → Type 0) (x : Option Effect) (c : Image) → MayBeCutAt size s U x c → IsCleanFor (size Disk) s.table x c → IsCutAt size s U x c
plain size s U x c may clean = record { table = has_table (size Disk) s x c may.table clean; variables = may.variables; sectors = may.sectors }
