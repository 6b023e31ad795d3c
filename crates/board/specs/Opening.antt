-- What an opening hands on: a plant that is ready for a board, and what was read of it before.
use Rattle.std.specs.Prelude.{◌≡◌, ◌-◌, Some}
use Rattle.bd_dev.specs.declared.plant.Area.TheVariants.{Disk, Flash}
use Rattle.bd_dev.specs.Plant.{View, IsSynced}
use Rattle.boot_vars.specs.Vars.{FitsVars}
use Rattle.storage_model.specs.Copies.{ReadsBoth}
use Rattle.gpt_copy.specs.Copy.{FitsDisk}
use Rattle.storage_model.specs.Disk.{table_of}
use Rattle.storage_model.specs.Entries.{IsSane}
use Rattle.storage_model.specs.Soundness.{IsSoundTable}
use Rattle.storage_model.specs.Variables.{HoldsVariables, IsText}
use Rattle.board.specs.declared.opening.Opened.{Opened}

-- A plant is ready for a board with this table and these variables: they fit it and, where it tells, both copies read as
-- the table, ONIE's partition holds an image, the variables are a text, and nothing is unsynced.
pub record IsReady (v : View) (o : Opened) : Type 0 where
  pub fits : FitsDisk (v.size Disk - 1) o.table
  pub sane : IsSane o.table
  pub variables : FitsVars v o.vars
  pub text : v.tells → IsText o.vars.text
  pub both : v.tells → ReadsBoth (v.size Disk) (v.reads Disk) o.table
  pub sound : v.tells → IsSoundTable (v.reads Disk) o.table
  pub disk : v.tells → IsSynced v Disk
  pub flash : v.tells → IsSynced v Flash

-- the table and the variables are those that a plant read before it was readied
pub record IsReadOf (v : View) (o : Opened) : Type 0 where
  pub table : table_of (v.size Disk) (v.reads Disk) ≡ Some o.table
  pub variables : HoldsVariables (v.size Flash) (v.reads Flash) (record { number = o.vars.pair.number; content = o.vars.text })
