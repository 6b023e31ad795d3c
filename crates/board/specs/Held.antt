-- What a board keeps beside its plant, and when the two agree.
use Rattle.std.specs.Prelude.{◌≡◌, ℕ, ◌-◌, [], ◌∷◌, false, Result, Ok, Err}
use Rattle.bd_dev.specs.declared.plant.Area.TheVariants.{Disk}
use Rattle.bd_dev.specs.Content.{Image}
use Rattle.bd_dev.specs.Plant.{View, IsImage}
use Rattle.boot_vars.specs.Vars.{FitsVars}
use Rattle.cuts.specs.declared.effect.Effect.{Effect}
use Rattle.cuts.specs.Cuts.{MayBeCut}
use Rattle.cuts.specs.Spans.{HasOnlyPending, Spans, Stands, Value, pending_of, state_of}
use Rattle.cuts.specs.States.{after_one}
use Rattle.gpt_copy.specs.Copy.{FitsDisk}
use Rattle.bd_dev.specs.Runs.{Continues}
use Rattle.storage_model.specs.Entries.{IsSane}
use Rattle.board.specs.declared.board.Held.{Held}
use Rattle.board.specs.declared.fault.BoardFault.{BoardFault}
use Rattle.board.specs.declared.fault.BoardFault.TheVariants.{Fault}

-- the disk as a board reads it
abbrev pub disk_of : View → Held → ℕ → ℕ
disk_of v h = v.reads Disk

-- the board that a plant and what is kept beside it make
abbrev pub value_of : View → Held → Value
value_of v h = record {
  view = v;
  disk = disk_of v h;
  table = h.table;
  text = h.vars.text;
  number = h.vars.pair.number;
  journal = h.journal.effects;
  failed = h.failed;
}

-- A board that has not failed: what it keeps fits its plant and, where that tells, is what the plant reads.
pub record IsLive (v : View) (h : Held) : Type 0 where
  pub live : h.failed ≡ false
  pub fits : FitsDisk (v.size Disk - 1) h.table
  pub sane : IsSane h.table
  pub variables : FitsVars v h.vars
  pub stands : v.tells → Stands (value_of v h)
  pub pending : v.tells → HasOnlyPending (value_of v h)

-- What each call of a board keeps, whatever it answers: from the board before to the one after there is a span, and
-- where that one has not failed it is live again.
pub record Keeps (v : View) (h : Held) (w : View) (j : Held) : Type 0 where
  pub continues : Continues v w
  pub live : j.failed ≡ false → IsLive w j
  pub span : v.tells → Spans (value_of v h) (value_of w j)

-- The state that a board reads is the one after this effect.
abbrev pub IsAfter : Effect → View → Held → View → Held → Type 0
IsAfter x v h w j = v.tells → state_of (value_of w j) ≡ after_one (state_of (value_of v h)) x

-- Whatever a crash leaves, this effect may run: it counts as not done, and all before it as done.
abbrev pub MayRun : Effect → View → Held → View → Type 0
MayRun x v h w =
    v.tells → (c : Image) → IsImage w c
    → MayBeCut v.size (state_of (value_of v h)) (pending_of (value_of v h)) (x ∷ []) 0 c

-- What a change with this effect leaves, by its answer; a refusal leaves all as it was.
abbrev pub Leaves : Effect → Result Unit BoardFault → View → Held → View → Held → Type 0
Leaves x (Ok done) v h w j = IsAfter x v h w j
Leaves x (Err Fault) v h w j = MayRun x v h w
Leaves x (Err other) v h w j = Unit {0}
