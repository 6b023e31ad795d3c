-- Where the law begins: at what a sound board reads, and at what a sound image holds.
use Rattle.std.proofs.Common.{ℕ, ◌-◌}
use Rattle.bd_dev.specs.declared.plant.Area.{Area}
use Rattle.bd_dev.specs.declared.plant.Area.TheVariants.{Disk}
use Rattle.bd_dev.specs.Content.{Image}
use Rattle.gpt_copy.specs.declared.table.Table.{Table}
use Rattle.gpt_copy.specs.declared.table.Which.TheVariants.{Primary}
use Rattle.gpt_copy.specs.Copy.{FitsDisk}
use Rattle.storage_model.specs.Soundness.{IsSoundBoard, IsSoundTable}
use Rattle.storage_model.specs.Variables.{IsText}
use Rattle.cuts.specs.States.{nothing, off_copies}
use Rattle.cuts.specs.Law.{IsStart, state_in}
use Rattle.cuts.specs.Orderly.{KeepsOffBoth}
use Rattle.cuts.specs.Spans.{Stands, Value, pending_of, state_of}
use Rattle.cuts.proofs.Copying.{copy_fits, table_fits}
use Rattle.cuts.proofs.Images.{image_kept}
use Rattle.cuts.proofs.Places.{entry_off}
use Rattle.cuts.proofs.Reading.{read_off}
use Rattle.cuts.proofs.Starts.{first_inside}

-- ONIE's image lies off the copies
pub sound_off : (size : ℕ) (z : ℕ → ℕ) (t : Table) → FitsDisk (size - 1) t → IsSoundTable z t → IsSoundTable (off_copies size z) t
sound_off size z t fits sound = record {
  sane = sound.sane;
  index = sound.index;
  onie = sound.onie;
  one = sound.one;
  image = image_kept z (off_copies size z) sound.onie (read_off size z sound.onie.first
      (entry_off size t sound.index sound.onie fits sound.sane sound.one.has.has sound.onie.first (first_inside z t sound)).off) sound.image;
}

pub board_starts : (v : Value) → Stands v → IsSoundTable v.disk v.table → IsText v.text → KeepsOffBoth (pending_of v) (state_of v) → IsStart v.view.size (state_of v) (pending_of v)
board_starts v stands sound text off =
    let fits = copy_fits Primary (v.view.size Disk) (v.view.reads Disk) v.table stands.table.primary in
    record { fits = fits; sound = sound_off (v.view.size Disk) v.disk v.table fits sound; text = text; off = off }

pub image_starts : (size : Area → ℕ) (c : Image) (sound : IsSoundBoard size c) → IsStart size (state_in size c sound) nothing
image_starts size c sound =
    let fits = table_fits (size Disk) (c Disk) sound.table sound.disk.table in
    record {
      fits = fits;
      sound = sound_off (size Disk) (c Disk) sound.table fits sound.disk.sound;
      text = sound.variables.text;
      off = record { onie = λ i e one q none. absurd none; named = λ i e named q none. absurd none };
    }
