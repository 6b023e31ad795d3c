-- The bytes of a slot that is filled.
use Rattle.std.proofs.Common.{◌≡◌, inr, ℕ, ◌+◌, ◌*◌, ◌/◌, List, ◌++◌, length, replicate, ◌∙◌, arith}
use Rattle.bd_dev.specs.declared.plant.Area.{Area}
use Rattle.bd_dev.specs.Content.{window}
use Rattle.bd_dev.specs.Plant.{View}
use Rattle.bd_dev.proofs.Windows.{at_byte}
use Rattle.bd_dev.specs.Touching.{OnlyTouches}
use Rattle.slot_pair.specs.Body.{IsSpelled, Written, body_bytes, used_sectors}
use Rattle.slot_model.specs.Slots.{open_word}

-- the gate is opened before a body that is written
pub spelled : (area : Area) (gate number : ℕ) (content : List ℕ) (v w : View) → Written (v.reads area) (512 * (gate + 1)) (body_bytes number content) (512 * used_sectors (length content))
    → OnlyTouches area gate 1 v w → window (w.reads area) (512 * gate) 512 ≡ open_word ++ replicate 504 0 → IsSpelled (w.reads area) gate number content
spelled area gate number content v w written touches word = record {
  word = word;
  body = λ k lt.
      let at = 512 * (gate + 1) + k in
      at_byte (v.reads area) (w.reads area) at (touches.reads area (at / 512) (λ same. inr (omega arith))) ∙ written k lt;
}
