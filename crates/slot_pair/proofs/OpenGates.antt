-- What a gate's bytes say.
use Rattle.std.proofs.Common.{◌≡◌, ℕ, ◌*◌, ◌≤◌, List, take, Bool, sym, ◌∙◌, ap}
use Rattle.std.specs.Str.{bytes_eq}
use Rattle.bd_dev.specs.Content.{window}
use Rattle.bd_dev.proofs.Windows.{take-window}
use Rattle.slot_model.specs.Slots.{is_open_gate, open_word}

-- the gate in a sector whose first bytes are these
pub gate_is : (z : ℕ → ℕ) (gate n : ℕ) (sector : List ℕ) (says : Bool) → 8 ≤ n → window z (512 * gate) n ≡ sector → bytes_eq (take 8 sector) open_word ≡ says → is_open_gate z gate ≡ says
unfolding is_open_gate
gate_is z gate n sector says le is test = ap (λ (l : List ℕ). bytes_eq l open_word) (sym (take-window z (512 * gate) n 8 le) ∙ ap (λ (l : List ℕ). take 8 l) is) ∙ test
