-- Where the next word and the next space of a text begin.
use Rattle.std.proofs.Common.{◌≡◌, ℕ, ◌<◌, ◌≤◌, ◌-◌, List, length, take, drop, get_or, Bool, true, false, sym, ◌∙◌, ap, arith}
use Rattle.std.specs.List.{position_or_len}
use Rattle.std.proofs.lemmas.List.{take_all, length-drop}
use Rattle.std.proofs.lemmas.List.Sums.{position_or_len_is}

-- what begins at the first element that passes
pub drop_to : (p : ℕ → Bool) (text : List ℕ) (at : ℕ) → at ≤ length text → ((k : ℕ) → k < at → p (get_or text k 0) ≡ false) → (at < length text → p (get_or text at 0) ≡ true)
    → take (length text - at) (drop at text) ≡ drop (position_or_len p text) text
drop_to p text at within passed here =
    take_all (length text - at) (drop at text) (omega (arith, length-drop at text)) ∙ ap (λ (n : ℕ). drop n text) (sym (position_or_len_is p text at 0 within passed here))
