-- The words of a line, which stand apart by one or more spaces.
use Rattle.std.specs.Prelude.{◌≡◌, ◌<◌, ℕ, ◌==◌, Bool, not, List, [], length, drop, filter, slice_index_or, ◌⊎◌}
use Rattle.std.specs.List.{position_or_len, slice_split}
use Rattle.net_script.specs.declared.fault.ScriptKind.{ScriptKind}
use Rattle.net_script.specs.declared.fault.ScriptKind.TheVariants.{Missing, Extra}

abbrev pub is_space : ℕ → Bool
is_space b = b == 0x20

-- those that are something
abbrev pub nonempty : List (List ℕ) → List (List ℕ)
nonempty parts = filter (λ w. not (length w == 0)) parts

-- what stands between spaces, before the first and behind the last, where it is something
abbrev pub words_of : List ℕ → List (List ℕ)
words_of line = nonempty (slice_split is_space line)

-- the word at a place
abbrev pub word : List (List ℕ) → ℕ → List ℕ
word words place = slice_index_or words place []

-- what begins with the next word
abbrev pub from_word : List ℕ → List ℕ
from_word text = drop (position_or_len (λ b. not (is_space b)) text) text

-- what begins with the next space
abbrev pub from_space : List ℕ → List ℕ
from_space text = drop (position_or_len is_space text) text

-- what begins with the third word, up to the line's end
abbrev pub label_of : List ℕ → List ℕ
label_of line = from_word (from_space (from_word (from_space (from_word line))))

-- there are not as many words as there should be
abbrev pub IsCountFault : ℕ → ℕ → ScriptKind → Type 0
IsCountFault wanted count kind =
    ((count < wanted) × (kind ≡ Missing)) ⊎ ((wanted < count) × (kind ≡ Extra))
