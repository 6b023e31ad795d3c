-- The line at the front of a text.
use Rattle.std.specs.Prelude.{ℕ, ◌+◌, List, length, Bool, ◌&&◌, if◌then◌else◌, is_none, Option, Some, None}
use Rattle.std.specs.List.{before_first, list_any}
use Rattle.storage_model.specs.Tests.{is_end, variable_in}
use Rattle.storage_model.specs.Variables.{is_equals, is_variable, value_of}

-- the line without its end
abbrev pub line_in : List ℕ → List ℕ
line_in text = before_first is_end text

-- the line in front is one of a variable of a new name
unfoldable pub is_next_line : List ℕ → List ℕ → Bool
is_next_line before text =
    list_any is_end text && list_any is_equals (line_in text) && is_variable (variable_in (line_in text))
    && is_none (value_of before (variable_in (line_in text)).name)

-- the length of that line, with its end
unfoldable pub next_line : List ℕ → List ℕ → Option ℕ
next_line before text = if is_next_line before text then Some (length (line_in text) + 1) else None
