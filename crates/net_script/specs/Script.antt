-- What a script says, or its first wrong line.
use Rattle.std.specs.Prelude.{◌≡◌, ◌⊎◌, ◌≤◌, ◌+◌, ◌==◌, ◌||◌, Bool, false, IsTrue, ℕ, List, [], ◌∷◌, ◌++◌, length, slice_index, Result, Ok, Err}
use Rattle.std.specs.List.{slice_split}
use Rattle.net_script.specs.Faults.{IsLineFault}
use Rattle.net_script.specs.Lines.{Says, has_flow, ifaces_of}
use Rattle.net_script.specs.Tests.{Unless}
use Rattle.net_script.specs.declared.fault.ScriptFault.{ScriptFault}
use Rattle.net_script.specs.declared.fault.ScriptFault.TheVariants.{Bad, Memory}
use Rattle.net_script.specs.declared.fault.ScriptKind.{ScriptKind}
use Rattle.net_script.specs.declared.fault.ScriptKind.TheVariants.{TooLong}
use Rattle.net_script.specs.declared.line.Line.{Line}
use Rattle.net_script.specs.declared.line.Numbered.{Numbered}

-- a wrong line by its number, and what is wrong with it
pub record Fault : Type 0 where
  pub line : ℕ
  pub kind : ScriptKind

-- a line that says nothing: it is empty, or begins with `#`
abbrev pub is_skipped : List ℕ → Bool
is_skipped text = (length text == 0) || (slice_index text 0 == 0x23)

-- the texts of the lines, each of which ends with LF, but for the last, which may lack it
abbrev pub texts_of : List ℕ → List (List ℕ)
texts_of text = slice_split (λ b. b == 0x0A) text

-- the line says this, and the rest is as given; or it is wrong, and that is the answer
abbrev pub Goes
    : List Numbered → ℕ → List ℕ → Result (List Numbered) Fault → (List Numbered → Type 0) → Type 0
Goes before number text answer then =
    ((line : Line) × Says (ifaces_of before) (has_flow before) text line
    × then (before ++ record { number = number; line = line } ∷ []))
    ⊎ ((kind : ScriptKind) × IsLineFault (ifaces_of before) (has_flow before) text kind
    × (answer ≡ Err (record { line = number; kind = kind })))

-- What texts of lines from a number on say, behind those before: all their lines, or the first wrong one.
abbrev pub Reads : List Numbered → ℕ → List (List ℕ) → Result (List Numbered) Fault → Type 0
Reads before number [] answer = answer ≡ Ok before
Reads before number (text ∷ texts) answer =
    (IsTrue (is_skipped text) × Reads before (number + 1) texts answer)
    ⊎ ((is_skipped text ≡ false) × Goes before number text answer (λ lines. Reads lines (number + 1) texts answer))

-- What a script says. One of more than 16,777,216 bytes is too long, as line 0.
abbrev pub ReadsScript : List ℕ → Result (List Numbered) Fault → Type 0
ReadsScript text answer =
    Unless (length text ≤ 16777216) (answer ≡ Err (record { line = 0; kind = TooLong })) (Reads [] 1 (texts_of text) answer)

-- this is the answer of a reading, unless there is no memory
abbrev pub Answers : Result (List Numbered) ScriptFault → Result (List Numbered) Fault → Type 0
Answers result (Ok lines) = (result ≡ Ok lines) ⊎ (result ≡ Err Memory)
Answers result (Err fault) = (result ≡ Err (Bad fault.line fault.kind)) ⊎ (result ≡ Err Memory)

-- what is kept of lines beside them: the names of their interfaces, and whether one is a `flow` line
pub record IsKept (lines : List Numbered) (ifaces : List (List ℕ)) (flow : Bool) : Type 0 where
  pub names : ifaces ≡ ifaces_of lines
  pub flows : flow ≡ has_flow lines
  pub few : length ifaces ≤ 8

-- the text is skipped, or says one more line
abbrev pub Takes : List Numbered → ℕ → List ℕ → List Numbered → Type 0
Takes before number text after =
    (IsTrue (is_skipped text) × (after ≡ before))
    ⊎ ((is_skipped text ≡ false) × (line : Line) × Says (ifaces_of before) (has_flow before) text line
    × (after ≡ before ++ record { number = number; line = line } ∷ []))
