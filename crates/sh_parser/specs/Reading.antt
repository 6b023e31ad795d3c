-- What a method of the reader answers.
use Rattle.std.specs.Prelude.{◌≡◌, ℕ, Bool, true, false, Option, Some, None, Result, Ok, Err, List, codes}
use Rattle.sh_tree.specs.declared.Part.{Part}
use Rattle.sh_tree.specs.declared.Part.TheVariants.{Arith}
use Rattle.sh_tree.specs.declared.Redir.{Redir}
use Rattle.sh_tree.specs.declared.Assign.{Assign}
use Rattle.sh_tree.specs.declared.Arm.{Arm}
use Rattle.sh_tree.specs.declared.AndOr.{AndOr}
use Rattle.sh_tree.specs.declared.Form.{Form}
use Rattle.sh_tree.specs.declared.Form.TheVariants.{Simple, If}
use Rattle.sh_tree.specs.declared.Command.{Command}
use Rattle.sh_text.specs.Front.{Text, follow, gap}
use Rattle.sh_parser.specs.declared.reader.Failed.{Failed}
use Rattle.sh_parser.specs.declared.reader.Failed.TheVariants.{Fault, Memory}
use Rattle.sh_parser.specs.declared.compound.Opening.{Opening}
use Rattle.sh_parser.specs.Faults.{stray_kind, stray_place}
use Rattle.sh_parser.specs.Grammar.{Phrase, list, simple, branches, compound, Value, Reads, Runs, done, faulty, stop, fault, call, separated, escaped, closed, with_redirs, compound_by, ended_words, IsProgram, IsFaultAt}

-- Ok with what stands at the front, and what follows it is left; a fault, and what begins at its place is left; or want of memory
abbrev pub Answers : (s : Phrase) → Text → Text → Result (Value s) Failed → Type 0
Answers s old new (Ok value) = Reads s old (done value new)
Answers s old new (Err (Fault kind)) = Reads s old (faulty kind new)
Answers s old new (Err Memory) = Unit {0}

pub record Reading (s : Phrase) (old new : Text) (result : Result (Value s) Failed) : Type 0 where
  pub is : Answers s old new result

-- what has to follow does, or the token that stands in its place can't
abbrev pub Follows : Option Text → ℕ → Text → Text → Result (Unit {0}) Failed → Type 0
Follows found depth old new (Ok _) = found ≡ Some new
Follows found depth old new (Err (Fault kind)) = (found ≡ None) × (kind ≡ stray_kind depth old) × (new ≡ stray_place old)
Follows found depth old new (Err Memory) = ⊥

-- another list follows a separator, or a token that can't stand here
abbrev pub Separates : ℕ → Text → Text → Result (Unit {0}) Failed → Type 0
Separates depth old new (Ok _) = separated depth old ≡ call (list depth) new stop
Separates depth old new (Err (Fault kind)) = separated depth old ≡ fault kind new
Separates depth old new (Err Memory) = ⊥

-- past `&&` (true) or `||` (false) and line ends, or at what is neither
abbrev pub Linked : Text → Text → Option Bool → Type 0
Linked old new None = (follow (codes "&&") (gap false old) ≡ None) × (follow (codes "||") (gap false old) ≡ None) × (new ≡ gap false old)
Linked old new (Some true) = (m : Text) × (follow (codes "&&") (gap false old) ≡ Some m) × (new ≡ gap true m)
Linked old new (Some false) = (m : Text) × (follow (codes "&&") (gap false old) ≡ None) × (follow (codes "||") (gap false old) ≡ Some m) × (new ≡ gap true m)

-- a simple command, of these assignments, words and redirections
abbrev pub AnswersSimple : ℕ → Text → Text → Result Command Failed → Type 0
AnswersSimple depth old new (Ok command) =
    (v : List Assign × List (List Part) × List Redir) × Reads (simple false depth) old (done v new) × (command ≡ with_redirs (Simple v.0 v.1) v.2)
AnswersSimple depth old new (Err (Fault kind)) = Reads (simple false depth) old (faulty kind new)
AnswersSimple depth old new (Err Memory) = Unit {0}

pub record SimpleReading (depth : ℕ) (old new : Text) (result : Result Command Failed) : Type 0 where
  pub is : AnswersSimple depth old new result

-- the branches behind an `if`
abbrev pub AnswersBranches : ℕ → Text → Text → Result Form Failed → Type 0
AnswersBranches depth old new (Ok form) =
    (v : List Arm × Option (List AndOr)) × Reads (branches depth) old (done v new) × (form ≡ If v.0 v.1)
AnswersBranches depth old new (Err (Fault kind)) = Reads (branches depth) old (faulty kind new)
AnswersBranches depth old new (Err Memory) = Unit {0}

pub record BranchesReading (depth : ℕ) (old new : Text) (result : Result Form Failed) : Type 0 where
  pub is : AnswersBranches depth old new result

-- the compound command that begins so
abbrev pub AnswersForm : Opening → ℕ → Text → Text → Result Form Failed → Type 0
AnswersForm opening depth old new (Ok form) = (n : ℕ) → Runs (compound n) (compound_by opening depth old) (done form new)
AnswersForm opening depth old new (Err (Fault kind)) = (n : ℕ) → Runs (compound n) (compound_by opening depth old) (faulty kind new)
AnswersForm opening depth old new (Err Memory) = Unit {0}

pub record FormReading (opening : Opening) (depth : ℕ) (old new : Text) (result : Result Form Failed) : Type 0 where
  pub is : AnswersForm opening depth old new result

-- what has to stand behind the words of `for`
abbrev pub EndsWords : ℕ → Text → Text → Result (Unit {0}) Failed → Type 0
EndsWords depth old new (Ok _) = (ws : List (List Part)) → ended_words depth ws old ≡ stop (Some ws) new
EndsWords depth old new (Err (Fault kind)) = (ws : List (List Part)) → ended_words depth ws old ≡ fault kind new
EndsWords depth old new (Err Memory) = ⊥

-- the byte behind a `\`, quoted
abbrev pub Escapes : Text → Text → Result (List Part) Failed → Type 0
Escapes old new (Ok ps) = escaped old ≡ stop ps new
Escapes old new (Err (Fault kind)) = escaped old ≡ fault kind new
Escapes old new (Err Memory) = Unit {0}

-- the `))` that has to stand behind arithmetic
abbrev pub Closes : Text → Text → Result (Unit {0}) Failed → Type 0
Closes old new (Ok _) = (q : Bool) (ps : List Part) → closed q ps old ≡ stop (Arith ps q) new
Closes old new (Err (Fault kind)) = (q : Bool) (ps : List Part) → closed q ps old ≡ fault kind new
Closes old new (Err Memory) = ⊥

-- a whole text: its program, or its first fault, where what is left begins
abbrev pub AnswersWhole : Text → Text → Result (List AndOr) Failed → Type 0
AnswersWhole text left (Ok tree) = IsProgram text tree
AnswersWhole text left (Err (Fault kind)) = IsFaultAt text kind left
AnswersWhole text left (Err Memory) = Unit {0}

pub record WholeReading (text left : Text) (result : Result (List AndOr) Failed) : Type 0 where
  pub is : AnswersWhole text left result
