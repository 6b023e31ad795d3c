-- The grammar of the shell: what is read at a place, by what stands there
-- (POSIX.1-2017, "Shell Command Language", section 2.10, without what this shell leaves out).
use Rattle.std.specs.Prelude.{ℕ, ◌-◌, ◌==◌, Bool, true, false, not, ◌||◌, ◌&&◌, if◌then◌else◌, List, [], ◌∷◌, ◌++◌, drop, Option, Some, None, codes}
use Rattle.sh_tree.specs.declared.Part.{Part}
use Rattle.sh_tree.specs.declared.Part.TheVariants.{Byte, Param, Output, Arith}
use Rattle.sh_tree.specs.declared.Param.TheVariants.{Place as Positional}
use Rattle.sh_tree.specs.declared.Change.TheVariants.{Plain as Unchanged, Length as LengthOf}
use Rattle.sh_tree.specs.declared.Redir.{Redir}
use Rattle.sh_tree.specs.declared.Assign.{Assign, roll-Assign}
use Rattle.sh_tree.specs.declared.Arm.{Arm, roll-Arm}
use Rattle.sh_tree.specs.declared.Case.{Case, roll-Case}
use Rattle.sh_tree.specs.declared.Link.{Link, roll-Link}
use Rattle.sh_tree.specs.declared.Form.{Form}
use Rattle.sh_tree.specs.declared.Form.TheVariants.{Simple, Group, Subshell, If, Loop, For, Case as Choice, Function}
use Rattle.sh_tree.specs.declared.Command.{Command, roll-Command}
use Rattle.sh_tree.specs.declared.Pipeline.{Pipeline, roll-Pipeline}
use Rattle.sh_tree.specs.declared.AndOr.{AndOr, roll-AndOr}
use Rattle.sh_text.specs.declared.Class.TheVariants.{Name as Letters}
use Rattle.sh_text.specs.Front.{Text, joined, gap, follow, reserved, past, run, begins_name, ends_token, is_end, is_word, is_redirection, is_closing, is_opening, is_misplaced, is_reserved, ends_list}
use Rattle.sh_parser.specs.declared.SyntaxKind.{SyntaxKind}
use Rattle.sh_parser.specs.declared.SyntaxKind.TheVariants.{Unexpected, Unclosed, LeftOut, Deep, Nul}
use Rattle.sh_parser.specs.declared.words.Mode.{Mode}
use Rattle.sh_parser.specs.declared.words.Mode.TheVariants.{Bare, Double, Arithmetic}
use Rattle.sh_parser.specs.declared.words.Role.{Role}
use Rattle.sh_parser.specs.declared.words.Role.TheVariants.{Open, Nul as Zero, LeftOut as Backquote, Plain, Escape, Single, Double as Quotes, Dollar, Paren}
use Rattle.sh_parser.specs.declared.words.Shape.{Shape}
use Rattle.sh_parser.specs.declared.words.Shape.TheVariants.{Paren as AtParen, Brace, LeftOut as Excluded, Name as AtName, Digit, Sign, Plain as Itself}
use Rattle.sh_parser.specs.declared.braces.Content.{Content}
use Rattle.sh_parser.specs.declared.braces.Content.TheVariants.{Plain as Alone, Length, Changed, Malformed, Open as Cut}
use Rattle.sh_parser.specs.declared.redirection.Direction.{Direction}
use Rattle.sh_parser.specs.declared.redirection.Direction.TheVariants.{To, LeftOut as Forbidden, Open as Unfinished, Stopped}
use Rattle.sh_parser.specs.declared.compound.Opening.{Opening}
use Rattle.sh_parser.specs.declared.compound.Opening.TheVariants.{Subshell as OpenSubshell, Group as OpenGroup, If as OpenIf, While as OpenWhile, Until as OpenUntil, For as OpenFor, Case as OpenCase, Nothing as OpenNothing}
use Rattle.sh_parser.specs.Words.{stops_at, role_of, is_quoted, grouped, shape_of, param, past_subject, digit, content_of, named_at, past_content, change, word_mode}
use Rattle.sh_parser.specs.Faults.{begins, direct, stray_kind, stray_place}

-- What can be read at a place. The number says how many forms may still be opened in each other there.
pub data Phrase : Type 0 where
  single : Phrase
  parts : Mode → ℕ → Phrase
  piece : Mode → ℕ → Phrase
  dollar : Bool → ℕ → Phrase
  braces : Bool → ℕ → Phrase
  substitution : Bool → ℕ → Phrase
  list : ℕ → Phrase
  after : ℕ → Phrase
  some_list : ℕ → Phrase
  and_or : ℕ → Phrase
  links : ℕ → Phrase
  pipeline : ℕ → Phrase
  commands : ℕ → Phrase
  piped : ℕ → Phrase
  command : ℕ → Phrase
  function : ℕ → Phrase
  enclosed : ℕ → Phrase
  redirs : ℕ → Phrase
  redir : ℕ → Phrase
  simple : Bool → ℕ → Phrase
  assign : ℕ → Phrase
  compound : ℕ → Phrase
  branches : ℕ → Phrase
  otherwise : ℕ → Phrase
  turns : Bool → ℕ → Phrase
  do_group : ℕ → Phrase
  each : ℕ → Phrase
  each_words : ℕ → Phrase
  words : ℕ → Phrase
  choice : ℕ → Phrase
  cases : ℕ → Phrase
  case_item : ℕ → Phrase
  patterns : ℕ → Phrase

-- what it is read as
abbrev pub Value : Phrase → Type 0
Value single = List Part
Value (parts m d) = List Part
Value (piece m d) = List Part
Value (dollar q d) = Part
Value (braces q d) = Part
Value (substitution q d) = Part
Value (list d) = List AndOr
Value (after d) = List AndOr
Value (some_list d) = List AndOr
Value (and_or d) = AndOr
Value (links d) = List Link
Value (pipeline d) = Pipeline
Value (commands d) = List Command
Value (piped d) = List Command
Value (command d) = Command
Value (function d) = Command
Value (enclosed d) = Command
Value (redirs d) = List Redir
Value (redir d) = Redir
Value (simple seen d) = List Assign × List (List Part) × List Redir
Value (assign d) = Assign
Value (compound d) = Form
Value (branches d) = List Arm × Option (List AndOr)
Value (otherwise d) = Option (List AndOr)
Value (turns until d) = Form
Value (do_group d) = List AndOr
Value (each d) = Form
Value (each_words d) = Option (List (List Part))
Value (words d) = List (List Part)
Value (choice d) = Form
Value (cases d) = List Case
Value (case_item d) = Case
Value (patterns d) = List (List Part)

-- A production from here: a value with the text that follows it, a fault at a place, or a phrase that is read first.
pub data Body (A : Type 0) : Type 0 where
  stop : A → Text → Body A
  fault : SyntaxKind → Text → Body A
  call : (s : Phrase) → Text → (Value s → Text → Body A) → Body A

-- what follows, where it does, and else the other way
abbrev pub on : {A : Type 0} → Option Text → (Text → Body A) → Body A → Body A
on (Some r) there missing = there r
on None there missing = missing

-- a token that can't stand here
abbrev pub stray : {A : Type 0} → ℕ → Text → Body A
stray d t = fault (stray_kind d t) (stray_place t)

-- an operator, or a reserved word, that has to follow
abbrev pub need : {A : Type 0} → List ℕ → ℕ → Text → (Text → Body A) → Body A
need word d t there = on (follow word t) there (stray d t)

abbrev pub need_word : {A : Type 0} → List ℕ → ℕ → Text → (Text → Body A) → Body A
need_word word d t there = on (reserved word t) there (stray d t)

-- ---- words

-- in single quotes (2.2.2)
unfoldable pub single_rule : Text → Body (List Part)
single_rule [] = fault Unclosed []
single_rule (c ∷ t) = if c == 0 then fault Nul (c ∷ t) else (if c == 39 then stop [] t else call single t (λ ps r. stop (Byte c true ∷ ps) r))

unfoldable pub parts_rule : Mode → ℕ → Text → Body (List Part)
parts_rule m d t =
    if stops_at m (joined t) then stop [] (joined t)
    else call (piece m d) (joined t) (λ ps r. call (parts m d) r (λ qs s. stop (ps ++ qs) s))

-- a byte behind a `\`
abbrev pub escaped : Text → Body (List Part)
escaped [] = fault Unclosed []
escaped (c ∷ t) = if c == 0 then fault Nul (c ∷ t) else stop (Byte c true ∷ []) t

unfoldable pub piece_by : Role → Mode → ℕ → ℕ → Text → Body (List Part)
piece_by Open m d c t = fault Unclosed t
piece_by Zero m d c t = fault Nul (c ∷ t)
piece_by Backquote m d c t = fault LeftOut (c ∷ t)
piece_by Plain m d c t = stop (Byte c (is_quoted m) ∷ []) t
piece_by Escape m d c t = escaped t
piece_by Single m d c t = call single t (λ ps r. stop (grouped m ps) r)
piece_by Quotes m d c t = call (parts Double d) t (λ ps r. stop (grouped m ps) (drop 1 r))
piece_by Dollar m d c t = call (dollar (is_quoted m) d) (c ∷ t) (λ p r. stop (p ∷ []) r)
piece_by Paren m d c t =
    if d == 0 then fault Deep (c ∷ t)
    else call (parts Arithmetic (d - 1)) t (λ ps r. stop ((Byte 40 true ∷ ps) ++ Byte 41 true ∷ []) (drop 1 r))

unfoldable pub piece_rule : Mode → ℕ → Text → Body (List Part)
piece_rule m d [] = fault Unclosed []
piece_rule m d (c ∷ t) = piece_by (role_of m c t) m d c t

-- a `$`, where this follows it (2.5, 2.6)
unfoldable pub dollar_by : Shape → Bool → ℕ → Text → Text → Body Part
dollar_by AtParen q d t n = call (substitution q d) t stop
dollar_by Brace q d t n = call (braces q d) t stop
dollar_by Excluded q d t n = fault LeftOut t
dollar_by AtName q d t n = stop (Param (param n) Unchanged q) (past_subject n)
dollar_by Digit q d t n = stop (Param (Positional (digit n)) Unchanged q) (drop 1 n)
dollar_by Sign q d t n = stop (Param (param n) Unchanged q) (drop 1 n)
dollar_by Itself q d t n = stop (Byte 36 q) n

unfoldable pub dollar_rule : Bool → ℕ → Text → Body Part
dollar_rule q d t = dollar_by (shape_of (joined (drop 1 t))) q d t (joined (drop 1 t))

-- `${` at this place, whose content begins there
unfoldable pub braces_by : Content → Bool → ℕ → Text → Text → Body Part
braces_by Cut q d t n = fault Unclosed []
braces_by Malformed q d t n = fault Unexpected t
braces_by Alone q d t n = stop (Param (param n) Unchanged q) (past_content n false)
braces_by Length q d t n = stop (Param (param (named_at n)) LengthOf q) (past_content n false)
braces_by (Changed operator flag) q d t n =
    call (parts (word_mode operator q) (d - 1)) (past_content n flag) (λ w r. stop (Param (param n) (change operator flag w) q) (drop 1 r))

abbrev pub in_braces : Text → Text
in_braces t = joined (drop 1 (joined (drop 1 t)))

unfoldable pub braces_rule : Bool → ℕ → Text → Body Part
braces_rule q d t = if d == 0 then fault Deep t else braces_by (content_of (in_braces t)) q d t (in_braces t)

-- the `))` of arithmetic, from its first `)`
unfoldable pub closed : Bool → List Part → Text → Body Part
closed q ps r =
    on (follow (codes ")") (joined (drop 1 r))) (λ s. stop (Arith ps q) s)
    (if is_end (joined (drop 1 r)) then fault Unclosed (drop 1 (joined (drop 1 r))) else fault Unexpected r)

abbrev pub in_parens : Text → Text
in_parens t = drop 1 (joined (drop 1 t))

unfoldable pub substitution_rule : Bool → ℕ → Text → Body Part
substitution_rule q d t =
    if d == 0 then fault Deep t
    else on (follow (codes "(") (in_parens t))
    (λ m. call (parts Arithmetic (d - 1)) m (closed q))
    (call (list (d - 1)) (in_parens t) (λ l r. need (codes ")") (d - 1) r (λ s. stop (Output l q) s)))

-- ---- lists and pipelines

unfoldable pub list_rule : ℕ → Text → Body (List AndOr)
list_rule d t =
    if ends_list (gap true t) then stop [] (gap true t)
    else call (and_or d) (gap true t) (λ a m. call (after d) m (λ more r. stop (a ∷ more) r))

-- a `;` or a line end
abbrev pub is_separator : ℕ → Bool
is_separator c = c == 10 || c == 59

unfoldable pub separated : ℕ → Text → Body (List AndOr)
separated d [] = stray d []
separated d (c ∷ t) = if is_separator c then call (list d) t stop else stray d (c ∷ t)

unfoldable pub after_rule : ℕ → Text → Body (List AndOr)
after_rule d t = if ends_list (gap false t) then stop [] (gap false t) else separated d (gap false t)

unfoldable pub some_list_rule : ℕ → Text → Body (List AndOr)
some_list_rule d t = if ends_list (gap true t) then stray d (gap true t) else call (list d) (gap true t) stop

unfoldable pub and_or_rule : ℕ → Text → Body AndOr
and_or_rule d t = call (pipeline d) t (λ p m. call (links d) m (λ ls r. stop (roll-AndOr (record { first = p; rest = ls })) r))

abbrev pub linked : Bool → ℕ → Text → Body (List Link)
linked when_ok d m = call (pipeline d) (gap true m) (λ p r. call (links d) r (λ ls s. stop (roll-Link (record { when_ok = when_ok; next = p }) ∷ ls) s))

-- `&&` and `||` bind alike, from the left
unfoldable pub links_rule : ℕ → Text → Body (List Link)
links_rule d t = on (follow (codes "&&") (gap false t)) (linked true d) (on (follow (codes "||") (gap false t)) (linked false d) (stop [] (gap false t)))

abbrev pub piped_together : Bool → List Command → Pipeline
piped_together negated cs = roll-Pipeline (record { negated = negated; commands = cs })

unfoldable pub pipeline_rule : ℕ → Text → Body Pipeline
pipeline_rule d t =
    on (reserved (codes "!") t)
    (λ m. call (commands d) (gap false m) (λ cs r. stop (piped_together true cs) r))
    (call (commands d) t (λ cs r. stop (piped_together false cs) r))

unfoldable pub commands_rule : ℕ → Text → Body (List Command)
commands_rule d t = call (command d) t (λ c m. call (piped d) m (λ cs r. stop (c ∷ cs) r))

-- what follows a `|` that isn't `||`
unfoldable pub single_bar : Text → Option Text
single_bar t = if begins (codes "||") t then None else follow (codes "|") t

unfoldable pub piped_rule : ℕ → Text → Body (List Command)
piped_rule d t = on (single_bar (gap false t)) (λ m. call (commands d) (gap true m) stop) (stop [] (gap false t))

-- ---- commands

-- what follows `NAME (`
unfoldable pub past_function_name : Text → Option Text
past_function_name t = if begins_name t then follow (codes "(") (gap false (past Letters t)) else None

unfoldable pub is_assignment : Text → Bool
is_assignment t = begins_name t && begins (codes "=") (past Letters t)

abbrev pub with_redirs : Form → List Redir → Command
with_redirs f rs = roll-Command (record { form = f; redirs = rs })

-- no command begins here
unfoldable pub begins_nothing : Text → Bool
begins_nothing t = is_misplaced t || not (is_word t || is_redirection t)

unfoldable pub command_rule : ℕ → Text → Body Command
command_rule d t =
    if is_opening t then call (enclosed d) t stop
    else (if begins_nothing t then stray d t
    else on (past_function_name t) (λ m. call (function d) t stop) (call (simple false d) t (λ v r. stop (with_redirs (Simple v.0 v.1) v.2) r)))

unfoldable pub body_of : List ℕ → ℕ → Text → Body Command
body_of name d t =
    if is_opening t then call (enclosed d) t (λ c r. stop (with_redirs (Function name c) []) r) else stray d t

unfoldable pub function_rule : ℕ → Text → Body Command
function_rule d t = on (past_function_name t) (λ m. need (codes ")") d (gap false m) (λ r. body_of (run Letters t) d (gap true r))) (stray d t)

abbrev pub is_nil : {A : Type 0} → List A → Bool
is_nil [] = true
is_nil (x ∷ xs) = false

-- Behind a compound command stands no word, but for a reserved word that ends a list, right behind the command.
unfoldable pub is_stuck : Bool → Text → Bool
is_stuck bare t = is_word t && not (bare && is_closing t)

unfoldable pub enclosed_rule : ℕ → Text → Body Command
enclosed_rule d t =
    call (compound d) t (λ f m. call (redirs d) m (λ rs r.
    if is_stuck (is_nil rs) r then stray d r else stop (with_redirs f rs) r))

unfoldable pub redirs_rule : ℕ → Text → Body (List Redir)
redirs_rule d t =
    if is_redirection (gap false t) then call (redir d) (gap false t) (λ x m. call (redirs d) m (λ xs r. stop (x ∷ xs) r))
    else stop [] (gap false t)

abbrev pub redir_by : Direction → ℕ → Text → Text → Body Redir
redir_by (To x) d t r = stop x r
redir_by Forbidden d t r = fault LeftOut t
redir_by Unfinished d t r = fault Unclosed r
redir_by Stopped d t r = stray d r

unfoldable pub redir_rule : ℕ → Text → Body Redir
redir_rule d t = redir_by (direct t).direction d t (direct t).rest

-- assignments while there are no words, words, and redirections among them (2.9.1)
unfoldable pub assigns_at : Bool → Text → Bool
assigns_at seen t = not seen && is_assignment t

unfoldable pub simple_at : Bool → ℕ → Text → Body (List Assign × List (List Part) × List Redir)
simple_at seen d t =
    if is_redirection t then call (redir d) t (λ x m. call (simple seen d) m (λ v r. stop (v.0, v.1, x ∷ v.2) r))
    else (if not (is_word t) then stop ([], [], []) t
    else (if assigns_at seen t then call (assign d) t (λ a m. call (simple false d) m (λ v r. stop (a ∷ v.0, v.1, v.2) r))
    else call (parts Bare d) t (λ w m. call (simple true d) m (λ v r. stop (v.0, w ∷ v.1, v.2) r))))

unfoldable pub assign_rule : ℕ → Text → Body Assign
assign_rule d t = need (codes "=") d (past Letters t) (λ m. call (parts Bare d) m (λ v r. stop (roll-Assign (record { name = run Letters t; value = v })) r))

-- ---- compound commands (2.9.4)

-- which compound command begins here
unfoldable pub opening : Text → Opening
opening t =
    if begins (codes "(") t then OpenSubshell
    else (if is_reserved (codes "{") t then OpenGroup
    else (if is_reserved (codes "if") t then OpenIf
    else (if is_reserved (codes "while") t then OpenWhile
    else (if is_reserved (codes "until") t then OpenUntil
    else (if is_reserved (codes "for") t then OpenFor
    else (if is_reserved (codes "case") t then OpenCase
    else OpenNothing))))))

unfoldable pub compound_by : Opening → ℕ → Text → Body Form
compound_by OpenSubshell d t = need (codes "(") d t (λ m. call (some_list d) m (λ l r. need (codes ")") d r (stop (Subshell l))))
compound_by OpenGroup d t = need_word (codes "{") d t (λ m. call (some_list d) m (λ l r. need_word (codes "}") d r (stop (Group l))))
compound_by OpenIf d t = need_word (codes "if") d t (λ m. call (branches d) m (λ v r. stop (If v.0 v.1) r))
compound_by OpenWhile d t = need_word (codes "while") d t (λ m. call (turns false d) m stop)
compound_by OpenUntil d t = need_word (codes "until") d t (λ m. call (turns true d) m stop)
compound_by OpenFor d t = need_word (codes "for") d t (λ m. call (each d) m stop)
compound_by OpenCase d t = need_word (codes "case") d t (λ m. call (choice d) m stop)
compound_by OpenNothing d t = stray d t

unfoldable pub compound_rule : ℕ → Text → Body Form
compound_rule d t = if d == 0 then fault Deep t else compound_by (opening t) (d - 1) t

abbrev pub arm : List AndOr → List AndOr → Arm
arm test body = roll-Arm (record { test = test; body = body })

-- behind a branch: `elif` and more of them, or `else`, or `fi`
unfoldable pub next_branch : ℕ → Arm → Text → Body (List Arm × Option (List AndOr))
next_branch d a t =
    on (reserved (codes "elif") t) (λ m. call (branches d) m (λ v r. stop (a ∷ v.0, v.1) r)) (call (otherwise d) t (λ l r. stop (a ∷ [], l) r))

unfoldable pub branches_rule : ℕ → Text → Body (List Arm × Option (List AndOr))
branches_rule d t =
    call (some_list d) t (λ test m. need_word (codes "then") d m (λ r. call (some_list d) r (λ body s. next_branch d (arm test body) s)))

unfoldable pub otherwise_rule : ℕ → Text → Body (Option (List AndOr))
otherwise_rule d t =
    on (reserved (codes "else") t)
    (λ m. call (some_list d) m (λ l r. need_word (codes "fi") d r (stop (Some l))))
    (need_word (codes "fi") d t (stop None))

unfoldable pub turns_rule : Bool → ℕ → Text → Body Form
turns_rule until d t = call (some_list d) t (λ test m. call (do_group d) m (λ body r. stop (Loop until test body) r))

unfoldable pub do_group_rule : ℕ → Text → Body (List AndOr)
do_group_rule d t = need_word (codes "do") d t (λ m. call (some_list d) m (λ l r. need_word (codes "done") d r (stop l)))

-- a word that is a name
unfoldable pub is_name : Text → Bool
is_name t = begins_name t && ends_token (past Letters t)

unfoldable pub each_at : ℕ → Text → Body Form
each_at d t =
    if is_name t then call (each_words d) (gap false (past Letters t)) (λ ws m. call (do_group d) m (λ body r. stop (For (run Letters t) ws body) r))
    else stray d t

unfoldable pub single_semicolon : Text → Option Text
single_semicolon t = if begins (codes ";;") t then None else follow (codes ";") t

-- behind the words of `for`: a `;` or a line end, and line ends
unfoldable pub ended_words : ℕ → List (List Part) → Text → Body (Option (List (List Part)))
ended_words d ws t =
    on (single_semicolon t) (λ r. stop (Some ws) (gap true r)) (need (codes "\n") d t (λ r. stop (Some ws) (gap true r)))

unfoldable pub each_words_rule : ℕ → Text → Body (Option (List (List Part)))
each_words_rule d t =
    on (single_semicolon t) (λ r. stop None (gap true r))
    (on (reserved (codes "in") (gap true t)) (λ m. call (words d) m (λ ws r. ended_words d ws r)) (stop None (gap true t)))

unfoldable pub words_rule : ℕ → Text → Body (List (List Part))
words_rule d t =
    if is_word (gap false t) then call (parts Bare d) (gap false t) (λ w m. call (words d) m (λ ws r. stop (w ∷ ws) r))
    else stop [] (gap false t)

unfoldable pub choice_at : ℕ → Text → Body Form
choice_at d t =
    if is_word t then call (parts Bare d) t (λ w m. need_word (codes "in") d (gap true m) (λ r. call (cases d) r (λ cs s. stop (Choice w cs) s)))
    else stray d t

-- behind an item of `case`: `;;` and more of them, or `esac`
unfoldable pub next_case : ℕ → Case → Text → Body (List Case)
next_case d a t =
    on (follow (codes ";;") t) (λ m. call (cases d) m (λ cs r. stop (a ∷ cs) r)) (need_word (codes "esac") d t (stop (a ∷ [])))

unfoldable pub cases_at : ℕ → Text → Body (List Case)
cases_at d t = on (reserved (codes "esac") t) (stop []) (call (case_item d) t (λ a m. next_case d a m))

abbrev pub opened : Text → Text
opened t = elim (follow (codes "(") t) [ Some r ↦ gap false r | None ↦ t ]

unfoldable pub case_item_rule : ℕ → Text → Body Case
case_item_rule d t =
    call (patterns d) (opened t) (λ ps m. call (list d) m (λ body r. stop (roll-Case (record { patterns = ps; body = body })) r))

-- behind a pattern: `)`, or `|` and more of them
unfoldable pub next_pattern : ℕ → List Part → Text → Body (List (List Part))
next_pattern d w t =
    on (follow (codes ")") t) (stop (w ∷ []))
    (on (single_bar t) (λ r. call (patterns d) (gap false r) (λ ws s. stop (w ∷ ws) s)) (stray d t))

unfoldable pub patterns_rule : ℕ → Text → Body (List (List Part))
patterns_rule d t = if is_word t then call (parts Bare d) t (λ w m. next_pattern d w (gap false m)) else stray d t

-- The production of each phrase.
abbrev pub rule : (s : Phrase) → Text → Body (Value s)
rule single t = single_rule t
rule (parts m d) t = parts_rule m d t
rule (piece m d) t = piece_rule m d t
rule (dollar q d) t = dollar_rule q d t
rule (braces q d) t = braces_rule q d t
rule (substitution q d) t = substitution_rule q d t
rule (list d) t = list_rule d t
rule (after d) t = after_rule d t
rule (some_list d) t = some_list_rule d t
rule (and_or d) t = and_or_rule d t
rule (links d) t = links_rule d t
rule (pipeline d) t = pipeline_rule d t
rule (commands d) t = commands_rule d t
rule (piped d) t = piped_rule d t
rule (command d) t = command_rule d t
rule (function d) t = function_rule d t
rule (enclosed d) t = enclosed_rule d t
rule (redirs d) t = redirs_rule d t
rule (redir d) t = redir_rule d t
rule (simple seen d) t = simple_at seen d (gap false t)
rule (assign d) t = assign_rule d t
rule (compound d) t = compound_rule d t
rule (branches d) t = branches_rule d t
rule (otherwise d) t = otherwise_rule d t
rule (turns until d) t = turns_rule until d t
rule (do_group d) t = do_group_rule d t
rule (each d) t = each_at d (gap false t)
rule (each_words d) t = each_words_rule d t
rule (words d) t = words_rule d t
rule (choice d) t = choice_at d (gap false t)
rule (cases d) t = cases_at d (gap true t)
rule (case_item d) t = case_item_rule d t
rule (patterns d) t = patterns_rule d t

-- ---- what a text is read as

-- a value, and the text that follows it, or the fault that is met, where this text begins
pub data Outcome (A : Type 0) : Type 0 where
  done : A → Text → Outcome A
  faulty : SyntaxKind → Text → Outcome A

-- The front of a text is read as this: by its production, whose phrases are read in order, up to the first fault.
mutual
  pub data Reads : (s : Phrase) → Text → Outcome (Value s) → Type 0 where
    by_rule : {s : Phrase} {t : Text} {o : Outcome (Value s)} → Runs s (rule s t) o → Reads s t o

  pub data Runs : (s : Phrase) → Body (Value s) → Outcome (Value s) → Type 0 where
    stops : {s : Phrase} {v : Value s} {r : Text} → Runs s (stop v r) (done v r)
    fails : {s : Phrase} {k : SyntaxKind} {r : Text} → Runs s (fault k r) (faulty k r)
    reads : {s a : Phrase} {t r : Text} {v : Value a} {f : Value a → Text → Body (Value s)} {o : Outcome (Value s)} → Reads a t (done v r) → Runs s (f v r) o → Runs s (call a t f) o
    reads_fault : {s a : Phrase} {t r : Text} {k : SyntaxKind} {f : Value a → Text → Body (Value s)} → Reads a t (faulty k r) → Runs s (call a t f) (faulty k r)

-- a whole text: the list, up to its end
pub record IsProgram (text : Text) (tree : List AndOr) : Type 0 where
  pub whole : Reads (list 64) text (done tree [])

-- a text whose first fault is this one, where this rest begins
pub data IsFaultAt : Text → SyntaxKind → Text → Type 0 where
  within : {t r : Text} {k : SyntaxKind} → Reads (list 64) t (faulty k r) → IsFaultAt t k r
  behind : {t r : Text} {c : ℕ} {tree : List AndOr} → Reads (list 64) t (done tree (c ∷ r)) → IsFaultAt t (stray_kind 64 (c ∷ r)) (stray_place (c ∷ r))
