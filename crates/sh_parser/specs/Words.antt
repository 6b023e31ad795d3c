-- What the bytes of a word begin.
use Rattle.std.specs.Prelude.{ℕ, ◌-◌, ◌==◌, Bool, true, false, not, ◌||◌, ◌&&◌, if◌then◌else◌, List, [], ◌∷◌, drop}
use Rattle.sh_tree.specs.declared.Part.{Part}
use Rattle.sh_tree.specs.declared.Part.TheVariants.{EmptyQuotes}
use Rattle.sh_tree.specs.declared.Param.{Param}
use Rattle.sh_tree.specs.declared.Param.TheVariants.{Name as Variable, Place as Positional, Count as Number, Fields as AllFields, Joined as OneField, Status as LastStatus}
use Rattle.sh_tree.specs.declared.Change.{Change}
use Rattle.sh_tree.specs.declared.Change.TheVariants.{Else as OrElse, Assign as OrAssign, Fail as OrFail, Also as AndAlso, CutEnd as WithoutEnd, CutFront as WithoutFront}
use Rattle.sh_text.specs.declared.Class.TheVariants.{Digits, Name as Letters}
use Rattle.sh_text.specs.Front.{Text, joined, past, run, number, is_end, is_digit, is_initial, ends_word}
use Rattle.sh_parser.specs.declared.words.Mode.{Mode}
use Rattle.sh_parser.specs.declared.words.Mode.TheVariants.{Bare, Double, Braces, QuotedBraces, Arithmetic}
use Rattle.sh_parser.specs.declared.words.Role.{Role}
use Rattle.sh_parser.specs.declared.words.Role.TheVariants.{Open, Nul, LeftOut, Plain, Escape, Single, Double as Quotes, Dollar, Paren}
use Rattle.sh_parser.specs.declared.words.Shape.{Shape}
use Rattle.sh_parser.specs.declared.words.Shape.TheVariants.{Paren as AtParen, Brace, LeftOut as Excluded, Name as AtName, Digit, Sign, Plain as Itself}
use Rattle.sh_parser.specs.declared.braces.Subject.{Subject}
use Rattle.sh_parser.specs.declared.braces.Subject.TheVariants.{Name, Place, Count, Fields, Joined, Status, Absent}
use Rattle.sh_parser.specs.declared.braces.Operator.{Operator}
use Rattle.sh_parser.specs.declared.braces.Operator.TheVariants.{Else, Assign, Fail, Also, CutEnd, CutFront}
use Rattle.sh_parser.specs.declared.braces.Content.{Content}
use Rattle.sh_parser.specs.declared.braces.Content.TheVariants.{Plain as Alone, Length, Changed, Malformed, Open as Cut}
use Rattle.sh_parser.specs.Modes.{is_double}

-- bytes are quoted here
abbrev pub is_quoted : Mode → Bool
is_quoted Bare = false
is_quoted Double = true
is_quoted Braces = false
is_quoted QuotedBraces = true
is_quoted Arithmetic = true

abbrev pub is_quoted_braces : Mode → Bool
is_quoted_braces Bare = false
is_quoted_braces Double = false
is_quoted_braces Braces = false
is_quoted_braces QuotedBraces = true
is_quoted_braces Arithmetic = false

abbrev pub is_arithmetic : Mode → Bool
is_arithmetic Bare = false
is_arithmetic Double = false
is_arithmetic Braces = false
is_arithmetic QuotedBraces = false
is_arithmetic Arithmetic = true

-- a byte that ends the parts
abbrev pub stops : Mode → ℕ → Bool
stops Bare c = ends_word c
stops Double c = c == 34
stops Braces c = c == 125
stops QuotedBraces c = c == 125
stops Arithmetic c = c == 41

-- the parts may end with the text
abbrev pub may_end : Mode → Bool
may_end Bare = true
may_end Double = false
may_end Braces = false
may_end QuotedBraces = false
may_end Arithmetic = false

unfoldable pub stops_at : Mode → Text → Bool
stops_at m [] = may_end m
stops_at m (c ∷ t) = stops m c

-- a byte that a `\` quotes (2.2.1, 2.2.3)
abbrev pub escapes : Mode → ℕ → Bool
escapes m c = not (is_quoted m) || c == 36 || c == 96 || c == 34 || c == 92 || (c == 125 && is_quoted_braces m)

abbrev pub backslash : Mode → Text → Role
backslash m [] = Open
backslash m (c ∷ t) = if escapes m c then Escape else Plain

-- what a byte begins that doesn't end the parts
unfoldable pub role_of : Mode → ℕ → Text → Role
role_of m c t =
    if c == 0 then Nul
    else (if c == 96 then LeftOut
    else (if c == 36 then Dollar
    else (if c == 92 then backslash m t
    else (if c == 34 && not (is_arithmetic m) && not (is_double m) then Quotes
    else (if c == 39 && not (is_quoted m) then Single
    else (if c == 40 && is_arithmetic m then Paren
    else Plain))))))

-- quotes with nothing in them are a part of their own, but not where they only group
abbrev pub quoted_parts : List Part → List Part
quoted_parts [] = EmptyQuotes ∷ []
quoted_parts (p ∷ ps) = p ∷ ps

unfoldable pub grouped : Mode → List Part → List Part
grouped m ps = if is_quoted m then ps else quoted_parts ps

-- which parameter's name begins here (2.5)
unfoldable pub subject_of : Text → Subject
subject_of [] = Absent
subject_of (c ∷ t) =
    if is_initial c then Name
    else (if is_digit c then Place
    else (if c == 35 then Count
    else (if c == 64 then Fields
    else (if c == 42 then Joined
    else (if c == 63 then Status
    else Absent)))))

abbrev pub past_subject_by : Subject → Text → Text
past_subject_by Name t = past Letters t
past_subject_by Place t = past Digits t
past_subject_by Count t = joined (drop 1 t)
past_subject_by Fields t = joined (drop 1 t)
past_subject_by Joined t = joined (drop 1 t)
past_subject_by Status t = joined (drop 1 t)
past_subject_by Absent t = t

-- what follows it in braces, where all digits belong to a number
unfoldable pub past_subject : Text → Text
past_subject t = past_subject_by (subject_of t) t

abbrev pub param_by : Subject → Text → Param
param_by Name t = Variable (run Letters t)
param_by Place t = Positional (number t)
param_by Count t = Number
param_by Fields t = AllFields
param_by Joined t = OneField
param_by Status t = LastStatus
param_by Absent t = Number

unfoldable pub param : Text → Param
param t = param_by (subject_of t) t

abbrev pub absent : Subject → Bool
absent Name = false
absent Place = false
absent Count = false
absent Fields = false
absent Joined = false
absent Status = false
absent Absent = true

unfoldable pub is_absent : Text → Bool
is_absent t = absent (subject_of t)

unfoldable pub begins_byte : ℕ → Text → Bool
begins_byte byte [] = false
begins_byte byte (c ∷ t) = c == byte

-- a `#` stands here that asks for the length of what follows it
unfoldable pub is_length : Text → Bool
is_length t = begins_byte 35 t && (not (is_absent (joined (drop 1 t))) && begins_byte 125 (past_subject (joined (drop 1 t))))

-- the text ends behind a `#` and a parameter's name
unfoldable pub is_length_open : Text → Bool
is_length_open t = begins_byte 35 t && (not (is_absent (joined (drop 1 t))) && is_end (past_subject (joined (drop 1 t))))

abbrev pub choice : ℕ → Bool → Content
choice c flag =
    if c == 45 then Changed Else flag
    else (if c == 61 then Changed Assign flag
    else (if c == 63 then Changed Fail flag
    else (if c == 43 then Changed Also flag
    else Malformed)))

unfoldable pub coloned : Text → Content
coloned [] = Cut
coloned (c ∷ t) = if is_end (c ∷ t) then Cut else choice c true

-- the change that begins where a parameter's name has ended (2.6.2)
unfoldable pub change_at : Text → Content
change_at [] = Cut
change_at (c ∷ t) =
    if is_end (c ∷ t) then Cut
    else (if c == 125 then Alone
    else (if c == 58 then coloned (joined t)
    else (if c == 37 then Changed CutEnd (begins_byte 37 (joined t))
    else (if c == 35 then Changed CutFront (begins_byte 35 (joined t))
    else choice c false))))

-- what stands in braces whose content begins here
unfoldable pub content_of : Text → Content
content_of t =
    if is_absent t then (if is_end t then Cut else Malformed)
    else (if is_length_open t then Cut
    else (if is_length t then Length
    else change_at (past_subject t)))

-- where the name of the parameter begins of which the content speaks
unfoldable pub named_at : Text → Text
named_at t = if is_length t then joined (drop 1 t) else t

-- what follows the content, but for the word of a change
unfoldable pub past_content : Text → Bool → Text
past_content t flag = if flag then drop 1 (joined (drop 1 (past_subject (named_at t)))) else drop 1 (past_subject (named_at t))

abbrev pub change : Operator → Bool → List Part → Change
change Else flag w = OrElse flag w
change Assign flag w = OrAssign flag w
change Fail flag w = OrFail flag w
change Also flag w = AndAlso flag w
change CutEnd flag w = WithoutEnd flag w
change CutFront flag w = WithoutFront flag w

-- how the word of a change is read (2.6.2)
abbrev pub in_quotes : Bool → Mode
in_quotes quoted = if quoted then QuotedBraces else Braces

abbrev pub word_mode : Operator → Bool → Mode
word_mode Else q = in_quotes q
word_mode Assign q = in_quotes q
word_mode Fail q = in_quotes q
word_mode Also q = in_quotes q
word_mode CutEnd q = Braces
word_mode CutFront q = Braces

abbrev pub sign_shape : Subject → Shape
sign_shape Name = AtName
sign_shape Place = Digit
sign_shape Count = Sign
sign_shape Fields = Sign
sign_shape Joined = Sign
sign_shape Status = Sign
sign_shape Absent = Itself

-- what a `$` before this text begins (2.6)
unfoldable pub shape_of : Text → Shape
shape_of [] = Itself
shape_of (c ∷ t) =
    if c == 40 then AtParen
    else (if c == 123 then Brace
    else (if c == 36 || c == 33 || c == 45 then Excluded
    else sign_shape (subject_of (c ∷ t))))

abbrev pub digit : Text → ℕ
digit [] = 0
digit (c ∷ t) = c - 48
