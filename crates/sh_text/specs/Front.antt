-- What stands at the front of a text of the shell.
use Rattle.std.specs.Prelude.{ℕ, ◌+◌, ◌-◌, ◌*◌, min, Bool, true, false, not, ◌||◌, ◌&&◌, ◌==◌, nat_le, is_some, if◌then◌else◌, List, [], ◌∷◌, Option, Some, None, codes}
use Rattle.sh_text.specs.declared.Class.{Class}
use Rattle.sh_text.specs.declared.Class.TheVariants.{Digits, Name}

abbrev pub Text : Type 0
Text = List ℕ

-- a blank: a space or a tab
abbrev pub is_blank : ℕ → Bool
is_blank c = c == 32 || c == 9

-- a byte that ends a word where it isn't quoted: a blank, a line end or the first of an operator
abbrev pub ends_word : ℕ → Bool
ends_word c = is_blank c || c == 10 || c == 38 || c == 40 || c == 41 || c == 59 || c == 60 || c == 62 || c == 124

-- a decimal digit
abbrev pub is_digit : ℕ → Bool
is_digit c = nat_le 48 c && nat_le c 57

-- a byte that a name can begin with: a letter or `_`
abbrev pub is_initial : ℕ → Bool
is_initial c = (nat_le 65 c && nat_le c 90) || (nat_le 97 c && nat_le c 122) || c == 95

-- a byte of a run of this class
abbrev pub is_in : Class → ℕ → Bool
is_in Digits c = is_digit c
is_in Name c = is_initial c || is_digit c

-- a `\` and a line end stand at the front
unfoldable pub begins_join : Text → Bool
begins_join [] = false
begins_join (c ∷ []) = false
begins_join (c ∷ d ∷ t) = (c == 92) && (d == 10)

-- without the line ends at its front that a `\` takes away
unfoldable pub joined : Text → Text
joined [] = []
joined (c ∷ []) = c ∷ []
joined (c ∷ d ∷ t) = if (c == 92) && (d == 10) then joined t else c ∷ d ∷ t

-- Without the blanks, the line ends that a `\` takes away and the comment at its front, which ends before a line end or
-- a 00 byte; where `over`, without the line ends and the comments between them too.
unfoldable mutual
  pub gap : Bool → Text → Text
  gap over [] = []
  gap over (c ∷ t) =
      if is_blank c || (over && (c == 10)) then gap over t else (if c == 35 then comment over t else (if c == 92 then after_backslash over t else c ∷ t))

  pub comment : Bool → Text → Text
  comment over [] = []
  comment over (c ∷ t) = if c == 10 then (if over then gap over t else c ∷ t) else (if c == 0 then c ∷ t else comment over t)

  pub after_backslash : Bool → Text → Text
  after_backslash over [] = 92 ∷ []
  after_backslash over (c ∷ t) = if c == 10 then gap over t else 92 ∷ c ∷ t

-- a token ends here
unfoldable pub ends_token : Text → Bool
ends_token t = elim (joined t) [ [] ↦ true | c ∷ r ↦ ends_word c ]

-- nothing is left, or only a `\`, which quotes what would come
unfoldable pub is_end : Text → Bool
is_end [] = true
is_end (c ∷ []) = c == 92
is_end (c ∷ d ∷ t) = false

-- what follows these bytes, if the text begins with them
unfoldable pub follow : List ℕ → Text → Option Text
follow [] t = Some t
follow (w ∷ ws) t = elim (joined t) [ [] ↦ None | c ∷ r ↦ (if c == w then follow ws r else None) ]

-- what follows this reserved word, if it stands at the front
unfoldable pub reserved : List ℕ → Text → Option Text
reserved word t = elim (follow word t) [ None ↦ None | Some r ↦ (if ends_token r then Some r else None) ]

-- what follows a run of bytes of this class, and the run
unfoldable mutual
  pub past : Class → Text → Text
  past k [] = []
  past k (c ∷ t) = if is_in k c then past k t else (if c == 92 then past_backslash k t else c ∷ t)

  pub past_backslash : Class → Text → Text
  past_backslash k [] = 92 ∷ []
  past_backslash k (c ∷ t) = if c == 10 then past k t else 92 ∷ c ∷ t

unfoldable mutual
  pub run : Class → Text → List ℕ
  run k [] = []
  run k (c ∷ t) = if is_in k c then c ∷ run k t else (if c == 92 then run_backslash k t else [])

  pub run_backslash : Class → Text → List ℕ
  run_backslash k [] = []
  run_backslash k (c ∷ t) = if c == 10 then run k t else []

-- the number that digits write behind this one
unfoldable pub decimal : ℕ → List ℕ → ℕ
decimal n [] = n
decimal n (c ∷ ds) = decimal (n * 10 + (c - 48)) ds

-- the number of the digits at the front, or the greatest u32 where it passes that
unfoldable pub number : Text → ℕ
number t = min (decimal 0 (run Digits t)) 4294967295

-- a name begins here
unfoldable pub begins_name : Text → Bool
begins_name t = elim (joined t) [ [] ↦ false | c ∷ r ↦ is_initial c ]

-- a redirection begins here: its operator, or digits that touch it
unfoldable pub is_redirection : Text → Bool
is_redirection t = elim (past Digits t) [ [] ↦ false | c ∷ r ↦ c == 60 || c == 62 ]

-- a word begins here
unfoldable pub is_word : Text → Bool
is_word t = elim (joined t) [ [] ↦ false | c ∷ r ↦ not (ends_word c) && not (is_redirection t) ]

abbrev pub is_reserved : List ℕ → Text → Bool
is_reserved word t = is_some (reserved word t)

-- a reserved word that ends a list
unfoldable pub is_closing : Text → Bool
is_closing t =
    is_reserved (codes "}") t || is_reserved (codes "do") t || is_reserved (codes "done") t || is_reserved (codes "elif") t
    || is_reserved (codes "else") t || is_reserved (codes "esac") t || is_reserved (codes "fi") t || is_reserved (codes "then") t

-- a list can end here: at the text's end, a `)`, a `;;` or such a word
unfoldable pub ends_list : Text → Bool
ends_list [] = true
ends_list (c ∷ t) = c == 41 || is_some (follow (codes ";;") (c ∷ t)) || is_closing (c ∷ t)

-- what begins a compound command
unfoldable pub is_opening : Text → Bool
is_opening t =
    is_some (follow (codes "(") t) || is_reserved (codes "{") t || is_reserved (codes "case") t || is_reserved (codes "for") t
    || is_reserved (codes "if") t || is_reserved (codes "until") t || is_reserved (codes "while") t

-- a reserved word that no command begins with
unfoldable pub is_misplaced : Text → Bool
is_misplaced t = is_closing t || is_reserved (codes "!") t || is_reserved (codes "in") t
