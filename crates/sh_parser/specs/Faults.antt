-- Redirections, and the faults of tokens that can't stand where they stand.
use Rattle.std.specs.Prelude.{ℕ, ◌==◌, Bool, false, not, ◌||◌, ◌&&◌, is_some, if◌then◌else◌, List, [], ◌∷◌, drop, Some, None, codes}
use Rattle.sh_tree.specs.declared.Redir.{Redir}
use Rattle.sh_tree.specs.declared.Redir.TheVariants.{OutNull, ErrNull, ErrToOut, OutToErr}
use Rattle.sh_text.specs.Front.{Text, gap, follow, reserved, is_end, is_word, is_redirection}
use Rattle.sh_parser.specs.declared.SyntaxKind.{SyntaxKind}
use Rattle.sh_parser.specs.declared.SyntaxKind.TheVariants.{Unexpected, Unclosed, LeftOut, Deep, Nul}
use Rattle.sh_parser.specs.declared.redirection.Direction.{Direction}
use Rattle.sh_parser.specs.declared.redirection.Direction.TheVariants.{To, LeftOut as Excluded, Open, Stopped}

abbrev pub begins : List ℕ → Text → Bool
begins word t = is_some (follow word t)

-- what stands where a redirection begins, and the text after it, or from what stopped it
pub record Directed : Type 0 where
  pub direction : Direction
  pub rest : Text

abbrev pub directed : Direction → Text → Directed
directed to rest = record { direction = to; rest = rest }

-- the word of a redirection, where it has to be spelled so
abbrev pub spelled : List ℕ → Redir → Text → Directed
spelled word redir t = elim (reserved word t) [ None ↦ directed Excluded t | Some r ↦ directed (To redir) r ]

-- the word of a redirection of standard output or standard error
abbrev pub target : List ℕ → Redir → Text → Directed
target word redir t = if is_end t then directed Open (drop 1 t) else (if is_word t then spelled word redir t else directed Stopped t)

-- the operator behind the digits: `>` and a file, or `>&` and a stream
abbrev pub operator : Redir → List ℕ → Redir → Text → Directed
operator to_null stream to_stream r =
    if begins (codes ">") r || begins (codes "|") r then directed Excluded r
    else (elim (follow (codes "&") r) [
      | None ↦ target (codes "/dev/null") to_null (gap false r)
      | Some s ↦ target stream to_stream (gap false s)
    ])

-- `>` or `1>`, `2>`, or what is left out
unfoldable pub direct : Text → Directed
direct t =
    elim (follow (codes ">") t) [
      | Some r ↦ operator OutNull (codes "2") OutToErr r
      | None ↦ elim (follow (codes "1>") t) [
        | Some r ↦ operator OutNull (codes "2") OutToErr r
        | None ↦ elim (follow (codes "2>") t) [
          | Some r ↦ operator ErrNull (codes "1") ErrToOut r
          | None ↦ directed Excluded t
        ]
      ]
    ]

abbrev pub misdirected : Direction → SyntaxKind
misdirected (To _) = Unexpected
misdirected Excluded = LeftOut
misdirected Open = Unexpected
misdirected Stopped = Unexpected

-- the kind of a `$` before this text
abbrev pub dollar_kind : ℕ → Text → SyntaxKind
dollar_kind d t =
    if begins (codes "$") t || begins (codes "!") t || begins (codes "-") t then LeftOut
    else (if (d == 0) && (begins (codes "(") t || begins (codes "{") t) then Deep else Unexpected)

-- The kind of the fault at a token that can't stand where it stands, with so many forms still to open.
unfoldable pub stray_kind : ℕ → Text → SyntaxKind
stray_kind d [] = Unclosed
stray_kind d (c ∷ t) =
    if is_end (c ∷ t) then Unclosed
    else (if is_redirection (c ∷ t) then misdirected (direct (c ∷ t)).direction
    else (if c == 0 then Nul
    else (if c == 96 || (c == 38 && not (begins (codes "&") t)) then LeftOut
    else (if c == 36 then dollar_kind d t
    else Unexpected))))

-- its place
unfoldable pub stray_place : Text → Text
stray_place t = if is_end t then drop 1 t else t
