-- The words that say what a line is, and what comes of an `at` line.
use Rattle.std.specs.Prelude.{ℕ, List, codes, if◌then◌else◌, Option, Some, None}
use Rattle.std.specs.Str.{bytes_eq}
use Rattle.net_script.specs.declared.keywords.Form.{Form}
use Rattle.net_script.specs.declared.keywords.Form.TheVariants.{Udp, Tcp, Echo, End, Reset}
use Rattle.net_script.specs.declared.keywords.Keyword.{Keyword}
use Rattle.net_script.specs.declared.keywords.Keyword.TheVariants.{Iface, Flow, At, Tftp}

-- what a line is by its first word
abbrev pub keyword_of : List ℕ → Option Keyword
keyword_of word =
    if bytes_eq word (codes "iface") then Some Iface
    else if bytes_eq word (codes "flow") then Some Flow
    else if bytes_eq word (codes "at") then Some At
    else if bytes_eq word (codes "tftp") then Some Tftp
    else None

-- what comes of an `at` line by its third word
abbrev pub form_of : List ℕ → Option Form
form_of word =
    if bytes_eq word (codes "udp") then Some Udp
    else if bytes_eq word (codes "tcp") then Some Tcp
    else if bytes_eq word (codes "echo") then Some Echo
    else if bytes_eq word (codes "end") then Some End
    else if bytes_eq word (codes "reset") then Some Reset
    else None

-- how many words an `at` line of a form has
abbrev pub words_for : Form → ℕ
words_for Udp = 5
words_for Tcp = 4
words_for Echo = 5
words_for End = 3
words_for Reset = 3
