-- What a line says, and after which lines.
use Rattle.std.specs.Prelude.{◌≡◌, ◌<◌, ◌≤◌, Bool, true, false, IsTrue, ℕ, List, [], ◌∷◌, length, Contains, Some}
use Rattle.std.specs.List.{flat_map, list_any}
use Rattle.bd_dev.specs.declared.net.Arrival.{Arrival}
use Rattle.bd_dev.specs.declared.net.Arrival.TheVariants.{Datagram, Echo, Stream, End, Reset}
use Rattle.bd_text.specs.V6.{SpellsV6}
use Rattle.flow_labels.specs.Hosts.{is_iface_name}
use Rattle.flow_labels.specs.Labels.{tftp_label}
use Rattle.net_script.specs.Hosts.{ShowsServer}
use Rattle.net_script.specs.Keywords.{form_of, keyword_of, words_for}
use Rattle.net_script.specs.Numbers.{SpellsHex, SpellsNumber, SpellsRounds, latest}
use Rattle.net_script.specs.Words.{label_of, word, words_of}
use Rattle.net_script.specs.declared.keywords.Form.{Form}
use Rattle.net_script.specs.declared.keywords.Form.TheVariants as forms
use Rattle.net_script.specs.declared.keywords.Keyword.{Keyword}
use Rattle.net_script.specs.declared.keywords.Keyword.TheVariants as keywords
use Rattle.net_script.specs.declared.line.Line.{Line}
use Rattle.net_script.specs.declared.line.Line.TheVariants.{Iface, Flow, At, Tftp}
use Rattle.net_script.specs.declared.line.Numbered.{Numbered}
use Rattle.net_script.specs.declared.line.Rounds.{Rounds}

-- the words are so many, and the first one says that it is such a line
pub record BeginsWith (keyword : Keyword) (count : ℕ) (words : List (List ℕ)) : Type 0 where
  pub counts : length words ≡ count
  pub begins : keyword_of (word words 0) ≡ Some keyword

-- `iface NAME`
pub record SpellsIface (words : List (List ℕ)) (name : List ℕ) : Type 0 where
  pub begins : BeginsWith keywords.Iface 2 words
  pub name_is : name ≡ word words 1
  pub named : IsTrue (is_iface_name name)

-- `flow R LABEL`, where the label is the rest of the line
pub record SpellsFlow (line : List ℕ) (rounds : Rounds) (label : List ℕ) : Type 0 where
  pub long : 3 ≤ length (words_of line)
  pub begins : keyword_of (word (words_of line) 0) ≡ Some keywords.Flow
  pub all : SpellsRounds rounds (word (words_of line) 1)
  pub label_is : label ≡ label_of line

-- the words of an `at` line, of which the third names what comes
pub record BeginsAt (form : Form) (words : List (List ℕ)) : Type 0 where
  pub begins : BeginsWith keywords.At (words_for form) words
  pub third : form_of (word words 2) ≡ Some form

-- what comes: `udp PORT HEX`, `tcp HEX`, `echo V6 HEX`, `end`, `reset`
abbrev pub SpellsArrival : List (List ℕ) → Arrival → Type 0
SpellsArrival words (Datagram port bytes) =
    BeginsAt forms.Udp words × SpellsNumber 1 65535 port (word words 3) × SpellsHex bytes (word words 4)
SpellsArrival words (Echo from bytes) =
    BeginsAt forms.Echo words × SpellsV6 from (word words 3) × SpellsHex bytes (word words 4)
SpellsArrival words (Stream bytes) = BeginsAt forms.Tcp words × SpellsHex bytes (word words 3)
SpellsArrival words End = BeginsAt forms.End words
SpellsArrival words Reset = BeginsAt forms.Reset words

-- `at MS ..`
pub record SpellsAt (words : List (List ℕ)) (at : ℕ) (arrival : Arrival) : Type 0 where
  pub time : SpellsNumber 0 latest at (word words 1)
  pub comes : SpellsArrival words arrival

-- `tftp R SERVER:PORT PATH FILE MS`
pub record SpellsTftp
    (words : List (List ℕ)) (rounds : Rounds) (label file : List ℕ) (every : ℕ) : Type 0 where
  pub begins : BeginsWith keywords.Tftp 6 words
  pub all : SpellsRounds rounds (word words 1)
  pub server : List ℕ
  pub shows : ShowsServer (word words 2) server
  pub label_is : label ≡ tftp_label server (word words 3)
  pub file_is : file ≡ word words 4
  pub time : SpellsNumber 0 latest every (word words 5)

-- the text of a line says this
abbrev pub Spells : List ℕ → Line → Type 0
Spells text (Iface name) = SpellsIface (words_of text) name
Spells text (Flow rounds label) = SpellsFlow text rounds label
Spells text (At at arrival) = SpellsAt (words_of text) at arrival
Spells text (Tftp rounds label file every) = SpellsTftp (words_of text) rounds label file every

-- the interface of a line, if it is one
abbrev pub iface_of : Numbered → List (List ℕ)
iface_of n = iface_in n.line
  where
    iface_in : Line → List (List ℕ)
    iface_in (Iface name) = name ∷ []
    iface_in _ = []

-- the interfaces of lines, in order
abbrev pub ifaces_of : List Numbered → List (List ℕ)
ifaces_of lines = flat_map iface_of lines

-- a line that begins the arrivals of a flow
abbrev pub is_flow : Numbered → Bool
is_flow n = is_flow_line n.line
  where
    is_flow_line : Line → Bool
    is_flow_line (Flow rounds label) = true
    is_flow_line _ = false

abbrev pub has_flow : List Numbered → Bool
has_flow lines = list_any is_flow lines

-- the name may be the next interface's: it is new, and there are fewer than eight
pub record IsNewIface (ifaces : List (List ℕ)) (name : List ℕ) : Type 0 where
  pub few : length ifaces < 8
  pub new : ¬ Contains ifaces name

-- what a line says may stand behind these lines
abbrev pub MayFollow : List (List ℕ) → Bool → Line → Type 0
MayFollow ifaces flow (Iface name) = IsNewIface ifaces name
MayFollow ifaces flow (At at arrival) = IsTrue flow
MayFollow ifaces flow _ = Unit {0}

-- the text of a line says this, behind these interfaces and perhaps a `flow` line
pub record Says (ifaces : List (List ℕ)) (flow : Bool) (text : List ℕ) (line : Line) : Type 0 where
  pub spells : Spells text line
  pub follows : MayFollow ifaces flow line
