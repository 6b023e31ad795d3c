-- What is wrong with a line: the first test that fails.
use Rattle.std.specs.Prelude.{◌≡◌, ◌≤◌, Bool, IsTrue, ℕ, List, length, Option, Some, None}
use Rattle.bd_text.specs.V6.{SpellsV6}
use Rattle.flow_labels.specs.Hosts.{is_iface_name}
use Rattle.net_script.specs.Hosts.{IsServer, IsServerFault}
use Rattle.net_script.specs.Keywords.{form_of, keyword_of, words_for}
use Rattle.net_script.specs.Lines.{IsNewIface}
use Rattle.net_script.specs.Numbers.{AreRounds, IsHex, IsNumber, latest}
use Rattle.net_script.specs.Tests.{Unless}
use Rattle.net_script.specs.Words.{word, words_of}
use Rattle.net_script.specs.declared.fault.ScriptKind.{ScriptKind}
use Rattle.net_script.specs.declared.fault.ScriptKind.TheVariants.{Unknown, Missing, Extra, Number, Hex, Address, Iface, NoFlow}
use Rattle.net_script.specs.declared.keywords.Form.{Form}
use Rattle.net_script.specs.declared.keywords.Form.TheVariants.{Udp, Tcp, Echo, End, Reset}
use Rattle.net_script.specs.declared.keywords.Keyword.{Keyword}
use Rattle.net_script.specs.declared.keywords.Keyword.TheVariants as keywords

-- the number of words is tested first
abbrev pub Counted : ℕ → List (List ℕ) → ScriptKind → Type 0 → Type 0
Counted count words kind rest =
    Unless (count ≤ length words) (kind ≡ Missing) (Unless (length words ≤ count) (kind ≡ Extra) rest)

-- the name of an interface that may come next
pub record IsNextIface (ifaces : List (List ℕ)) (name : List ℕ) : Type 0 where
  pub named : IsTrue (is_iface_name name)
  pub new : IsNewIface ifaces name

abbrev pub IsIfaceFault : List (List ℕ) → List (List ℕ) → ScriptKind → Type 0
IsIfaceFault ifaces words kind =
    Counted 2 words kind (Unless (IsNextIface ifaces (word words 1)) (kind ≡ Iface) ⊥)

abbrev pub IsFlowFault : List (List ℕ) → ScriptKind → Type 0
IsFlowFault words kind =
    Unless (3 ≤ length words) (kind ≡ Missing) (Unless (AreRounds (word words 1)) (kind ≡ Number) ⊥)

abbrev pub IsTftpFault : List (List ℕ) → ScriptKind → Type 0
IsTftpFault words kind =
    Counted 6 words kind
    (Unless (AreRounds (word words 1)) (kind ≡ Number)
    (Unless (IsServer (word words 2)) (IsServerFault (word words 2) kind)
    (Unless (IsNumber 0 latest (word words 5)) (kind ≡ Number) ⊥)))

-- the text is an IPv6 address
abbrev pub IsV6 : List ℕ → Type 0
IsV6 text = (address : List ℕ) × SpellsV6 address text

-- what is wrong behind the form
abbrev pub IsArrivalFault : Form → List (List ℕ) → ScriptKind → Type 0
IsArrivalFault Udp words kind =
    Unless (IsNumber 1 65535 (word words 3)) (kind ≡ Number) (Unless (IsHex (word words 4)) (kind ≡ Hex) ⊥)
IsArrivalFault Tcp words kind = Unless (IsHex (word words 3)) (kind ≡ Hex) ⊥
IsArrivalFault Echo words kind =
    Unless (IsV6 (word words 3)) (kind ≡ Address) (Unless (IsHex (word words 4)) (kind ≡ Hex) ⊥)
IsArrivalFault End words kind = ⊥
IsArrivalFault Reset words kind = ⊥

-- what is wrong with an `at` line of this form
abbrev pub IsFormFault : Bool → Option Form → List (List ℕ) → ScriptKind → Type 0
IsFormFault flow None words kind = kind ≡ Unknown
IsFormFault flow (Some form) words kind =
    Counted (words_for form) words kind
    (Unless (IsTrue flow) (kind ≡ NoFlow)
    (Unless (IsNumber 0 latest (word words 1)) (kind ≡ Number) (IsArrivalFault form words kind)))

-- the form comes before the number of words
abbrev pub IsAtFault : Bool → List (List ℕ) → ScriptKind → Type 0
IsAtFault flow words kind =
    Unless (3 ≤ length words) (kind ≡ Missing) (IsFormFault flow (form_of (word words 2)) words kind)

-- what is wrong with a line that begins so
abbrev pub IsWordsFault : List (List ℕ) → Bool → Option Keyword → List (List ℕ) → ScriptKind → Type 0
IsWordsFault ifaces flow None words kind = kind ≡ Unknown
IsWordsFault ifaces flow (Some keywords.Iface) words kind = IsIfaceFault ifaces words kind
IsWordsFault ifaces flow (Some keywords.Flow) words kind = IsFlowFault words kind
IsWordsFault ifaces flow (Some keywords.At) words kind = IsAtFault flow words kind
IsWordsFault ifaces flow (Some keywords.Tftp) words kind = IsTftpFault words kind

-- what is wrong with the text of a line, behind these interfaces and perhaps a `flow` line
abbrev pub IsLineFault : List (List ℕ) → Bool → List ℕ → ScriptKind → Type 0
IsLineFault ifaces flow text kind =
    let words = words_of text in
    Unless (1 ≤ length words) (kind ≡ Missing) (IsWordsFault ifaces flow (keyword_of (word words 0)) words kind)
