-- A line has one fault at most, and none where it says something.
use Rattle.std.proofs.Common.{◌≡◌, inl, inr, ℕ, ◌≤◌, List, length, Option, Some, None, Bool, IsTrue, sym, ◌∙◌, subst, arith}
use Rattle.net_script.specs.Faults.{Counted, IsArrivalFault, IsAtFault, IsFormFault, IsLineFault, IsWordsFault}
use Rattle.flow_labels.specs.Hosts.{is_iface_name}
use Rattle.net_script.specs.Hosts.{IsServerFault}
use Rattle.net_script.specs.Keywords.{form_of, keyword_of, words_for}
use Rattle.net_script.specs.Lines.{BeginsAt, IsNewIface, Says, SpellsArrival, SpellsAt}
use Rattle.net_script.specs.Tests.{Unless}
use Rattle.net_script.specs.Words.{word, words_of}
use Rattle.bd_dev.specs.declared.net.Arrival.{Arrival}
use Rattle.bd_dev.specs.declared.net.Arrival.TheVariants.{Datagram, Echo, Stream, End, Reset}
use Rattle.net_script.specs.declared.fault.ScriptKind.{ScriptKind}
use Rattle.net_script.specs.declared.fault.ScriptKind.TheVariants as kinds
use Rattle.net_script.specs.declared.keywords.Form.{Form}
use Rattle.net_script.specs.declared.keywords.Form.TheVariants as forms
use Rattle.net_script.specs.declared.keywords.Keyword.{Keyword}
use Rattle.net_script.specs.declared.keywords.Keyword.TheVariants as keywords
use Rattle.net_script.specs.declared.line.Line.{Line}
use Rattle.net_script.specs.declared.line.Line.TheVariants as lines

-- behind a test that holds
pub past : {T F R : Type 0} → T → Unless T F R → R
past holds (inl failed) = absurd (failed.0 holds)
past holds (inr passed) = passed.1

past_counted : {R : Type 0} (count : ℕ) (words : List (List ℕ)) (kind : ScriptKind) → length words ≡ count → Counted count words kind R → R
past_counted count words kind is fault = past (omega (arith, is)) (past (omega (arith, is)) fault)

past_keyword : (ifaces : List (List ℕ)) (flow : Bool) (text : List ℕ) (keyword : Keyword) (kind : ScriptKind)
    → 1 ≤ length (words_of text) → keyword_of (word (words_of text) 0) ≡ Some keyword → IsLineFault ifaces flow text kind
    → IsWordsFault ifaces flow (Some keyword) (words_of text) kind
past_keyword ifaces flow text keyword kind some is fault =
    subst (λ (k : Option Keyword). IsWordsFault ifaces flow k (words_of text) kind) is (past some fault)

past_form : (flow : Bool) (words : List (List ℕ)) (form : Form) (kind : ScriptKind) → BeginsAt form words → 3 ≤ length words → IsAtFault flow words kind
    → IsFormFault flow (Some form) words kind
past_form flow words form kind begins long fault = subst (λ (f : Option Form). IsFormFault flow f words kind) begins.third (past long fault)

no_at_fault : (flow : Bool) (words : List (List ℕ)) (at : ℕ) (arrival : Arrival) (kind : ScriptKind) → SpellsAt words at arrival → IsTrue flow → IsAtFault flow words kind → ⊥
no_at_fault flow words at (Datagram port bytes) kind spells on fault =
    let begins = spells.comes.0 in
    let counts = begins.begins.counts in
    past (bytes, spells.comes.2) (past (port, spells.comes.1) (past (at, spells.time) (past on (past_counted 5 words kind counts (past_form flow words forms.Udp kind begins (omega (arith, counts)) fault)))))
no_at_fault flow words at (Echo from bytes) kind spells on fault =
    let begins = spells.comes.0 in
    let counts = begins.begins.counts in
    past (bytes, spells.comes.2) (past (from, spells.comes.1) (past (at, spells.time) (past on (past_counted 5 words kind counts (past_form flow words forms.Echo kind begins (omega (arith, counts)) fault)))))
no_at_fault flow words at (Stream bytes) kind spells on fault =
    let begins = spells.comes.0 in
    let counts = begins.begins.counts in
    past (bytes, spells.comes.1) (past (at, spells.time) (past on (past_counted 4 words kind counts (past_form flow words forms.Tcp kind begins (omega (arith, counts)) fault))))
no_at_fault flow words at End kind spells on fault =
    let counts = spells.comes.begins.counts in
    past (at, spells.time) (past on (past_counted 3 words kind counts (past_form flow words forms.End kind spells.comes (omega (arith, counts)) fault)))
no_at_fault flow words at Reset kind spells on fault =
    let counts = spells.comes.begins.counts in
    past (at, spells.time) (past on (past_counted 3 words kind counts (past_form flow words forms.Reset kind spells.comes (omega (arith, counts)) fault)))

at_begins : (words : List (List ℕ)) (arrival : Arrival) → SpellsArrival words arrival → (3 ≤ length words) × (keyword_of (word words 0) ≡ Some keywords.At)
at_begins words (Datagram port bytes) comes = let counts = comes.0.begins.counts in (omega (arith, counts), comes.0.begins.begins)
at_begins words (Echo from bytes) comes = let counts = comes.0.begins.counts in (omega (arith, counts), comes.0.begins.begins)
at_begins words (Stream bytes) comes = let counts = comes.0.begins.counts in (omega (arith, counts), comes.0.begins.begins)
at_begins words End comes = let counts = comes.begins.counts in (omega (arith, counts), comes.begins.begins)
at_begins words Reset comes = let counts = comes.begins.counts in (omega (arith, counts), comes.begins.begins)

-- a line that says something has no fault
pub no_fault : (ifaces : List (List ℕ)) (flow : Bool) (text : List ℕ) (line : Line) (kind : ScriptKind) → Says ifaces flow text line → IsLineFault ifaces flow text kind → ⊥
no_fault ifaces flow text (lines.Iface name) kind says fault =
    let s = says.spells in
    let counts = s.begins.counts in
    let rest = past_keyword ifaces flow text keywords.Iface kind (omega (arith, counts)) s.begins.begins fault in
    past (record { named = subst (λ (n : List ℕ). IsTrue (is_iface_name n)) s.name_is s.named; new = subst (λ (n : List ℕ). IsNewIface ifaces n) s.name_is says.follows })
    (past_counted 2 (words_of text) kind counts rest)
no_fault ifaces flow text (lines.Flow rounds label) kind says fault =
    let s = says.spells in
    let long = s.long in
    past (rounds, s.all) (past long (past_keyword ifaces flow text keywords.Flow kind (omega (arith, long)) s.begins fault))
no_fault ifaces flow text (lines.At at arrival) kind says fault =
    let begins = at_begins (words_of text) arrival says.spells.comes in
    let long = begins.0 in
    no_at_fault flow (words_of text) at arrival kind says.spells says.follows (past_keyword ifaces flow text keywords.At kind (omega (arith, long)) begins.1 fault)
no_fault ifaces flow text (lines.Tftp rounds label file every) kind says fault =
    let s = says.spells in
    let counts = s.begins.counts in
    past (every, s.time) (past (s.server, s.shows) (past (rounds, s.all)
    (past_counted 6 (words_of text) kind counts (past_keyword ifaces flow text keywords.Tftp kind (omega (arith, counts)) s.begins.begins fault))))

both : {T F G R S : Type 0} (k j : ScriptKind) → (F → G → k ≡ j) → (R → S → k ≡ j) → Unless T F R → Unless T G S → k ≡ j
both k j failed passed (inl a) (inl b) = failed a.1 b.1
both k j failed passed (inl a) (inr b) = absurd (a.0 b.0)
both k j failed passed (inr a) (inl b) = absurd (b.0 a.0)
both k j failed passed (inr a) (inr b) = passed a.1 b.1

same : (f k j : ScriptKind) → k ≡ f → j ≡ f → k ≡ j
same f k j a b = a ∙ sym b

none : (k j : ScriptKind) → ⊥ → ⊥ → k ≡ j
none k j a b = absurd a

counted : {R S : Type 0} (count : ℕ) (words : List (List ℕ)) (k j : ScriptKind) → (R → S → k ≡ j) → Counted count words k R → Counted count words j S → k ≡ j
counted count words k j rest a b = both k j (same kinds.Missing k j) (both k j (same kinds.Extra k j) rest) a b

one_server : (server : List ℕ) (k j : ScriptKind) → IsServerFault server k → IsServerFault server j → k ≡ j
one_server server k j a b = both k j (same kinds.Address k j) (both k j (same kinds.Number k j) (none k j)) a b

one_arrival : (form : Form) (words : List (List ℕ)) (k j : ScriptKind) → IsArrivalFault form words k → IsArrivalFault form words j → k ≡ j
one_arrival forms.Udp words k j a b = both k j (same kinds.Number k j) (both k j (same kinds.Hex k j) (none k j)) a b
one_arrival forms.Tcp words k j a b = both k j (same kinds.Hex k j) (none k j) a b
one_arrival forms.Echo words k j a b = both k j (same kinds.Address k j) (both k j (same kinds.Hex k j) (none k j)) a b
one_arrival forms.End words k j a b = absurd a
one_arrival forms.Reset words k j a b = absurd a

one_form : (flow : Bool) (form : Option Form) (words : List (List ℕ)) (k j : ScriptKind) → IsFormFault flow form words k → IsFormFault flow form words j → k ≡ j
one_form flow None words k j a b = same kinds.Unknown k j a b
one_form flow (Some form) words k j a b =
    counted (words_for form) words k j (both k j (same kinds.NoFlow k j) (both k j (same kinds.Number k j) (one_arrival form words k j))) a b

one_words : (ifaces : List (List ℕ)) (flow : Bool) (keyword : Option Keyword) (words : List (List ℕ)) (k j : ScriptKind)
    → IsWordsFault ifaces flow keyword words k → IsWordsFault ifaces flow keyword words j → k ≡ j
one_words ifaces flow None words k j a b = same kinds.Unknown k j a b
one_words ifaces flow (Some keywords.Iface) words k j a b = counted 2 words k j (both k j (same kinds.Iface k j) (none k j)) a b
one_words ifaces flow (Some keywords.Flow) words k j a b = both k j (same kinds.Missing k j) (both k j (same kinds.Number k j) (none k j)) a b
one_words ifaces flow (Some keywords.At) words k j a b = both k j (same kinds.Missing k j) (one_form flow (form_of (word words 2)) words k j) a b
one_words ifaces flow (Some keywords.Tftp) words k j a b =
    counted 6 words k j (both k j (same kinds.Number k j) (both k j (one_server (word words 2) k j) (both k j (same kinds.Number k j) (none k j)))) a b

-- a line has one fault at most
pub one_fault : (ifaces : List (List ℕ)) (flow : Bool) (text : List ℕ) (k j : ScriptKind) → IsLineFault ifaces flow text k → IsLineFault ifaces flow text j → k ≡ j
one_fault ifaces flow text k j a b = both k j (same kinds.Missing k j) (one_words ifaces flow (keyword_of (word (words_of text) 0)) (words_of text) k j) a b

-- what an `at` line says
pub at_said : (ifaces : List (List ℕ)) (flow : Bool) (text : List ℕ) (said : Line) → keyword_of (word (words_of text) 0) ≡ Some keywords.At → Says ifaces flow text said
    → (P : Line → Type 0) → ((at : ℕ) (arrival : Arrival) → SpellsAt (words_of text) at arrival → IsTrue flow → P (lines.At at arrival)) → P said
at_said ifaces flow text (lines.Iface name) is says P known = let other = says.spells.begins.begins in absurd (cc (is, other))
at_said ifaces flow text (lines.Flow rounds label) is says P known = let other = says.spells.begins in absurd (cc (is, other))
at_said ifaces flow text (lines.Tftp rounds label file every) is says P known = let other = says.spells.begins.begins in absurd (cc (is, other))
at_said ifaces flow text (lines.At at arrival) is says P known = known at arrival says.spells says.follows
