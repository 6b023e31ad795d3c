-- Which network a script makes, by what was read of it.
use Rattle.std.proofs.Common.{◌≡◌, ◌≤◌, ◌<◌, inl, inr, ℕ, List, length, take, Option, Some, None, Result, Ok, Err, refl, sym, subst, ◌∙◌, arith}
use Rattle.std.specs.Prelude.{IsErrAnd}
use Rattle.std.specs.Option.{ForSome}
use Rattle.std.proofs.Math.Nat.{lt_of_not-le}
use Rattle.std.proofs.lemmas.List.{length-take-le, take_all}
use Rattle.net_script.specs.Script.{Answers, Fault, ReadsScript}
use Rattle.net_script.specs.declared.fault.ScriptFault.{ScriptFault}
use Rattle.net_script.specs.declared.fault.ScriptFault.TheVariants as scripts
use Rattle.net_script.specs.declared.fault.ScriptKind.{ScriptKind}
use Rattle.net_script.specs.declared.line.Numbered.{Numbered}
use Rattle.onie_modes.specs.Script.{IsWrongScript, SaysOnly, net_fault_of}
use Rattle.onie_modes.specs.declared.script.NetFault.{NetFault}
use Rattle.onie_modes.specs.declared.script.NetFault.TheVariants as nets

-- a front that is short is the whole
pub short_whole : (left : List ℕ) → length (take 16777217 left) ≤ 16777216 → take 16777217 left ≡ left
short_whole left h =
    let few : length left < 16777218 = lt_of_not-le (λ (many : 16777218 ≤ length left).
    let full : length (take 16777217 left) ≡ 16777217 = length-take-le 16777217 left (omega (arith, many)) in
    omega (arith, full, h)) in
    take_all 16777217 left (omega (arith, few))

front_long : (left : List ℕ) → ¬ (length (take 16777217 left) ≤ 16777216) → ¬ (length left ≤ 16777216)
front_long left h few = h (subst (λ (t : List ℕ). length t ≤ 16777216) (sym (take_all 16777217 left (omega (arith, few)))) few)

long_front : (left : List ℕ) → ¬ (length left ≤ 16777216) → ¬ (length (take 16777217 left) ≤ 16777216)
long_front left h few = h (subst (λ (t : List ℕ). length t ≤ 16777216) (short_whole left few) few)

-- a script says what its front says
pub reads_front : (left : List ℕ) (answer : Result (List Numbered) Fault) → ReadsScript (take 16777217 left) answer → ReadsScript left answer
reads_front left answer (inl long) = inl (front_long left long.0, long.1)
reads_front left answer (inr short) = subst (λ (t : List ℕ). ReadsScript t answer) (short_whole left short.0) (inr short)

pub reads_back : (left : List ℕ) (answer : Result (List Numbered) Fault) → ReadsScript left answer → ReadsScript (take 16777217 left) answer
reads_back left answer (inl long) = inl (long_front left long.0, long.1)
reads_back left answer (inr short) = subst (λ (t : List ℕ). ReadsScript t answer) (sym (take_all 16777217 left (let few = short.0 in omega (arith, few)))) (inr short)

-- only a text that is not too long says lines
pub lines_short : (text : List ℕ) (lines : List Numbered) → ReadsScript text (Ok lines) → length text ≤ 16777216
lines_short text lines (inl long) = absurd (let e = long.1 in cc)
lines_short text lines (inr short) = short.0

-- ---- one answer

lines_are : (lines others : List Numbered) → Answers (Ok lines) (Ok others) → others ≡ lines
lines_are lines others (inl e) = cc
lines_are lines others (inr e) = absurd cc

no_fault : (lines : List Numbered) (fault : Fault) → ¬ Answers (Ok lines) (Err fault)
no_fault lines fault (inl e) = cc
no_fault lines fault (inr e) = cc

bad_is : (at : ℕ) (kind : ScriptKind) (fault : Fault) → Answers (Err (scripts.Bad at kind)) (Err fault) → (at ≡ fault.line) × (kind ≡ fault.kind)
bad_is at kind fault (inl e) = (cc, cc)
bad_is at kind fault (inr e) = absurd cc

not_bad : (at : ℕ) (kind : ScriptKind) (lines : List Numbered) → ¬ Answers (Err (scripts.Bad at kind)) (Ok lines)
not_bad at kind lines (inl e) = cc
not_bad at kind lines (inr e) = cc

-- what was read is the front of what the source has
abbrev pub IsFrontOf : Option (List ℕ) → List ℕ → Type 0
IsFrontOf left text = ForSome left (λ bytes. text ≡ take 16777217 bytes)

read_of : (left : Option (List ℕ)) (text bytes : List ℕ) (answer : Result (List Numbered) Fault) → IsFrontOf left text → left ≡ Some bytes → ReadsScript bytes answer → ReadsScript text answer
read_of left text bytes answer front told reads = subst (λ (t : List ℕ). ReadsScript t answer) (sym (front bytes told)) (reads_back bytes answer reads)

said_by : (left : Option (List ℕ)) (text bytes : List ℕ) (answer : Result (List Numbered) Fault) → IsFrontOf left text → left ≡ Some bytes → ReadsScript text answer → ReadsScript bytes answer
said_by left text bytes answer front told reads = reads_front bytes answer (subst (λ (t : List ℕ). ReadsScript t answer) (front bytes told) reads)

same_lines : (lines : List Numbered) (other : Result (List Numbered) Fault) → Answers (Ok lines) other → other ≡ Ok lines
same_lines lines (Ok others) is = let same = lines_are lines others is in cc
same_lines lines (Err fault) is = absurd (no_fault lines fault is)

same_bad : (at : ℕ) (kind : ScriptKind) (other : Result (List Numbered) Fault) → Answers (Err (scripts.Bad at kind)) other → other ≡ Err (record { line = at; kind = kind })
same_bad at kind (Ok others) is = absurd (not_bad at kind others is)
same_bad at kind (Err fault) is = let same = bad_is at kind fault is in λ i. Err (record { line = sym same.0 i; kind = sym same.1 i })

-- the script says these lines alone
pub says_lines : (left : Option (List ℕ)) (text bytes : List ℕ) (lines : List Numbered) → IsFrontOf left text → ReadsScript text (Ok lines)
    → ((other : Result (List Numbered) Fault) → ReadsScript text other → Answers (Ok lines) other) → left ≡ Some bytes → SaysOnly bytes (Ok lines)
says_lines left text bytes lines front reads only told = record {
  reads = said_by left text bytes (Ok lines) front told reads;
  only = λ other is. same_lines lines other (only other (read_of left text bytes other front told is));
}

-- the script has this wrong line alone
pub says_wrong : (left : Option (List ℕ)) (text bytes : List ℕ) (at : ℕ) (kind : ScriptKind) → IsFrontOf left text → ReadsScript text (Err (record { line = at; kind = kind }))
    → ((other : Result (List Numbered) Fault) → ReadsScript text other → Answers (Err (scripts.Bad at kind)) other) → left ≡ Some bytes → SaysOnly bytes (Err (record { line = at; kind = kind }))
says_wrong left text bytes at kind front reads only told = record {
  reads = said_by left text bytes (Err (record { line = at; kind = kind })) front told reads;
  only = λ other is. same_bad at kind other (only other (read_of left text bytes other front told is));
}

-- lines are no wrong line
pub none_wrong : (text : List ℕ) (lines : List Numbered) (line : ℕ) (kind : ScriptKind) → SaysOnly text (Ok lines) → ¬ IsWrongScript text line kind
none_wrong text lines line kind says wrong = let same = says.only (Err (record { line = line; kind = kind })) wrong in cc

-- ---- faults that are handed on

-- a wrong line is handed on as it is
pub bad_of : {T : Type 0} (r : Result T NetFault) (fault : ScriptFault) (line : ℕ) (kind : ScriptKind) → IsErrAnd r (λ e. e ≡ net_fault_of fault) → r ≡ Err (nets.Bad line kind) → fault ≡ scripts.Bad line kind
bad_of (Ok x) fault line kind is same = absurd is
bad_of (Err e) (scripts.Bad at what) line kind is same = cc
bad_of (Err e) scripts.Media line kind is same = absurd cc
bad_of (Err e) scripts.Memory line kind is same = absurd cc
