-- One line more of a script's reading.
use Rattle.std.proofs.Common.{◌≡◌, inl, inr, ℕ, zero, suc, ◌+◌, ◌<◌, ◌≤◌, List, [], ◌∷◌, ◌++◌, length, drop, get_or, false, Result, Ok, Err, refl, sym, ◌∙◌, ap, subst, arith}
use Rattle.std.proofs.lemmas.List.{length-drop, nil_from_length}
use Rattle.net_script.specs.Faults.{IsLineFault}
use Rattle.net_script.specs.Lines.{Says, has_flow, ifaces_of}
use Rattle.net_script.specs.Script.{Answers, Fault, Reads, Takes, is_skipped}
use Rattle.net_script.specs.declared.fault.ScriptFault.{ScriptFault}
use Rattle.net_script.specs.declared.fault.ScriptFault.TheVariants.{Bad, Media, Memory}
use Rattle.net_script.specs.declared.fault.ScriptKind.{ScriptKind}
use Rattle.net_script.specs.declared.line.Line.{Line}
use Rattle.net_script.specs.declared.line.Numbered.{Numbered}
use Rattle.net_script.proofs.OneFault.{no_fault, one_fault}

pub forward : (before after : List Numbered) (number : ℕ) (text : List ℕ) (texts : List (List ℕ)) (a : Result (List Numbered) Fault)
    → Takes before number text after → Reads after (number + 1) texts a → Reads before number (text ∷ texts) a
forward before after number text texts a (inl skipped) reads = inl (skipped.0, subst (λ (l : List Numbered). Reads l (number + 1) texts a) skipped.1 reads)
forward before after number text texts a (inr said) reads = inr (said.0, inl (said.1, said.2, subst (λ (l : List Numbered). Reads l (number + 1) texts a) said.3 reads))

pub backward : (before after : List Numbered) (number : ℕ) (text : List ℕ) (texts : List (List ℕ)) (a : Result (List Numbered) Fault)
    → ((line : Line) → is_skipped text ≡ false → Says (ifaces_of before) (has_flow before) text line → after ≡ before ++ record { number = number; line = line } ∷ [])
    → Takes before number text after → Reads before number (text ∷ texts) a → Reads after (number + 1) texts a
backward before after number text texts a only (inl skipped) (inl reads) = subst (λ (l : List Numbered). Reads l (number + 1) texts a) (sym skipped.1) reads.1
backward before after number text texts a only (inl skipped) (inr reads) = let is = skipped.0 in let not' = reads.0 in absurd (cc (is, not'))
backward before after number text texts a only (inr said) (inl reads) = let is = said.0 in let not' = reads.0 in absurd (cc (is, not'))
backward before after number text texts a only (inr said) (inr reads) = elim reads.1 [
  | inl goes ↦ subst (λ (l : List Numbered). Reads l (number + 1) texts a) (sym (only goes.0 reads.0 goes.1)) goes.2
  | inr goes ↦ absurd (no_fault (ifaces_of before) (has_flow before) text said.1 goes.0 said.2 goes.1)
]

pub wrong : (before : List Numbered) (number : ℕ) (text : List ℕ) (texts : List (List ℕ)) (kind : ScriptKind) → is_skipped text ≡ false
    → IsLineFault (ifaces_of before) (has_flow before) text kind → Reads before number (text ∷ texts) (Err (record { line = number; kind = kind }))
wrong before number text texts kind not' fault = inr (not', inr (kind, fault, refl))

pub wrong_alone : (before : List Numbered) (number : ℕ) (text : List ℕ) (texts : List (List ℕ)) (kind : ScriptKind) (a : Result (List Numbered) Fault) → is_skipped text ≡ false
    → IsLineFault (ifaces_of before) (has_flow before) text kind → Reads before number (text ∷ texts) a → a ≡ Err (record { line = number; kind = kind })
wrong_alone before number text texts kind a not' fault (inl reads) = let is = reads.0 in absurd (cc (is, not'))
wrong_alone before number text texts kind a not' fault (inr reads) = elim reads.1 [
  | inl goes ↦ absurd (no_fault (ifaces_of before) (has_flow before) text goes.0 kind goes.1 fault)
  | inr goes ↦ goes.2 ∙ ap (λ (k : ScriptKind). Err (record { line = number; kind = k })) (one_fault (ifaces_of before) (has_flow before) text goes.0 kind goes.1 fault)
]

behind : (texts : List (List ℕ)) (n : ℕ) (d : List ℕ) → n < length texts → drop n texts ≡ get_or texts n d ∷ drop (suc n) texts
behind [] n d inside = absurd (omega (arith, inside))
behind (text ∷ texts) zero d inside = refl
behind (text ∷ texts) (suc n) d inside = behind texts n d (omega (arith, inside))

pub from_place : (texts : List (List ℕ)) (n : ℕ) (d : List ℕ) → n < length texts → drop n texts ≡ get_or texts n d ∷ drop (n + 1) texts
from_place texts n d inside =
    let next : suc n ≡ n + 1 = omega arith in
    behind texts n d inside ∙ ap (λ (k : ℕ). get_or texts n d ∷ drop k texts) next

pub memory_answers : (r : Result (List Numbered) ScriptFault) (a : Result (List Numbered) Fault) → r ≡ Err Memory → Answers r a
memory_answers r (Ok lines) is = inr is
memory_answers r (Err fault) is = inr is

pub bad_answers : (r : Result (List Numbered) ScriptFault) (line : ℕ) (kind : ScriptKind) (a : Result (List Numbered) Fault) → r ≡ Err (Bad line kind) → a ≡ Err (record { line = line; kind = kind }) → Answers r a
bad_answers r line kind a is answer = subst (Answers r) (sym answer) (inl is)

pub ok_answers : (r : Result (List Numbered) ScriptFault) (lines : List Numbered) (a : Result (List Numbered) Fault) → r ≡ Ok lines → a ≡ Ok lines → Answers r a
ok_answers r lines a is answer = subst (Answers r) (sym answer) (inl is)

pub all_dropped : (texts : List (List ℕ)) (n : ℕ) → length texts ≤ n → drop n texts ≡ []
all_dropped texts n past = nil_from_length (drop n texts) (let long = length-drop n texts in omega (arith, past, long))

-- the answer of an error
pub err_answers : (e : ScriptFault) (r : Result (List Numbered) ScriptFault) (a : Result (List Numbered) Fault) → r ≡ Err e → (e ≡ Media → ⊥)
    → ((line : ℕ) (kind : ScriptKind) → e ≡ Bad line kind → a ≡ Err (record { line = line; kind = kind })) → Answers r a
err_answers (Bad line kind) r a is no_media known = bad_answers r line kind a is (known line kind refl)
err_answers Media r a is no_media known = absurd (no_media refl)
err_answers Memory r a is no_media known = memory_answers r a is
