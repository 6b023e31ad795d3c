-- A text is read in one way at most.
use Rattle.std.proofs.Common.{◌≡◌, Bool, true, false, refl, sym, subst, ap, List, [], ◌∷◌}
use Rattle.sh_tree.specs.declared.AndOr.{AndOr}
use Rattle.sh_parser.specs.declared.SyntaxKind.{SyntaxKind}
use Rattle.sh_parser.specs.declared.SyntaxKind.TheVariants.{Unexpected}
use Rattle.sh_text.specs.Front.{Text}
use Rattle.sh_parser.specs.Faults.{stray_kind, stray_place}
use Rattle.sh_parser.specs.Grammar.{Phrase, Value, Body, fault, Outcome, done, faulty, Reads, by_rule, Runs, stops, fails, reads, reads_fault, IsProgram, IsFaultAt, within, behind}

-- what is read next, after an outcome
abbrev next : {A B : Type 0} → (A → Text → Body B) → Outcome A → Body B
next f (done v r) = f v r
next f (faulty k r) = fault k r

-- the same fault, of another phrase
abbrev as_fault : {A B : Type 0} → Outcome A → Outcome B
as_fault (done v r) = faulty Unexpected r
as_fault (faulty k r) = faulty k r

abbrev is_done : {A : Type 0} → Outcome A → Bool
is_done (done v r) = true
is_done (faulty k r) = false

mutual
  pub reads_same : {s : Phrase} {t : Text} {o p : Outcome (Value s)} → Reads s t o → Reads s t p → o ≡ p
  reads_same (by_rule a) (by_rule b) = runs_same a b

  runs_same : {s : Phrase} {b : Body (Value s)} {o p : Outcome (Value s)} → Runs s b o → Runs s b p → o ≡ p
  runs_same stops stops = refl
  runs_same fails fails = refl
  runs_same (reads {s = s} {a = a} {f = f} x y) (reads {o = p} x' y') = runs_same y (subst (λ (o : Outcome (Value a)). Runs s (next f o) p) (sym (reads_same x x')) y')
  runs_same (reads {a = a} x y) (reads_fault x') = absurd (let e : true ≡ false = ap (is_done {A = Value a}) (reads_same x x') in cc)
  runs_same (reads_fault {a = a} x) (reads x' y') = absurd (let e : false ≡ true = ap (is_done {A = Value a}) (reads_same x x') in cc)
  runs_same (reads_fault {s = s} {a = a} x) (reads_fault x') = ap (as_fault {A = Value a} {B = Value s}) (reads_same x x')

abbrev kind_of : {A : Type 0} → Outcome A → SyntaxKind
kind_of (done v r) = Unexpected
kind_of (faulty k r) = k

abbrev rest_of : {A : Type 0} → Outcome A → Text
rest_of (done v r) = r
rest_of (faulty k r) = r

abbrev tree_of : Outcome (List AndOr) → List AndOr
tree_of (done v r) = v
tree_of (faulty k r) = []

pub one : (text : Text) (a b : List AndOr) → IsProgram text a → IsProgram text b → a ≡ b
one text a b p q = ap tree_of (reads_same p.whole q.whole)

pub not_both : (text rest : Text) (tree : List AndOr) (kind : SyntaxKind) → IsProgram text tree → IsFaultAt text kind rest → ⊥
not_both text rest tree kind p (within f) = let e : true ≡ false = ap (is_done {A = List AndOr}) (reads_same p.whole f) in cc
not_both text rest tree kind p (behind {r = r} {c = c} f) = let e : [] ≡ c ∷ r = ap (rest_of {A = List AndOr}) (reads_same p.whole f) in cc

pub one_fault : (text r s : Text) (k j : SyntaxKind) → IsFaultAt text k r → IsFaultAt text j s → (k ≡ j) × (r ≡ s)
one_fault text r s k j (within f) (within g) = let e = reads_same f g in (ap (kind_of {A = List AndOr}) e, ap (rest_of {A = List AndOr}) e)
one_fault text r s k j (within f) (behind g) = absurd (let e : false ≡ true = ap (is_done {A = List AndOr}) (reads_same f g) in cc)
one_fault text r s k j (behind f) (within g) = absurd (let e : true ≡ false = ap (is_done {A = List AndOr}) (reads_same f g) in cc)
one_fault text r s k j (behind f) (behind g) = let e = ap (rest_of {A = List AndOr}) (reads_same f g) in (ap (stray_kind 64) e, ap stray_place e)
