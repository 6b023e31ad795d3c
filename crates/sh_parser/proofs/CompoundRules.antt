-- The rules of compound commands, way by way, and each fault on the way.
use Rattle.std.proofs.Common.{◌≡◌, ℕ, ◌-◌, ◌==◌, Bool, true, false, sym, subst, List, [], ◌∷◌, Option, Some, None}
use Rattle.std.specs.Prelude.{codes}
use Rattle.sh_tree.specs.declared.Part.{Part}
use Rattle.sh_tree.specs.declared.Arm.{Arm}
use Rattle.sh_tree.specs.declared.Case.{Case, roll-Case}
use Rattle.sh_tree.specs.declared.Form.{Form}
use Rattle.sh_tree.specs.declared.Form.TheVariants.{Group, Subshell, If, Loop, For, Case as Choice}
use Rattle.sh_tree.specs.declared.AndOr.{AndOr}
use Rattle.sh_text.specs.declared.Class.TheVariants.{Name as Letters}
use Rattle.sh_text.specs.Front.{Text, gap, follow, reserved, past, run, is_word}
use Rattle.sh_parser.specs.declared.SyntaxKind.{SyntaxKind}
use Rattle.sh_parser.specs.declared.SyntaxKind.TheVariants.{Deep}
use Rattle.sh_parser.specs.declared.words.Mode.TheVariants.{Bare}
use Rattle.sh_parser.specs.declared.compound.Opening.TheVariants.{Subshell as OpenSubshell, Group as OpenGroup, If as OpenIf, While as OpenWhile, Until as OpenUntil, For as OpenFor, Case as OpenCase, Nothing as OpenNothing}
use Rattle.sh_parser.specs.Faults.{stray_kind, stray_place}
use Rattle.sh_parser.proofs.Ways.{when, unless, there, lacks}
use Rattle.sh_parser.specs.Grammar.{parts, list, some_list, compound, branches, otherwise, turns, do_group, each, each_words, words, choice, cases, case_item, patterns, stop, fault, single_bar, opening, compound_by, compound_rule, arm, next_branch, branches_rule, otherwise_rule, turns_rule, do_group_rule, is_name, each_at, single_semicolon, ended_words, each_words_rule, words_rule, choice_at, next_case, cases_at, opened, case_item_rule, next_pattern, patterns_rule, Outcome, done, faulty, Reads, by_rule, Runs, stops, fails, reads, reads_fault}

pub compound_deep : (d : ℕ) (t : Text) → (d == 0) ≡ true → Reads (compound d) t (faulty Deep t)
unfolding compound_rule
compound_deep d t h1 =
    by_rule {o = faulty Deep t} (when _ h1 (fails))

pub form_subshell_n0 : (n : ℕ) (d : ℕ) (t : Text) → follow (codes "(") t ≡ None → Runs (compound n) (compound_by OpenSubshell d t) (faulty (stray_kind d t) (stray_place t))
unfolding compound_by
form_subshell_n0 n d t h1 =
    (lacks _ h1 (fails))

pub form_subshell_f1 : (n : ℕ) (d : ℕ) (t : Text) (o : Text) (k : SyntaxKind) (z : Text) → follow (codes "(") t ≡ Some o → Reads (some_list d) o (faulty k z) → Runs (compound n) (compound_by OpenSubshell d t) (faulty k z)
unfolding compound_by
form_subshell_f1 n d t o k z h1 h2 =
    (there _ _ h1 (reads_fault h2))

pub form_subshell_n2 : (n : ℕ) (d : ℕ) (t : Text) (o : Text) (l : List AndOr) (m : Text) → follow (codes "(") t ≡ Some o → Reads (some_list d) o (done l m) → follow (codes ")") m ≡ None → Runs (compound n) (compound_by OpenSubshell d t) (faulty (stray_kind d m) (stray_place m))
unfolding compound_by
form_subshell_n2 n d t o l m h1 h2 h3 =
    (there _ _ h1 (reads {o = faulty (stray_kind d m) (stray_place m)} h2 (lacks _ h3 (fails))))

pub form_subshell : (n : ℕ) (d : ℕ) (t : Text) (o : Text) (l : List AndOr) (m : Text) (r : Text) → follow (codes "(") t ≡ Some o → Reads (some_list d) o (done l m) → follow (codes ")") m ≡ Some r → Runs (compound n) (compound_by OpenSubshell d t) (done (Subshell l) r)
unfolding compound_by
form_subshell n d t o l m r h1 h2 h3 =
    (there _ _ h1 (reads {o = done (Subshell l) r} h2 (there _ _ h3 (stops))))

pub form_group_n0 : (n : ℕ) (d : ℕ) (t : Text) → reserved (codes "{") t ≡ None → Runs (compound n) (compound_by OpenGroup d t) (faulty (stray_kind d t) (stray_place t))
unfolding compound_by
form_group_n0 n d t h1 =
    (lacks _ h1 (fails))

pub form_group_f1 : (n : ℕ) (d : ℕ) (t : Text) (o : Text) (k : SyntaxKind) (z : Text) → reserved (codes "{") t ≡ Some o → Reads (some_list d) o (faulty k z) → Runs (compound n) (compound_by OpenGroup d t) (faulty k z)
unfolding compound_by
form_group_f1 n d t o k z h1 h2 =
    (there _ _ h1 (reads_fault h2))

pub form_group_n2 : (n : ℕ) (d : ℕ) (t : Text) (o : Text) (l : List AndOr) (m : Text) → reserved (codes "{") t ≡ Some o → Reads (some_list d) o (done l m) → reserved (codes "}") m ≡ None → Runs (compound n) (compound_by OpenGroup d t) (faulty (stray_kind d m) (stray_place m))
unfolding compound_by
form_group_n2 n d t o l m h1 h2 h3 =
    (there _ _ h1 (reads {o = faulty (stray_kind d m) (stray_place m)} h2 (lacks _ h3 (fails))))

pub form_group : (n : ℕ) (d : ℕ) (t : Text) (o : Text) (l : List AndOr) (m : Text) (r : Text) → reserved (codes "{") t ≡ Some o → Reads (some_list d) o (done l m) → reserved (codes "}") m ≡ Some r → Runs (compound n) (compound_by OpenGroup d t) (done (Group l) r)
unfolding compound_by
form_group n d t o l m r h1 h2 h3 =
    (there _ _ h1 (reads {o = done (Group l) r} h2 (there _ _ h3 (stops))))

pub form_if_n0 : (n : ℕ) (d : ℕ) (t : Text) → reserved (codes "if") t ≡ None → Runs (compound n) (compound_by OpenIf d t) (faulty (stray_kind d t) (stray_place t))
unfolding compound_by
form_if_n0 n d t h1 =
    (lacks _ h1 (fails))

pub form_if_f1 : (n : ℕ) (d : ℕ) (t : Text) (o : Text) (k : SyntaxKind) (z : Text) → reserved (codes "if") t ≡ Some o → Reads (branches d) o (faulty k z) → Runs (compound n) (compound_by OpenIf d t) (faulty k z)
unfolding compound_by
form_if_f1 n d t o k z h1 h2 =
    (there _ _ h1 (reads_fault h2))

pub form_if : (n : ℕ) (d : ℕ) (t : Text) (o : Text) (v : (List Arm × Option (List AndOr))) (r : Text) → reserved (codes "if") t ≡ Some o → Reads (branches d) o (done v r) → Runs (compound n) (compound_by OpenIf d t) (done (If v.0 v.1) r)
unfolding compound_by
form_if n d t o v r h1 h2 =
    (there _ _ h1 (reads {o = done (If v.0 v.1) r} h2 (stops)))

pub form_while_n0 : (n : ℕ) (d : ℕ) (t : Text) → reserved (codes "while") t ≡ None → Runs (compound n) (compound_by OpenWhile d t) (faulty (stray_kind d t) (stray_place t))
unfolding compound_by
form_while_n0 n d t h1 =
    (lacks _ h1 (fails))

pub form_while_f1 : (n : ℕ) (d : ℕ) (t : Text) (o : Text) (k : SyntaxKind) (z : Text) → reserved (codes "while") t ≡ Some o → Reads (turns false d) o (faulty k z) → Runs (compound n) (compound_by OpenWhile d t) (faulty k z)
unfolding compound_by
form_while_f1 n d t o k z h1 h2 =
    (there _ _ h1 (reads_fault h2))

pub form_while : (n : ℕ) (d : ℕ) (t : Text) (o : Text) (f : Form) (r : Text) → reserved (codes "while") t ≡ Some o → Reads (turns false d) o (done f r) → Runs (compound n) (compound_by OpenWhile d t) (done f r)
unfolding compound_by
form_while n d t o f r h1 h2 =
    (there _ _ h1 (reads {o = done f r} h2 (stops)))

pub form_until_n0 : (n : ℕ) (d : ℕ) (t : Text) → reserved (codes "until") t ≡ None → Runs (compound n) (compound_by OpenUntil d t) (faulty (stray_kind d t) (stray_place t))
unfolding compound_by
form_until_n0 n d t h1 =
    (lacks _ h1 (fails))

pub form_until_f1 : (n : ℕ) (d : ℕ) (t : Text) (o : Text) (k : SyntaxKind) (z : Text) → reserved (codes "until") t ≡ Some o → Reads (turns true d) o (faulty k z) → Runs (compound n) (compound_by OpenUntil d t) (faulty k z)
unfolding compound_by
form_until_f1 n d t o k z h1 h2 =
    (there _ _ h1 (reads_fault h2))

pub form_until : (n : ℕ) (d : ℕ) (t : Text) (o : Text) (f : Form) (r : Text) → reserved (codes "until") t ≡ Some o → Reads (turns true d) o (done f r) → Runs (compound n) (compound_by OpenUntil d t) (done f r)
unfolding compound_by
form_until n d t o f r h1 h2 =
    (there _ _ h1 (reads {o = done f r} h2 (stops)))

pub form_for_n0 : (n : ℕ) (d : ℕ) (t : Text) → reserved (codes "for") t ≡ None → Runs (compound n) (compound_by OpenFor d t) (faulty (stray_kind d t) (stray_place t))
unfolding compound_by
form_for_n0 n d t h1 =
    (lacks _ h1 (fails))

pub form_for_f1 : (n : ℕ) (d : ℕ) (t : Text) (o : Text) (k : SyntaxKind) (z : Text) → reserved (codes "for") t ≡ Some o → Reads (each d) o (faulty k z) → Runs (compound n) (compound_by OpenFor d t) (faulty k z)
unfolding compound_by
form_for_f1 n d t o k z h1 h2 =
    (there _ _ h1 (reads_fault h2))

pub form_for : (n : ℕ) (d : ℕ) (t : Text) (o : Text) (f : Form) (r : Text) → reserved (codes "for") t ≡ Some o → Reads (each d) o (done f r) → Runs (compound n) (compound_by OpenFor d t) (done f r)
unfolding compound_by
form_for n d t o f r h1 h2 =
    (there _ _ h1 (reads {o = done f r} h2 (stops)))

pub form_case_n0 : (n : ℕ) (d : ℕ) (t : Text) → reserved (codes "case") t ≡ None → Runs (compound n) (compound_by OpenCase d t) (faulty (stray_kind d t) (stray_place t))
unfolding compound_by
form_case_n0 n d t h1 =
    (lacks _ h1 (fails))

pub form_case_f1 : (n : ℕ) (d : ℕ) (t : Text) (o : Text) (k : SyntaxKind) (z : Text) → reserved (codes "case") t ≡ Some o → Reads (choice d) o (faulty k z) → Runs (compound n) (compound_by OpenCase d t) (faulty k z)
unfolding compound_by
form_case_f1 n d t o k z h1 h2 =
    (there _ _ h1 (reads_fault h2))

pub form_case : (n : ℕ) (d : ℕ) (t : Text) (o : Text) (f : Form) (r : Text) → reserved (codes "case") t ≡ Some o → Reads (choice d) o (done f r) → Runs (compound n) (compound_by OpenCase d t) (done f r)
unfolding compound_by
form_case n d t o f r h1 h2 =
    (there _ _ h1 (reads {o = done f r} h2 (stops)))

pub form_nothing : (n : ℕ) (d : ℕ) (t : Text) → Runs (compound n) (compound_by OpenNothing d t) (faulty (stray_kind d t) (stray_place t))
unfolding compound_by
form_nothing n d t =
    (fails)

pub branches_more_f0 : (d : ℕ) (t : Text) (k : SyntaxKind) (z : Text) → Reads (some_list d) t (faulty k z) → Reads (branches d) t (faulty k z)
unfolding branches_rule next_branch
branches_more_f0 d t k z h1 =
    by_rule {o = faulty k z} (reads_fault h1)

pub branches_more_n1 : (d : ℕ) (t : Text) (test : List AndOr) (m : Text) → Reads (some_list d) t (done test m) → reserved (codes "then") m ≡ None → Reads (branches d) t (faulty (stray_kind d m) (stray_place m))
unfolding branches_rule next_branch
branches_more_n1 d t test m h1 h2 =
    by_rule {o = faulty (stray_kind d m) (stray_place m)} (reads {o = faulty (stray_kind d m) (stray_place m)} h1 (lacks _ h2 (fails)))

pub branches_more_f2 : (d : ℕ) (t : Text) (test : List AndOr) (m : Text) (n : Text) (k : SyntaxKind) (z : Text) → Reads (some_list d) t (done test m) → reserved (codes "then") m ≡ Some n → Reads (some_list d) n (faulty k z) → Reads (branches d) t (faulty k z)
unfolding branches_rule next_branch
branches_more_f2 d t test m n k z h1 h2 h3 =
    by_rule {o = faulty k z} (reads {o = faulty k z} h1 (there _ _ h2 (reads_fault h3)))

pub branches_more_f4 : (d : ℕ) (t : Text) (test : List AndOr) (m : Text) (n : Text) (body : List AndOr) (s : Text) (o : Text) (k : SyntaxKind) (z : Text) → Reads (some_list d) t (done test m) → reserved (codes "then") m ≡ Some n → Reads (some_list d) n (done body s) → reserved (codes "elif") s ≡ Some o → Reads (branches d) o (faulty k z) → Reads (branches d) t (faulty k z)
unfolding branches_rule next_branch
branches_more_f4 d t test m n body s o k z h1 h2 h3 h4 h5 =
    by_rule {o = faulty k z} (reads {o = faulty k z} h1 (there _ _ h2 (reads {o = faulty k z} h3 (there _ _ h4 (reads_fault h5)))))

pub branches_more : (d : ℕ) (t : Text) (test : List AndOr) (m : Text) (n : Text) (body : List AndOr) (s : Text) (o : Text) (v : (List Arm × Option (List AndOr))) (r : Text) → Reads (some_list d) t (done test m) → reserved (codes "then") m ≡ Some n → Reads (some_list d) n (done body s) → reserved (codes "elif") s ≡ Some o → Reads (branches d) o (done v r) → Reads (branches d) t (done (arm test body ∷ v.0, v.1) r)
unfolding branches_rule next_branch
branches_more d t test m n body s o v r h1 h2 h3 h4 h5 =
    by_rule {o = done (arm test body ∷ v.0, v.1) r} (reads {o = done (arm test body ∷ v.0, v.1) r} h1 (there _ _ h2 (reads {o = done (arm test body ∷ v.0, v.1) r} h3 (there _ _ h4 (reads {o = done (arm test body ∷ v.0, v.1) r} h5 (stops))))))

pub branches_last_f4 : (d : ℕ) (t : Text) (test : List AndOr) (m : Text) (n : Text) (body : List AndOr) (s : Text) (k : SyntaxKind) (z : Text) → Reads (some_list d) t (done test m) → reserved (codes "then") m ≡ Some n → Reads (some_list d) n (done body s) → reserved (codes "elif") s ≡ None → Reads (otherwise d) s (faulty k z) → Reads (branches d) t (faulty k z)
unfolding branches_rule next_branch
branches_last_f4 d t test m n body s k z h1 h2 h3 h4 h5 =
    by_rule {o = faulty k z} (reads {o = faulty k z} h1 (there _ _ h2 (reads {o = faulty k z} h3 (lacks _ h4 (reads_fault h5)))))

pub branches_last : (d : ℕ) (t : Text) (test : List AndOr) (m : Text) (n : Text) (body : List AndOr) (s : Text) (l : Option (List AndOr)) (r : Text) → Reads (some_list d) t (done test m) → reserved (codes "then") m ≡ Some n → Reads (some_list d) n (done body s) → reserved (codes "elif") s ≡ None → Reads (otherwise d) s (done l r) → Reads (branches d) t (done (arm test body ∷ [], l) r)
unfolding branches_rule next_branch
branches_last d t test m n body s l r h1 h2 h3 h4 h5 =
    by_rule {o = done (arm test body ∷ [], l) r} (reads {o = done (arm test body ∷ [], l) r} h1 (there _ _ h2 (reads {o = done (arm test body ∷ [], l) r} h3 (lacks _ h4 (reads {o = done (arm test body ∷ [], l) r} h5 (stops))))))

pub otherwise_else_f1 : (d : ℕ) (t : Text) (n : Text) (k : SyntaxKind) (z : Text) → reserved (codes "else") t ≡ Some n → Reads (some_list d) n (faulty k z) → Reads (otherwise d) t (faulty k z)
unfolding otherwise_rule
otherwise_else_f1 d t n k z h1 h2 =
    by_rule {o = faulty k z} (there _ _ h1 (reads_fault h2))

pub otherwise_else_n2 : (d : ℕ) (t : Text) (n : Text) (l : List AndOr) (m : Text) → reserved (codes "else") t ≡ Some n → Reads (some_list d) n (done l m) → reserved (codes "fi") m ≡ None → Reads (otherwise d) t (faulty (stray_kind d m) (stray_place m))
unfolding otherwise_rule
otherwise_else_n2 d t n l m h1 h2 h3 =
    by_rule {o = faulty (stray_kind d m) (stray_place m)} (there _ _ h1 (reads {o = faulty (stray_kind d m) (stray_place m)} h2 (lacks _ h3 (fails))))

pub otherwise_else : (d : ℕ) (t : Text) (n : Text) (l : List AndOr) (m : Text) (r : Text) → reserved (codes "else") t ≡ Some n → Reads (some_list d) n (done l m) → reserved (codes "fi") m ≡ Some r → Reads (otherwise d) t (done (Some l) r)
unfolding otherwise_rule
otherwise_else d t n l m r h1 h2 h3 =
    by_rule {o = done (Some l) r} (there _ _ h1 (reads {o = done (Some l) r} h2 (there _ _ h3 (stops))))

pub otherwise_fi_n1 : (d : ℕ) (t : Text) → reserved (codes "else") t ≡ None → reserved (codes "fi") t ≡ None → Reads (otherwise d) t (faulty (stray_kind d t) (stray_place t))
unfolding otherwise_rule
otherwise_fi_n1 d t h1 h2 =
    by_rule {o = faulty (stray_kind d t) (stray_place t)} (lacks _ h1 (lacks _ h2 (fails)))

pub otherwise_fi : (d : ℕ) (t : Text) (r : Text) → reserved (codes "else") t ≡ None → reserved (codes "fi") t ≡ Some r → Reads (otherwise d) t (done None r)
unfolding otherwise_rule
otherwise_fi d t r h1 h2 =
    by_rule {o = done None r} (lacks _ h1 (there _ _ h2 (stops)))

pub turns_of_f0 : (until : Bool) (d : ℕ) (t : Text) (k : SyntaxKind) (z : Text) → Reads (some_list d) t (faulty k z) → Reads (turns until d) t (faulty k z)
unfolding turns_rule
turns_of_f0 until d t k z h1 =
    by_rule {o = faulty k z} (reads_fault h1)

pub turns_of_f1 : (until : Bool) (d : ℕ) (t : Text) (test : List AndOr) (m : Text) (k : SyntaxKind) (z : Text) → Reads (some_list d) t (done test m) → Reads (do_group d) m (faulty k z) → Reads (turns until d) t (faulty k z)
unfolding turns_rule
turns_of_f1 until d t test m k z h1 h2 =
    by_rule {o = faulty k z} (reads {o = faulty k z} h1 (reads_fault h2))

pub turns_of : (until : Bool) (d : ℕ) (t : Text) (test : List AndOr) (m : Text) (body : List AndOr) (r : Text) → Reads (some_list d) t (done test m) → Reads (do_group d) m (done body r) → Reads (turns until d) t (done (Loop until test body) r)
unfolding turns_rule
turns_of until d t test m body r h1 h2 =
    by_rule {o = done (Loop until test body) r} (reads {o = done (Loop until test body) r} h1 (reads {o = done (Loop until test body) r} h2 (stops)))

pub do_group_of_n0 : (d : ℕ) (t : Text) → reserved (codes "do") t ≡ None → Reads (do_group d) t (faulty (stray_kind d t) (stray_place t))
unfolding do_group_rule
do_group_of_n0 d t h1 =
    by_rule {o = faulty (stray_kind d t) (stray_place t)} (lacks _ h1 (fails))

pub do_group_of_f1 : (d : ℕ) (t : Text) (n : Text) (k : SyntaxKind) (z : Text) → reserved (codes "do") t ≡ Some n → Reads (some_list d) n (faulty k z) → Reads (do_group d) t (faulty k z)
unfolding do_group_rule
do_group_of_f1 d t n k z h1 h2 =
    by_rule {o = faulty k z} (there _ _ h1 (reads_fault h2))

pub do_group_of_n2 : (d : ℕ) (t : Text) (n : Text) (l : List AndOr) (m : Text) → reserved (codes "do") t ≡ Some n → Reads (some_list d) n (done l m) → reserved (codes "done") m ≡ None → Reads (do_group d) t (faulty (stray_kind d m) (stray_place m))
unfolding do_group_rule
do_group_of_n2 d t n l m h1 h2 h3 =
    by_rule {o = faulty (stray_kind d m) (stray_place m)} (there _ _ h1 (reads {o = faulty (stray_kind d m) (stray_place m)} h2 (lacks _ h3 (fails))))

pub do_group_of : (d : ℕ) (t : Text) (n : Text) (l : List AndOr) (m : Text) (r : Text) → reserved (codes "do") t ≡ Some n → Reads (some_list d) n (done l m) → reserved (codes "done") m ≡ Some r → Reads (do_group d) t (done l r)
unfolding do_group_rule
do_group_of d t n l m r h1 h2 h3 =
    by_rule {o = done l r} (there _ _ h1 (reads {o = done l r} h2 (there _ _ h3 (stops))))

pub each_stray : (d : ℕ) (t : Text) (u : Text) → u ≡ gap false t → is_name u ≡ false → Reads (each d) t (faulty (stray_kind d u) (stray_place u))
unfolding each_at
each_stray d t u h1 h2 =
    let h2' = rw h1 at h2 in
    subst (λ (u : Text). Reads (each d) t (faulty (stray_kind d u) (stray_place u))) (sym h1) (by_rule {o = faulty (stray_kind d (gap false t)) (stray_place (gap false t))} (unless _ h2' (fails)))

pub each_of_f3 : (d : ℕ) (t : Text) (u : Text) (w : Text) (k : SyntaxKind) (z : Text) → u ≡ gap false t → is_name u ≡ true → w ≡ gap false (past Letters u) → Reads (each_words d) w (faulty k z) → Reads (each d) t (faulty k z)
unfolding each_at
each_of_f3 d t u w k z h1 h2 h3 h4 =
    let h2' = rw h1 at h2 in
    let h3' = rw h1 at h3 in
    let h4' = rw h3' at h4 in
    by_rule {o = faulty k z} (when _ h2' (reads_fault h4'))

pub each_of_f4 : (d : ℕ) (t : Text) (u : Text) (w : Text) (ws : Option (List (List Part))) (m : Text) (k : SyntaxKind) (z : Text) → u ≡ gap false t → is_name u ≡ true → w ≡ gap false (past Letters u) → Reads (each_words d) w (done ws m) → Reads (do_group d) m (faulty k z) → Reads (each d) t (faulty k z)
unfolding each_at
each_of_f4 d t u w ws m k z h1 h2 h3 h4 h5 =
    let h2' = rw h1 at h2 in
    let h3' = rw h1 at h3 in
    let h4' = rw h3' at h4 in
    by_rule {o = faulty k z} (when _ h2' (reads {o = faulty k z} h4' (reads_fault h5)))

pub each_of : (d : ℕ) (t : Text) (u : Text) (w : Text) (ws : Option (List (List Part))) (m : Text) (body : List AndOr) (r : Text) → u ≡ gap false t → is_name u ≡ true → w ≡ gap false (past Letters u) → Reads (each_words d) w (done ws m) → Reads (do_group d) m (done body r) → Reads (each d) t (done (For (run Letters u) ws body) r)
unfolding each_at
each_of d t u w ws m body r h1 h2 h3 h4 h5 =
    let h2' = rw h1 at h2 in
    let h3' = rw h1 at h3 in
    let h4' = rw h3' at h4 in
    subst (λ (u : Text). Reads (each d) t (done (For (run Letters u) ws body) r)) (sym h1) (by_rule {o = done (For (run Letters (gap false t)) ws body) r} (when _ h2' (reads {o = done (For (run Letters (gap false t)) ws body) r} h4' (reads {o = done (For (run Letters (gap false t)) ws body) r} h5 (stops)))))

pub each_words_semicolon : (d : ℕ) (t : Text) (n : Text) (u : Text) → single_semicolon t ≡ Some n → u ≡ gap true n → Reads (each_words d) t (done None u)
unfolding each_words_rule
each_words_semicolon d t n u h1 h2 =
    subst (λ (u : Text). Reads (each_words d) t (done None u)) (sym h2) (by_rule {o = done None (gap true n)} (there _ _ h1 (stops)))

pub each_words_none : (d : ℕ) (t : Text) (u : Text) → single_semicolon t ≡ None → u ≡ gap true t → reserved (codes "in") u ≡ None → Reads (each_words d) t (done None u)
unfolding each_words_rule
each_words_none d t u h1 h2 h3 =
    let h3' = rw h2 at h3 in
    subst (λ (u : Text). Reads (each_words d) t (done None u)) (sym h2) (by_rule {o = done None (gap true t)} (lacks _ h1 (lacks _ h3' (stops))))

pub each_words_in_f3 : (d : ℕ) (t : Text) (u : Text) (n : Text) (k : SyntaxKind) (z : Text) → single_semicolon t ≡ None → u ≡ gap true t → reserved (codes "in") u ≡ Some n → Reads (words d) n (faulty k z) → Reads (each_words d) t (faulty k z)
unfolding each_words_rule
each_words_in_f3 d t u n k z h1 h2 h3 h4 =
    let h3' = rw h2 at h3 in
    by_rule {o = faulty k z} (lacks _ h1 (there _ _ h3' (reads_fault h4)))

pub each_words_in : (d : ℕ) (t : Text) (u : Text) (n : Text) (ws : List (List Part)) (m : Text) (v : Text) → single_semicolon t ≡ None → u ≡ gap true t → reserved (codes "in") u ≡ Some n → Reads (words d) n (done ws m) → ended_words d ws m ≡ stop (Some ws) v → Reads (each_words d) t (done (Some ws) v)
unfolding each_words_rule
each_words_in d t u n ws m v h1 h2 h3 h4 h5 =
    let h3' = rw h2 at h3 in
    by_rule {o = done (Some ws) v} (lacks _ h1 (there _ _ h3' (reads {o = done (Some ws) v} h4 (rw h5 (stops)))))

pub each_words_stuck : (d : ℕ) (t : Text) (u : Text) (n : Text) (ws : List (List Part)) (m : Text) (k : SyntaxKind) (z : Text) → single_semicolon t ≡ None → u ≡ gap true t → reserved (codes "in") u ≡ Some n → Reads (words d) n (done ws m) → ended_words d ws m ≡ fault k z → Reads (each_words d) t (faulty k z)
unfolding each_words_rule
each_words_stuck d t u n ws m k z h1 h2 h3 h4 h5 =
    let h3' = rw h2 at h3 in
    by_rule {o = faulty k z} (lacks _ h1 (there _ _ h3' (reads {o = faulty k z} h4 (rw h5 (fails)))))

pub words_more_f2 : (d : ℕ) (t : Text) (u : Text) (k : SyntaxKind) (z : Text) → u ≡ gap false t → is_word u ≡ true → Reads (parts Bare d) u (faulty k z) → Reads (words d) t (faulty k z)
unfolding words_rule
words_more_f2 d t u k z h1 h2 h3 =
    let h2' = rw h1 at h2 in
    let h3' = rw h1 at h3 in
    by_rule {o = faulty k z} (when _ h2' (reads_fault h3'))

pub words_more_f3 : (d : ℕ) (t : Text) (u : Text) (w : List Part) (m : Text) (k : SyntaxKind) (z : Text) → u ≡ gap false t → is_word u ≡ true → Reads (parts Bare d) u (done w m) → Reads (words d) m (faulty k z) → Reads (words d) t (faulty k z)
unfolding words_rule
words_more_f3 d t u w m k z h1 h2 h3 h4 =
    let h2' = rw h1 at h2 in
    let h3' = rw h1 at h3 in
    by_rule {o = faulty k z} (when _ h2' (reads {o = faulty k z} h3' (reads_fault h4)))

pub words_more : (d : ℕ) (t : Text) (u : Text) (w : List Part) (m : Text) (ws : List (List Part)) (r : Text) → u ≡ gap false t → is_word u ≡ true → Reads (parts Bare d) u (done w m) → Reads (words d) m (done ws r) → Reads (words d) t (done (w ∷ ws) r)
unfolding words_rule
words_more d t u w m ws r h1 h2 h3 h4 =
    let h2' = rw h1 at h2 in
    let h3' = rw h1 at h3 in
    by_rule {o = done (w ∷ ws) r} (when _ h2' (reads {o = done (w ∷ ws) r} h3' (reads {o = done (w ∷ ws) r} h4 (stops))))

pub words_end : (d : ℕ) (t : Text) (u : Text) → u ≡ gap false t → is_word u ≡ false → Reads (words d) t (done [] u)
unfolding words_rule
words_end d t u h1 h2 =
    let h2' = rw h1 at h2 in
    subst (λ (u : Text). Reads (words d) t (done [] u)) (sym h1) (by_rule {o = done [] (gap false t)} (unless _ h2' (stops)))

pub choice_stray : (d : ℕ) (t : Text) (u : Text) → u ≡ gap false t → is_word u ≡ false → Reads (choice d) t (faulty (stray_kind d u) (stray_place u))
unfolding choice_at
choice_stray d t u h1 h2 =
    let h2' = rw h1 at h2 in
    subst (λ (u : Text). Reads (choice d) t (faulty (stray_kind d u) (stray_place u))) (sym h1) (by_rule {o = faulty (stray_kind d (gap false t)) (stray_place (gap false t))} (unless _ h2' (fails)))

pub choice_of_f2 : (d : ℕ) (t : Text) (u : Text) (k : SyntaxKind) (z : Text) → u ≡ gap false t → is_word u ≡ true → Reads (parts Bare d) u (faulty k z) → Reads (choice d) t (faulty k z)
unfolding choice_at
choice_of_f2 d t u k z h1 h2 h3 =
    let h2' = rw h1 at h2 in
    let h3' = rw h1 at h3 in
    by_rule {o = faulty k z} (when _ h2' (reads_fault h3'))

pub choice_of_n4 : (d : ℕ) (t : Text) (u : Text) (w : List Part) (m : Text) (v : Text) → u ≡ gap false t → is_word u ≡ true → Reads (parts Bare d) u (done w m) → v ≡ gap true m → reserved (codes "in") v ≡ None → Reads (choice d) t (faulty (stray_kind d v) (stray_place v))
unfolding choice_at
choice_of_n4 d t u w m v h1 h2 h3 h4 h5 =
    let h2' = rw h1 at h2 in
    let h3' = rw h1 at h3 in
    let h5' = rw h4 at h5 in
    subst (λ (v : Text). Reads (choice d) t (faulty (stray_kind d v) (stray_place v))) (sym h4) (by_rule {o = faulty (stray_kind d (gap true m)) (stray_place (gap true m))} (when _ h2' (reads {o = faulty (stray_kind d (gap true m)) (stray_place (gap true m))} h3' (lacks _ h5' (fails)))))

pub choice_of_f5 : (d : ℕ) (t : Text) (u : Text) (w : List Part) (m : Text) (v : Text) (n : Text) (k : SyntaxKind) (z : Text) → u ≡ gap false t → is_word u ≡ true → Reads (parts Bare d) u (done w m) → v ≡ gap true m → reserved (codes "in") v ≡ Some n → Reads (cases d) n (faulty k z) → Reads (choice d) t (faulty k z)
unfolding choice_at
choice_of_f5 d t u w m v n k z h1 h2 h3 h4 h5 h6 =
    let h2' = rw h1 at h2 in
    let h3' = rw h1 at h3 in
    let h5' = rw h4 at h5 in
    by_rule {o = faulty k z} (when _ h2' (reads {o = faulty k z} h3' (there _ _ h5' (reads_fault h6))))

pub choice_of : (d : ℕ) (t : Text) (u : Text) (w : List Part) (m : Text) (v : Text) (n : Text) (cs : List Case) (r : Text) → u ≡ gap false t → is_word u ≡ true → Reads (parts Bare d) u (done w m) → v ≡ gap true m → reserved (codes "in") v ≡ Some n → Reads (cases d) n (done cs r) → Reads (choice d) t (done (Choice w cs) r)
unfolding choice_at
choice_of d t u w m v n cs r h1 h2 h3 h4 h5 h6 =
    let h2' = rw h1 at h2 in
    let h3' = rw h1 at h3 in
    let h5' = rw h4 at h5 in
    by_rule {o = done (Choice w cs) r} (when _ h2' (reads {o = done (Choice w cs) r} h3' (there _ _ h5' (reads {o = done (Choice w cs) r} h6 (stops)))))

pub cases_end : (d : ℕ) (t : Text) (u : Text) (r : Text) → u ≡ gap true t → reserved (codes "esac") u ≡ Some r → Reads (cases d) t (done [] r)
unfolding cases_at
cases_end d t u r h1 h2 =
    let h2' = rw h1 at h2 in
    by_rule {o = done [] r} (there _ _ h2' (stops))

pub cases_more_f2 : (d : ℕ) (t : Text) (u : Text) (k : SyntaxKind) (z : Text) → u ≡ gap true t → reserved (codes "esac") u ≡ None → Reads (case_item d) u (faulty k z) → Reads (cases d) t (faulty k z)
unfolding cases_at next_case
cases_more_f2 d t u k z h1 h2 h3 =
    let h2' = rw h1 at h2 in
    let h3' = rw h1 at h3 in
    by_rule {o = faulty k z} (lacks _ h2' (reads_fault h3'))

pub cases_more_f4 : (d : ℕ) (t : Text) (u : Text) (a : Case) (m : Text) (n : Text) (k : SyntaxKind) (z : Text) → u ≡ gap true t → reserved (codes "esac") u ≡ None → Reads (case_item d) u (done a m) → follow (codes ";;") m ≡ Some n → Reads (cases d) n (faulty k z) → Reads (cases d) t (faulty k z)
unfolding cases_at next_case
cases_more_f4 d t u a m n k z h1 h2 h3 h4 h5 =
    let h2' = rw h1 at h2 in
    let h3' = rw h1 at h3 in
    by_rule {o = faulty k z} (lacks _ h2' (reads {o = faulty k z} h3' (there _ _ h4 (reads_fault h5))))

pub cases_more : (d : ℕ) (t : Text) (u : Text) (a : Case) (m : Text) (n : Text) (cs : List Case) (r : Text) → u ≡ gap true t → reserved (codes "esac") u ≡ None → Reads (case_item d) u (done a m) → follow (codes ";;") m ≡ Some n → Reads (cases d) n (done cs r) → Reads (cases d) t (done (a ∷ cs) r)
unfolding cases_at next_case
cases_more d t u a m n cs r h1 h2 h3 h4 h5 =
    let h2' = rw h1 at h2 in
    let h3' = rw h1 at h3 in
    by_rule {o = done (a ∷ cs) r} (lacks _ h2' (reads {o = done (a ∷ cs) r} h3' (there _ _ h4 (reads {o = done (a ∷ cs) r} h5 (stops)))))

pub cases_last_n4 : (d : ℕ) (t : Text) (u : Text) (a : Case) (m : Text) → u ≡ gap true t → reserved (codes "esac") u ≡ None → Reads (case_item d) u (done a m) → follow (codes ";;") m ≡ None → reserved (codes "esac") m ≡ None → Reads (cases d) t (faulty (stray_kind d m) (stray_place m))
unfolding cases_at next_case
cases_last_n4 d t u a m h1 h2 h3 h4 h5 =
    let h2' = rw h1 at h2 in
    let h3' = rw h1 at h3 in
    by_rule {o = faulty (stray_kind d m) (stray_place m)} (lacks _ h2' (reads {o = faulty (stray_kind d m) (stray_place m)} h3' (lacks _ h4 (lacks _ h5 (fails)))))

pub cases_last : (d : ℕ) (t : Text) (u : Text) (a : Case) (m : Text) (r : Text) → u ≡ gap true t → reserved (codes "esac") u ≡ None → Reads (case_item d) u (done a m) → follow (codes ";;") m ≡ None → reserved (codes "esac") m ≡ Some r → Reads (cases d) t (done (a ∷ []) r)
unfolding cases_at next_case
cases_last d t u a m r h1 h2 h3 h4 h5 =
    let h2' = rw h1 at h2 in
    let h3' = rw h1 at h3 in
    by_rule {o = done (a ∷ []) r} (lacks _ h2' (reads {o = done (a ∷ []) r} h3' (lacks _ h4 (there _ _ h5 (stops)))))

pub case_of_f1 : (d : ℕ) (t : Text) (u : Text) (k : SyntaxKind) (z : Text) → u ≡ opened t → Reads (patterns d) u (faulty k z) → Reads (case_item d) t (faulty k z)
unfolding case_item_rule
case_of_f1 d t u k z h1 h2 =
    let h2' = rw h1 at h2 in
    by_rule {o = faulty k z} (reads_fault h2')

pub case_of_f2 : (d : ℕ) (t : Text) (u : Text) (ps : List (List Part)) (m : Text) (k : SyntaxKind) (z : Text) → u ≡ opened t → Reads (patterns d) u (done ps m) → Reads (list d) m (faulty k z) → Reads (case_item d) t (faulty k z)
unfolding case_item_rule
case_of_f2 d t u ps m k z h1 h2 h3 =
    let h2' = rw h1 at h2 in
    by_rule {o = faulty k z} (reads {o = faulty k z} h2' (reads_fault h3))

pub case_of : (d : ℕ) (t : Text) (u : Text) (ps : List (List Part)) (m : Text) (body : List AndOr) (r : Text) → u ≡ opened t → Reads (patterns d) u (done ps m) → Reads (list d) m (done body r) → Reads (case_item d) t (done (roll-Case (record { patterns = ps; body = body })) r)
unfolding case_item_rule
case_of d t u ps m body r h1 h2 h3 =
    let h2' = rw h1 at h2 in
    by_rule {o = done (roll-Case (record { patterns = ps; body = body })) r} (reads {o = done (roll-Case (record { patterns = ps; body = body })) r} h2' (reads {o = done (roll-Case (record { patterns = ps; body = body })) r} h3 (stops)))

pub patterns_stray : (d : ℕ) (t : Text) → is_word t ≡ false → Reads (patterns d) t (faulty (stray_kind d t) (stray_place t))
unfolding patterns_rule
patterns_stray d t h1 =
    by_rule {o = faulty (stray_kind d t) (stray_place t)} (unless _ h1 (fails))

pub patterns_last_f1 : (d : ℕ) (t : Text) (k : SyntaxKind) (z : Text) → is_word t ≡ true → Reads (parts Bare d) t (faulty k z) → Reads (patterns d) t (faulty k z)
unfolding patterns_rule next_pattern
patterns_last_f1 d t k z h1 h2 =
    by_rule {o = faulty k z} (when _ h1 (reads_fault h2))

pub patterns_last : (d : ℕ) (t : Text) (w : List Part) (m : Text) (u : Text) (r : Text) → is_word t ≡ true → Reads (parts Bare d) t (done w m) → u ≡ gap false m → follow (codes ")") u ≡ Some r → Reads (patterns d) t (done (w ∷ []) r)
unfolding patterns_rule next_pattern
patterns_last d t w m u r h1 h2 h3 h4 =
    let h4' = rw h3 at h4 in
    by_rule {o = done (w ∷ []) r} (when _ h1 (reads {o = done (w ∷ []) r} h2 (there _ _ h4' (stops))))

pub patterns_more_f6 : (d : ℕ) (t : Text) (w : List Part) (m : Text) (u : Text) (n : Text) (v : Text) (k : SyntaxKind) (z : Text) → is_word t ≡ true → Reads (parts Bare d) t (done w m) → u ≡ gap false m → follow (codes ")") u ≡ None → single_bar u ≡ Some n → v ≡ gap false n → Reads (patterns d) v (faulty k z) → Reads (patterns d) t (faulty k z)
unfolding patterns_rule next_pattern
patterns_more_f6 d t w m u n v k z h1 h2 h3 h4 h5 h6 h7 =
    let h4' = rw h3 at h4 in
    let h5' = rw h3 at h5 in
    let h7' = rw h6 at h7 in
    by_rule {o = faulty k z} (when _ h1 (reads {o = faulty k z} h2 (lacks _ h4' (there _ _ h5' (reads_fault h7')))))

pub patterns_more : (d : ℕ) (t : Text) (w : List Part) (m : Text) (u : Text) (n : Text) (v : Text) (ws : List (List Part)) (r : Text) → is_word t ≡ true → Reads (parts Bare d) t (done w m) → u ≡ gap false m → follow (codes ")") u ≡ None → single_bar u ≡ Some n → v ≡ gap false n → Reads (patterns d) v (done ws r) → Reads (patterns d) t (done (w ∷ ws) r)
unfolding patterns_rule next_pattern
patterns_more d t w m u n v ws r h1 h2 h3 h4 h5 h6 h7 =
    let h4' = rw h3 at h4 in
    let h5' = rw h3 at h5 in
    let h7' = rw h6 at h7 in
    by_rule {o = done (w ∷ ws) r} (when _ h1 (reads {o = done (w ∷ ws) r} h2 (lacks _ h4' (there _ _ h5' (reads {o = done (w ∷ ws) r} h7' (stops))))))

pub patterns_stuck : (d : ℕ) (t : Text) (w : List Part) (m : Text) (u : Text) → is_word t ≡ true → Reads (parts Bare d) t (done w m) → u ≡ gap false m → follow (codes ")") u ≡ None → single_bar u ≡ None → Reads (patterns d) t (faulty (stray_kind d u) (stray_place u))
unfolding patterns_rule next_pattern
patterns_stuck d t w m u h1 h2 h3 h4 h5 =
    let h4' = rw h3 at h4 in
    let h5' = rw h3 at h5 in
    subst (λ (u : Text). Reads (patterns d) t (faulty (stray_kind d u) (stray_place u))) (sym h3) (by_rule {o = faulty (stray_kind d (gap false m)) (stray_place (gap false m))} (when _ h1 (reads {o = faulty (stray_kind d (gap false m)) (stray_place (gap false m))} h2 (lacks _ h4' (lacks _ h5' (fails))))))

pub compound_of : (d : ℕ) (t : Text) (o : Outcome Form) → (d == 0) ≡ false → Runs (compound d) (compound_by (opening t) (d - 1) t) o → Reads (compound d) t o
unfolding compound_rule
compound_of d t o h1 h2 = by_rule {o = o} (unless _ h1 h2)
