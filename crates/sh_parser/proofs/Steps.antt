-- How the answers of a reader's calls make up its own.
use Rattle.std.proofs.Common.{◌≡◌, ◌≢◌, ℕ, ◌==◌, Bool, true, false, refl, sym, ◌∙◌, subst, ap, arith, List, [], ◌∷◌, ◌++◌, append_assoc, Option, None, Result, Ok, Err}
use Rattle.std.proofs.lemmas.Bool.Decides.{nat_tests}
use Rattle.std.specs.Prelude.{MatchResult, IsErrAnd, IsTrue}
use Rattle.std.proofs.lemmas.Result.{err_from_is_err_and}
use Rattle.sh_parser.specs.declared.SyntaxKind.{SyntaxKind}
use Rattle.sh_parser.specs.declared.reader.Failed.{Failed}
use Rattle.sh_parser.specs.declared.reader.Failed.TheVariants.{Fault, Memory}
use Rattle.sh_text.specs.Front.{Text}
use Rattle.sh_parser.specs.Faults.{stray_kind, stray_place}
use Rattle.sh_parser.specs.Reading.{Answers, Reading, Follows, AnswersSimple, SimpleReading, AnswersBranches, BranchesReading, AnswersForm, FormReading}
use Rattle.sh_tree.specs.declared.Command.{Command}
use Rattle.sh_tree.specs.declared.Form.{Form}
use Rattle.sh_parser.specs.declared.compound.Opening.{Opening}
use Rattle.sh_parser.specs.Grammar.{Phrase, simple, branches, compound, compound_by, Value, Runs, Reads, done, faulty}

-- a fault that a phrase within is met by, or want of memory there, at the exit of a `?`
faults : {s a : Phrase} {old mid now : Text} → ((k : SyntaxKind) → Reads a mid (faulty k now) → Reads s old (faulty k now)) → (e : Failed) → Answers a mid now (Err e) → Answers s old now (Err e)
faults f (Fault k) h = f k h
faults f Memory h = tt

pub exit : {s a : Phrase} {old mid now : Text} {e : Failed} (r : Result (Value s) Failed) → IsErrAnd r (λ y. y ≡ e) → ((k : SyntaxKind) → Reads a mid (faulty k now) → Reads s old (faulty k now)) → Reading a mid now (Err e) → Reading s old now r
exit {s} {a} {old} {mid} {now} {e} r x f h =
    let p = err_from_is_err_and r x in
    subst (λ (q : Result (Value s) Failed). Reading s old now q) (sym (p.1 ∙ ap (λ y. Err y) p.2)) (record { is = faults f e h.is })

-- a token stands in the place of what has to follow
misses : {s : Phrase} {old : Text} (now : Text) (found : Option Text) (d : ℕ) (mid : Text) → (found ≡ None → Reads s old (faulty (stray_kind d mid) (stray_place mid))) → (e : Failed) → Follows found d mid now (Err e) → Answers s old now (Err e)
misses now found d mid f (Fault k) h = rw (h.1, h.2) (f h.0)
misses now found d mid f Memory h = absurd h

pub missing : {s : Phrase} {old now : Text} (e : Failed) (found : Option Text) (d : ℕ) (mid : Text) (r : Result (Value s) Failed) → IsErrAnd r (λ y. y ≡ e) → (found ≡ None → Reads s old (faulty (stray_kind d mid) (stray_place mid))) → Follows found d mid now (Err e) → Reading s old now r
missing {s} {old} {now} e found d mid r x f h =
    let p = err_from_is_err_and r x in
    subst (λ (q : Result (Value s) Failed). Reading s old now q) (sym (p.1 ∙ ap (λ y. Err y) p.2)) (record { is = misses now found d mid f e h })

-- want of memory, at the exit of a `?`
pub full : {s : Phrase} {old now : Text} {e : Failed} (r : Result (Value s) Failed) → IsErrAnd r (λ y. y ≡ e) → e ≡ Memory → Reading s old now r
full {s} {old} {now} {e} r x h =
    let p = err_from_is_err_and r x in
    subst (λ (q : Result (Value s) Failed). Reading s old now q) (sym (p.1 ∙ ap (λ y. Err y) (p.2 ∙ h))) (record { is = tt })

-- a token that can't stand there
pub strayed : {s : Phrase} {old now : Text} {e : Failed} (mid : Text) (d : ℕ) → e ≡ Fault (stray_kind d mid) → now ≡ stray_place mid → Reads s old (faulty (stray_kind d mid) (stray_place mid)) → Reading s old now (Err e)
strayed {s} {old} {now} {e} mid d kind place h =
    subst (λ (q : Failed). Reading s old now (Err q)) (sym kind) (subst (λ (z : Text). Reading s old z (Err (Fault (stray_kind d mid)))) (sym place) (record { is = h }))

-- what a call that only wants memory ends in
makes : {s : Phrase} {old now : Text} {v : Value s} (r : Result (Value s) Failed) → Reads s old (done v now) → MatchResult r (λ a. a ≡ v) (λ e. e ≡ Memory) → Answers s old now r
makes {s} {old} {now} {v} (Ok a) h e = subst (λ (b : Value s). Reads s old (done b now)) (sym e) h
makes (Err (Fault k)) h e = absurd (let q : Fault k ≡ Memory = e in cc)
makes (Err Memory) h e = tt

pub built : {s : Phrase} {old now : Text} {v : Value s} {r : Result (Value s) Failed} → Reads s old (done v now) → MatchResult r (λ a. a ≡ v) (λ e. e ≡ Memory) → Reading s old now r
built {s} {old} {now} {v} {r} h e = record { is = makes r h e }

-- What a phrase `a` is read as here makes up what the phrase `s` is read as that began there.
pub record Leads (s a : Phrase) (old now : Text) (f : Value a → Value s) : Type 0 where
  pub gives : (v : Value a) (r : Text) → Reads a now (done v r) → Reads s old (done (f v) r)
  pub breaks : (k : SyntaxKind) (r : Text) → Reads a now (faulty k r) → Reads s old (faulty k r)

pub step : {s a b : Phrase} {old now next : Text} {f : Value a → Value s} {g : Value b → Value a} {h : Value b → Value s} → Leads s a old now f → Leads a b now next g → ((v : Value b) → f (g v) ≡ h v) → Leads s b old next h
step {s} {a} {b} {old} {now} {next} {f} {g} {h} l m e = record {
  gives = λ v r x. subst (λ (w : Value s). Reads s old (done w r)) (e v) (l.gives (g v) r (m.gives v r x));
  breaks = λ k r x. l.breaks k r (m.breaks k r x);
}

pub ends : {s a : Phrase} {old now r : Text} {f : Value a → Value s} {v : Value a} {w : Value s} → Leads s a old now f → Reads a now (done v r) → f v ≡ w → Reading s old r (Ok w)
ends {s} {a} {old} {now} {r} {f} {v} {w} l h e = record { is = subst (λ (x : Value s). Reads s old (done x r)) e (l.gives v r h) }

pub append_nil : {A : Type 0} (xs : List A) → xs ++ [] ≡ xs
append_nil [] = refl
append_nil (x ∷ xs) = ap (λ l. x ∷ l) (append_nil xs)

-- one item more
pub more : {A : Type 0} {ys : List A} (xs : List A) (x : A) (vs : List A) → ys ≡ xs ++ x ∷ [] → xs ++ x ∷ vs ≡ ys ++ vs
more {A} {ys} xs x vs e = sym (append_assoc xs (x ∷ []) vs) ∙ ap (λ zs. zs ++ vs) (sym e)

-- tests of numbers, as facts
pub no_depth : (d : ℕ) → d ≡ 0 → (d == 0) ≡ true
no_depth d e = grind (arith, nat_tests)

pub some_depth : (d : ℕ) → d ≢ 0 → (d == 0) ≡ false
some_depth d e = grind (arith, nat_tests)

pub same_byte : (c k : ℕ) → c ≡ k → (c == k) ≡ true
same_byte c k e = grind (arith, nat_tests)

pub other_byte : (c k : ℕ) → c ≢ k → (c == k) ≡ false
other_byte c k e = grind (arith, nat_tests)

-- the same for the methods that are a part of a phrase, or make more of it

faults_simple : {d : ℕ} {a : Phrase} {old mid now : Text} → ((k : SyntaxKind) → Reads a mid (faulty k now) → Reads (simple false d) old (faulty k now)) → (e : Failed) → Answers a mid now (Err e) → AnswersSimple d old now (Err e)
faults_simple f (Fault k) h = f k h
faults_simple f Memory h = tt

pub exit_simple : {d : ℕ} {a : Phrase} {old mid now : Text} {e : Failed} (r : Result Command Failed) → IsErrAnd r (λ y. y ≡ e) → ((k : SyntaxKind) → Reads a mid (faulty k now) → Reads (simple false d) old (faulty k now)) → Reading a mid now (Err e) → SimpleReading d old now r
exit_simple {d} {a} {old} {mid} {now} {e} r x f h =
    let p = err_from_is_err_and r x in
    subst (λ (q : Result Command Failed). SimpleReading d old now q) (sym (p.1 ∙ ap (λ y. Err y) p.2)) (record { is = faults_simple f e h.is })

pub full_simple : {d : ℕ} {old now : Text} {e : Failed} (r : Result Command Failed) → IsErrAnd r (λ y. y ≡ e) → e ≡ Memory → SimpleReading d old now r
full_simple {d} {old} {now} {e} r x h =
    let p = err_from_is_err_and r x in
    subst (λ (q : Result Command Failed). SimpleReading d old now q) (sym (p.1 ∙ ap (λ y. Err y) (p.2 ∙ h))) (record { is = tt })

faults_branches : {d : ℕ} {a : Phrase} {old mid now : Text} → ((k : SyntaxKind) → Reads a mid (faulty k now) → Reads (branches d) old (faulty k now)) → (e : Failed) → Answers a mid now (Err e) → AnswersBranches d old now (Err e)
faults_branches f (Fault k) h = f k h
faults_branches f Memory h = tt

pub exit_branches : {d : ℕ} {a : Phrase} {old mid now : Text} {e : Failed} (r : Result Form Failed) → IsErrAnd r (λ y. y ≡ e) → ((k : SyntaxKind) → Reads a mid (faulty k now) → Reads (branches d) old (faulty k now)) → Reading a mid now (Err e) → BranchesReading d old now r
exit_branches {d} {a} {old} {mid} {now} {e} r x f h =
    let p = err_from_is_err_and r x in
    subst (λ (q : Result Form Failed). BranchesReading d old now q) (sym (p.1 ∙ ap (λ y. Err y) p.2)) (record { is = faults_branches f e h.is })

pub full_branches : {d : ℕ} {old now : Text} {e : Failed} (r : Result Form Failed) → IsErrAnd r (λ y. y ≡ e) → e ≡ Memory → BranchesReading d old now r
full_branches {d} {old} {now} {e} r x h =
    let p = err_from_is_err_and r x in
    subst (λ (q : Result Form Failed). BranchesReading d old now q) (sym (p.1 ∙ ap (λ y. Err y) (p.2 ∙ h))) (record { is = tt })

misses_branches : {d : ℕ} {old : Text} (now : Text) (found : Option Text) (n : ℕ) (mid : Text) → (found ≡ None → Reads (branches d) old (faulty (stray_kind n mid) (stray_place mid))) → (e : Failed) → Follows found n mid now (Err e) → AnswersBranches d old now (Err e)
misses_branches now found n mid f (Fault k) h = rw (h.1, h.2) (f h.0)
misses_branches now found n mid f Memory h = absurd h

pub missing_branches : {d : ℕ} {old now : Text} (e : Failed) (found : Option Text) (n : ℕ) (mid : Text) (r : Result Form Failed) → IsErrAnd r (λ y. y ≡ e) → (found ≡ None → Reads (branches d) old (faulty (stray_kind n mid) (stray_place mid))) → Follows found n mid now (Err e) → BranchesReading d old now r
missing_branches {d} {old} {now} e found n mid r x f h =
    let p = err_from_is_err_and r x in
    subst (λ (q : Result Form Failed). BranchesReading d old now q) (sym (p.1 ∙ ap (λ y. Err y) p.2)) (record { is = misses_branches now found n mid f e h })

faults_form : (o : Opening) (d : ℕ) {a : Phrase} (old : Text) {mid now : Text} → ((k : SyntaxKind) → Reads a mid (faulty k now) → (m : ℕ) → Runs (compound m) (compound_by o d old) (faulty k now)) → (e : Failed) → Answers a mid now (Err e) → AnswersForm o d old now (Err e)
faults_form o d old f (Fault k) h = f k h
faults_form o d old f Memory h = tt

pub exit_form : {o : Opening} {d : ℕ} {a : Phrase} {old mid now : Text} {e : Failed} (r : Result Form Failed) → IsErrAnd r (λ y. y ≡ e) → ((k : SyntaxKind) → Reads a mid (faulty k now) → (m : ℕ) → Runs (compound m) (compound_by o d old) (faulty k now)) → Reading a mid now (Err e) → FormReading o d old now r
exit_form {o} {d} {a} {old} {mid} {now} {e} r x f h =
    let p = err_from_is_err_and r x in
    subst (λ (q : Result Form Failed). FormReading o d old now q) (sym (p.1 ∙ ap (λ y. Err y) p.2)) (record { is = faults_form o d old f e h.is })

pub full_form : {o : Opening} {d : ℕ} {old now : Text} {e : Failed} (r : Result Form Failed) → IsErrAnd r (λ y. y ≡ e) → e ≡ Memory → FormReading o d old now r
full_form {o} {d} {old} {now} {e} r x h =
    let p = err_from_is_err_and r x in
    subst (λ (q : Result Form Failed). FormReading o d old now q) (sym (p.1 ∙ ap (λ y. Err y) (p.2 ∙ h))) (record { is = tt })

misses_form : (o : Opening) (d : ℕ) (old now : Text) (found : Option Text) (n : ℕ) (mid : Text) → (found ≡ None → (m : ℕ) → Runs (compound m) (compound_by o d old) (faulty (stray_kind n mid) (stray_place mid))) → (e : Failed) → Follows found n mid now (Err e) → AnswersForm o d old now (Err e)
misses_form o d old now found n mid f (Fault k) h = λ m. rw (h.1, h.2) (f h.0 m)
misses_form o d old now found n mid f Memory h = absurd h

pub missing_form : {o : Opening} {d : ℕ} {old now : Text} (e : Failed) (found : Option Text) (n : ℕ) (mid : Text) (r : Result Form Failed) → IsErrAnd r (λ y. y ≡ e) → (found ≡ None → (m : ℕ) → Runs (compound m) (compound_by o d old) (faulty (stray_kind n mid) (stray_place mid))) → Follows found n mid now (Err e) → FormReading o d old now r
missing_form {o} {d} {old} {now} e found n mid r x f h =
    let p = err_from_is_err_and r x in
    subst (λ (q : Result Form Failed). FormReading o d old now q) (sym (p.1 ∙ ap (λ y. Err y) p.2)) (record { is = misses_form o d old now found n mid f e h })

pub opened_by : {o p : Opening} {d : ℕ} {old now : Text} {r : Result Form Failed} → o ≡ p → FormReading p d old now r → FormReading o d old now r
opened_by {o} {p} {d} {old} {now} {r} e h = subst (λ (x : Opening). FormReading x d old now r) (sym e) h

-- an answer that is handed on
pub each_way : {T : Type 0} (P Q : Result T Failed → Type 0) → ((v : T) → P (Ok v) → Q (Ok v)) → ((k : SyntaxKind) → P (Err (Fault k)) → Q (Err (Fault k))) → Q (Err Memory) → (r : Result T Failed) → P r → Q r
each_way P Q f g m (Ok v) h = f v h
each_way P Q f g m (Err (Fault k)) h = g k h
each_way P Q f g m (Err Memory) h = m

pub joins : {A : Type 0} {all : List A} (xs ys vs : List A) → all ≡ xs ++ ys → xs ++ (ys ++ vs) ≡ all ++ vs
joins xs ys vs e = sym (append_assoc xs ys vs) ∙ ap (λ zs. zs ++ vs) (sym e)

pub is_true : (b : Bool) → IsTrue b → b ≡ true
is_true b h = h

pub moves : {s a : Phrase} {old now : Text} {f h : Value a → Value s} → Leads s a old now f → ((v : Value a) → f v ≡ h v) → Leads s a old now h
moves {s} {a} {old} {now} {f} {h} l e = record {
  gives = λ v r x. subst (λ (w : Value s). Reads s old (done w r)) (e v) (l.gives v r x);
  breaks = λ k r x. l.breaks k r x;
}

pub starts : {s : Phrase} {old : Text} {f : Value s → Value s} → ((v : Value s) → v ≡ f v) → Leads s s old old f
starts {s} {old} {f} e = record {
  gives = λ v r x. subst (λ (w : Value s). Reads s old (done w r)) (e v) x;
  breaks = λ k r x. x;
}
