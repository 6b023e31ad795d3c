-- The methods that are a part of a production, in the words of the rules.
use Rattle.std.proofs.Common.{◌≡◌, ℕ, Bool, true, false, not, ◌&&◌, refl, sym, ◌∙◌, subst, ap, List, [], ◌∷◌, ◌++◌, drop, Some, None, Result, Err}
use Rattle.std.specs.Prelude.{codes, IsErrAnd}
use Rattle.std.proofs.lemmas.Result.{err_from_is_err_and}
use Rattle.sh_tree.specs.declared.Part.{Part}
use Rattle.sh_tree.specs.declared.Assign.{Assign}
use Rattle.sh_tree.specs.declared.AndOr.{AndOr}
use Rattle.sh_tree.specs.declared.Redir.{Redir}
use Rattle.sh_tree.specs.declared.Form.TheVariants.{Simple}
use Rattle.sh_tree.specs.declared.Link.{roll-Link}
use Rattle.sh_tree.specs.declared.Pipeline.{Pipeline}
use Rattle.sh_text.specs.declared.Class.TheVariants.{Name as Letters}
use Rattle.sh_text.specs.Front.{Text, joined, gap, past, follow}
use Rattle.sh_parser.specs.declared.SyntaxKind.{SyntaxKind}
use Rattle.sh_parser.specs.declared.reader.Failed.{Failed}
use Rattle.sh_parser.specs.declared.reader.Failed.TheVariants.{Fault, Memory}
use Rattle.sh_parser.specs.Faults.{stray_kind, stray_place}
use Rattle.sh_parser.specs.Grammar.{Phrase, list, links, pipeline, Value, call, stop, fault, separated, ended_words, closed, in_braces, in_parens, with_redirs, is_assignment, assigns_at, is_separator, Reads, done, faulty, IsFaultAt, within, behind}
use Rattle.sh_parser.specs.Reading.{Reading, Answers, Linked, Separates, EndsWords, Closes, AnswersWhole, WholeReading}
use Rattle.sh_parser.proofs.Steps.{Leads, append_nil}
use Rattle.sh_parser.proofs.CommandRules.{links_and, links_and_f3, links_and_f4, links_or, links_or_f4, links_or_f5, links_end}

-- ---- `&&` and `||`

pub links_none : (d : ℕ) (t u : Text) → Linked t u None → Reads (links d) t (done [] u)
links_none d t u h = links_end d t u h.2 (subst (λ (x : Text). follow (codes "&&") x ≡ None) (sym h.2) h.0) (subst (λ (x : Text). follow (codes "||") x ≡ None) (sym h.2) h.1)

pub links_breaks : (d : ℕ) (t v : Text) (b : Bool) (k : SyntaxKind) (z : Text) → Linked t v (Some b) → Reads (pipeline d) v (faulty k z) → Reads (links d) t (faulty k z)
links_breaks d t v true k z h q = links_and_f3 d t (gap false t) h.0 v k z refl h.1 h.2 q
links_breaks d t v false k z h q = links_or_f4 d t (gap false t) h.0 v k z refl h.1 h.2 h.3 q

pub links_leads : (d : ℕ) (t v : Text) (b : Bool) (p : Pipeline) (m : Text) → Linked t v (Some b) → Reads (pipeline d) v (done p m) → Leads (links d) (links d) t m (λ ls. roll-Link (record { when_ok = b; next = p }) ∷ ls)
links_leads d t v true p m h q = record {
  gives = λ ls r x. links_and d t (gap false t) h.0 v p m ls r refl h.1 h.2 q x;
  breaks = λ k r x. links_and_f4 d t (gap false t) h.0 v p m k r refl h.1 h.2 q x;
}
links_leads d t v false p m h q = record {
  gives = λ ls r x. links_or d t (gap false t) h.0 v p m ls r refl h.1 h.2 h.3 q x;
  breaks = λ k r x. links_or_f5 d t (gap false t) h.0 v p m k r refl h.1 h.2 h.3 q x;
}

-- ---- what a method without a value ends in

halts_list : {s : Phrase} {old : Text} (now : Text) (d : ℕ) (mid : Text) → ((k : SyntaxKind) → separated d mid ≡ fault k now → Reads s old (faulty k now)) → (e : Failed) → Separates d mid now (Err e) → Answers s old now (Err e)
halts_list now d mid f (Fault k) h = f k h
halts_list now d mid f Memory h = absurd h

pub stuck_list : {s : Phrase} {old now : Text} (e : Failed) (d : ℕ) (mid : Text) (r : Result (Value s) Failed) → IsErrAnd r (λ y. y ≡ e) → ((k : SyntaxKind) → separated d mid ≡ fault k now → Reads s old (faulty k now)) → Separates d mid now (Err e) → Reading s old now r
stuck_list {s} {old} {now} e d mid r x f h =
    let p = err_from_is_err_and r x in
    subst (λ (q : Result (Value s) Failed). Reading s old now q) (sym (p.1 ∙ ap (λ y. Err y) p.2)) (record { is = halts_list now d mid f e h })

halts_words : {s : Phrase} {old : Text} (now : Text) (d : ℕ) (mid : Text) → ((k : SyntaxKind) → ((ws : List (List Part)) → ended_words d ws mid ≡ fault k now) → Reads s old (faulty k now)) → (e : Failed) → EndsWords d mid now (Err e) → Answers s old now (Err e)
halts_words now d mid f (Fault k) h = f k h
halts_words now d mid f Memory h = absurd h

pub stuck_words : {s : Phrase} {old now : Text} (e : Failed) (d : ℕ) (mid : Text) (r : Result (Value s) Failed) → IsErrAnd r (λ y. y ≡ e) → ((k : SyntaxKind) → ((ws : List (List Part)) → ended_words d ws mid ≡ fault k now) → Reads s old (faulty k now)) → EndsWords d mid now (Err e) → Reading s old now r
stuck_words {s} {old} {now} e d mid r x f h =
    let p = err_from_is_err_and r x in
    subst (λ (q : Result (Value s) Failed). Reading s old now q) (sym (p.1 ∙ ap (λ y. Err y) p.2)) (record { is = halts_words now d mid f e h })

halts_parens : {s : Phrase} {old : Text} (now mid : Text) → ((k : SyntaxKind) → ((q : Bool) (ps : List Part) → closed q ps mid ≡ fault k now) → Reads s old (faulty k now)) → (e : Failed) → Closes mid now (Err e) → Answers s old now (Err e)
halts_parens now mid f (Fault k) h = f k h
halts_parens now mid f Memory h = absurd h

pub stuck_parens : {s : Phrase} {old now : Text} (e : Failed) (mid : Text) (r : Result (Value s) Failed) → IsErrAnd r (λ y. y ≡ e) → ((k : SyntaxKind) → ((q : Bool) (ps : List Part) → closed q ps mid ≡ fault k now) → Reads s old (faulty k now)) → Closes mid now (Err e) → Reading s old now r
stuck_parens {s} {old} {now} e mid r x f h =
    let p = err_from_is_err_and r x in
    subst (λ (q : Result (Value s) Failed). Reading s old now q) (sym (p.1 ∙ ap (λ y. Err y) p.2)) (record { is = halts_parens now mid f e h })

-- ---- where a part of a text begins

pub braces_text : (t a b c n : Text) → a ≡ drop 1 t → b ≡ joined a → c ≡ drop 1 b → n ≡ joined c → n ≡ in_braces t
braces_text t a b c n h1 h2 h3 h4 = h4 ∙ ap joined (h3 ∙ ap (drop 1) (h2 ∙ ap joined h1))

pub dollar_text : (t a n : Text) → a ≡ drop 1 t → n ≡ joined a → n ≡ joined (drop 1 t)
dollar_text t a n h1 h2 = h2 ∙ ap joined h1

pub parens_text : (t a b n : Text) → a ≡ drop 1 t → b ≡ joined a → n ≡ drop 1 b → n ≡ in_parens t
parens_text t a b n h1 h2 h3 = h3 ∙ ap (drop 1) (h2 ∙ ap joined h1)

pub each_text : (u a n : Text) → a ≡ past Letters u → n ≡ gap false a → n ≡ gap false (past Letters u)
each_text u a n h1 h2 = h2 ∙ ap (gap false) h1

-- ---- simple commands

pub simple_whole : (assigns : List Assign) (words : List (List Part)) (redirs : List Redir) → with_redirs (Simple assigns words) redirs ≡ with_redirs (Simple (assigns ++ []) (words ++ [])) (redirs ++ [])
simple_whole assigns words redirs = sym (ap (λ x. with_redirs (Simple x (words ++ [])) (redirs ++ [])) (append_nil assigns) ∙ ap (λ x. with_redirs (Simple assigns x) (redirs ++ [])) (append_nil words) ∙ ap (λ x. with_redirs (Simple assigns words) x) (append_nil redirs))

not_true : (a b : Bool) → (not a && b) ≡ true → a ≡ false
not_true false b e = refl
not_true true b e = sym e

pub assigns_unseen : (seen : Bool) (t : Text) → assigns_at seen t ≡ true → seen ≡ false
unfolding assigns_at
assigns_unseen seen t e = not_true seen (is_assignment t) e

-- ---- a `;` or a line end

pub separates_stray : (d : ℕ) (old now : Text) (e : Failed) → e ≡ Fault (stray_kind d old) → now ≡ stray_place old → separated d old ≡ fault (stray_kind d old) (stray_place old) → Separates d old now (Err e)
separates_stray d old now e kind place h =
    subst (λ (q : Failed). Separates d old now (Err q)) (sym kind) (subst (λ (z : Text). separated d old ≡ fault (stray_kind d old) z) (sym place) h)

pub separated_none : (d : ℕ) (t : Text) → t ≡ [] → separated d t ≡ fault (stray_kind d t) (stray_place t)
unfolding separated
separated_none d t e = subst (λ (x : Text). separated d x ≡ fault (stray_kind d x) (stray_place x)) (sym e) refl

pub separated_other : (d : ℕ) (t : Text) (c : ℕ) (r : Text) → t ≡ c ∷ r → is_separator c ≡ false → separated d t ≡ fault (stray_kind d t) (stray_place t)
unfolding separated
separated_other d t c r e f = subst (λ (x : Text). separated d x ≡ fault (stray_kind d x) (stray_place x)) (sym e) (rw f refl)

pub separated_one : (d : ℕ) (t : Text) (c : ℕ) (r : Text) → t ≡ c ∷ r → is_separator c ≡ true → separated d t ≡ call (list d) r stop
unfolding separated
separated_one d t c r e f = subst (λ (x : Text). separated d x ≡ call (list d) r stop) (sym e) (rw f refl)

-- ---- a whole text

halts_whole : (old now : Text) (e : Failed) → Answers (list 64) old now (Err e) → AnswersWhole old now (Err e)
halts_whole old now (Fault k) h = within h
halts_whole old now Memory h = tt

pub stuck_whole : {old now : Text} {e : Failed} (r : Result (List AndOr) Failed) → IsErrAnd r (λ y. y ≡ e) → Reading (list 64) old now (Err e) → WholeReading old now r
stuck_whole {old} {now} {e} r x h =
    let p = err_from_is_err_and r x in
    subst (λ (q : Result (List AndOr) Failed). WholeReading old now q) (sym (p.1 ∙ ap (λ y. Err y) p.2)) (record { is = halts_whole old now e h.is })

fault_behind : (old mid : Text) (tree : List AndOr) (c : ℕ) (r : Text) → mid ≡ c ∷ r → Reads (list 64) old (done tree mid) → IsFaultAt old (stray_kind 64 mid) (stray_place mid)
fault_behind old mid tree c r e h =
    subst (λ (x : Text). IsFaultAt old (stray_kind 64 x) (stray_place x)) (sym e) (behind (subst (λ (x : Text). Reads (list 64) old (done tree x)) e h))

pub whole_stray : (old mid now : Text) (tree : List AndOr) (c : ℕ) (r : Text) (e : Failed) → mid ≡ c ∷ r → Reads (list 64) old (done tree mid) → e ≡ Fault (stray_kind 64 mid) → now ≡ stray_place mid → WholeReading old now (Err e)
whole_stray old mid now tree c r e m h kind place =
    subst (λ (q : Failed). WholeReading old now (Err q)) (sym kind)
    (record { is = subst (λ (z : Text). IsFaultAt old (stray_kind 64 mid) z) (sym place) (fault_behind old mid tree c r m h) })

pub fault_is : (text left : Text) (e : Failed) (k : SyntaxKind) → e ≡ Fault k → AnswersWhole text left (Err e) → IsFaultAt text k left
fault_is text left e k h a = subst (λ (x : Failed). AnswersWhole text left (Err x)) h a
