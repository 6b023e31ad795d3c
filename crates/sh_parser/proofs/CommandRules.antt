-- The rules of lists and commands, path by path, and each fault on the way.
use Rattle.std.proofs.Common.{◌≡◌, ℕ, Bool, true, false, sym, subst, List, [], ◌∷◌, Some, None}
use Rattle.std.specs.Prelude.{codes}
use Rattle.sh_tree.specs.declared.Part.{Part}
use Rattle.sh_tree.specs.declared.Redir.{Redir}
use Rattle.sh_tree.specs.declared.Assign.{Assign, roll-Assign}
use Rattle.sh_tree.specs.declared.Link.{Link, roll-Link}
use Rattle.sh_tree.specs.declared.Form.{Form}
use Rattle.sh_tree.specs.declared.Form.TheVariants.{Simple, Function}
use Rattle.sh_tree.specs.declared.Command.{Command}
use Rattle.sh_tree.specs.declared.Pipeline.{Pipeline}
use Rattle.sh_tree.specs.declared.AndOr.{AndOr, roll-AndOr}
use Rattle.sh_text.specs.declared.Class.TheVariants.{Name as Letters}
use Rattle.sh_text.specs.Front.{Text, gap, follow, reserved, past, run, is_word, is_redirection, is_opening, ends_list}
use Rattle.sh_parser.specs.declared.SyntaxKind.{SyntaxKind}
use Rattle.sh_parser.specs.declared.SyntaxKind.TheVariants.{Unclosed, LeftOut}
use Rattle.sh_parser.specs.declared.words.Mode.TheVariants.{Bare}
use Rattle.sh_parser.specs.declared.redirection.Direction.TheVariants.{To, LeftOut as Forbidden, Open as Unfinished, Stopped}
use Rattle.sh_parser.specs.Faults.{direct, stray_kind, stray_place}
use Rattle.sh_parser.proofs.Ways.{when, unless, there, lacks, when_not, unless_not}
use Rattle.sh_parser.specs.Grammar.{parts, list, after, some_list, and_or, links, pipeline, commands, piped, command, function, enclosed, redirs, redir, simple, assign, compound, stop, fault, call, list_rule, separated, after_rule, some_list_rule, and_or_rule, links_rule, piped_together, pipeline_rule, commands_rule, single_bar, piped_rule, past_function_name, with_redirs, begins_nothing, command_rule, body_of, function_rule, is_nil, is_stuck, enclosed_rule, redirs_rule, redir_rule, assigns_at, simple_at, assign_rule, done, faulty, Reads, by_rule, stops, fails, reads, reads_fault}

pub list_ends : (d : ℕ) (t : Text) (u : Text) → u ≡ gap true t → ends_list u ≡ true → Reads (list d) t (done [] u)
unfolding list_rule
list_ends d t u h1 h2 =
    let h2' = rw h1 at h2 in
    subst (λ (u : Text). Reads (list d) t (done [] u)) (sym h1) (by_rule {o = done [] (gap true t)} (when _ h2' (stops)))

pub list_f : (d : ℕ) (t : Text) (u : Text) (k : SyntaxKind) (z : Text) → u ≡ gap true t → ends_list u ≡ false → Reads (and_or d) u (faulty k z) → Reads (list d) t (faulty k z)
unfolding list_rule
list_f d t u k z h1 h2 h3 =
    let h2' = rw h1 at h2 in
    let h3' = rw h1 at h3 in
    by_rule {o = faulty k z} (unless _ h2' (reads_fault h3'))

pub list_item : (d : ℕ) (t : Text) (u : Text) (a : AndOr) (m : Text) (more : List AndOr) (r : Text) → u ≡ gap true t → ends_list u ≡ false → Reads (and_or d) u (done a m) → Reads (after d) m (done more r) → Reads (list d) t (done (a ∷ more) r)
unfolding list_rule
list_item d t u a m more r h1 h2 h3 h4 =
    let h2' = rw h1 at h2 in
    let h3' = rw h1 at h3 in
    by_rule {o = done (a ∷ more) r} (unless _ h2' (reads {o = done (a ∷ more) r} h3' (reads {o = done (a ∷ more) r} h4 (stops))))

pub list_item_f : (d : ℕ) (t : Text) (u : Text) (a : AndOr) (m : Text) (k : SyntaxKind) (z : Text) → u ≡ gap true t → ends_list u ≡ false → Reads (and_or d) u (done a m) → Reads (after d) m (faulty k z) → Reads (list d) t (faulty k z)
unfolding list_rule
list_item_f d t u a m k z h1 h2 h3 h4 =
    let h2' = rw h1 at h2 in
    let h3' = rw h1 at h3 in
    by_rule {o = faulty k z} (unless _ h2' (reads {o = faulty k z} h3' (reads_fault h4)))

pub after_ends : (d : ℕ) (t : Text) (u : Text) → u ≡ gap false t → ends_list u ≡ true → Reads (after d) t (done [] u)
unfolding after_rule
after_ends d t u h1 h2 =
    let h2' = rw h1 at h2 in
    subst (λ (u : Text). Reads (after d) t (done [] u)) (sym h1) (by_rule {o = done [] (gap false t)} (when _ h2' (stops)))

pub after_more_f4 : (d : ℕ) (t : Text) (u : Text) (n : Text) (k : SyntaxKind) (z : Text) → u ≡ gap false t → ends_list u ≡ false → separated d u ≡ call (list d) n stop → Reads (list d) n (faulty k z) → Reads (after d) t (faulty k z)
unfolding after_rule
after_more_f4 d t u n k z h1 h2 h3 h4 =
    let h2' = rw h1 at h2 in
    let h3' = rw h1 at h3 in
    by_rule {o = faulty k z} (unless _ h2' (rw h3' (reads_fault h4)))

pub after_more : (d : ℕ) (t : Text) (u : Text) (n : Text) (more : List AndOr) (r : Text) → u ≡ gap false t → ends_list u ≡ false → separated d u ≡ call (list d) n stop → Reads (list d) n (done more r) → Reads (after d) t (done more r)
unfolding after_rule
after_more d t u n more r h1 h2 h3 h4 =
    let h2' = rw h1 at h2 in
    let h3' = rw h1 at h3 in
    by_rule {o = done more r} (unless _ h2' (rw h3' (reads {o = done more r} h4 (stops))))

pub after_stuck : (d : ℕ) (t : Text) (u : Text) (k : SyntaxKind) (z : Text) → u ≡ gap false t → ends_list u ≡ false → separated d u ≡ fault k z → Reads (after d) t (faulty k z)
unfolding after_rule
after_stuck d t u k z h1 h2 h3 =
    let h2' = rw h1 at h2 in
    let h3' = rw h1 at h3 in
    by_rule {o = faulty k z} (unless _ h2' (rw h3' (fails)))

pub some_list_none : (d : ℕ) (t : Text) (u : Text) → u ≡ gap true t → ends_list u ≡ true → Reads (some_list d) t (faulty (stray_kind d u) (stray_place u))
unfolding some_list_rule
some_list_none d t u h1 h2 =
    let h2' = rw h1 at h2 in
    subst (λ (u : Text). Reads (some_list d) t (faulty (stray_kind d u) (stray_place u))) (sym h1) (by_rule {o = faulty (stray_kind d (gap true t)) (stray_place (gap true t))} (when _ h2' (fails)))

pub some_list_some_f2 : (d : ℕ) (t : Text) (u : Text) (k : SyntaxKind) (z : Text) → u ≡ gap true t → ends_list u ≡ false → Reads (list d) u (faulty k z) → Reads (some_list d) t (faulty k z)
unfolding some_list_rule
some_list_some_f2 d t u k z h1 h2 h3 =
    let h2' = rw h1 at h2 in
    let h3' = rw h1 at h3 in
    by_rule {o = faulty k z} (unless _ h2' (reads_fault h3'))

pub some_list_some : (d : ℕ) (t : Text) (u : Text) (a : List AndOr) (r : Text) → u ≡ gap true t → ends_list u ≡ false → Reads (list d) u (done a r) → Reads (some_list d) t (done a r)
unfolding some_list_rule
some_list_some d t u a r h1 h2 h3 =
    let h2' = rw h1 at h2 in
    let h3' = rw h1 at h3 in
    by_rule {o = done a r} (unless _ h2' (reads {o = done a r} h3' (stops)))

pub and_or_of_f0 : (d : ℕ) (t : Text) (k : SyntaxKind) (z : Text) → Reads (pipeline d) t (faulty k z) → Reads (and_or d) t (faulty k z)
unfolding and_or_rule
and_or_of_f0 d t k z h1 =
    by_rule {o = faulty k z} (reads_fault h1)

pub and_or_of_f1 : (d : ℕ) (t : Text) (p : Pipeline) (m : Text) (k : SyntaxKind) (z : Text) → Reads (pipeline d) t (done p m) → Reads (links d) m (faulty k z) → Reads (and_or d) t (faulty k z)
unfolding and_or_rule
and_or_of_f1 d t p m k z h1 h2 =
    by_rule {o = faulty k z} (reads {o = faulty k z} h1 (reads_fault h2))

pub and_or_of : (d : ℕ) (t : Text) (p : Pipeline) (m : Text) (ls : List Link) (r : Text) → Reads (pipeline d) t (done p m) → Reads (links d) m (done ls r) → Reads (and_or d) t (done (roll-AndOr (record { first = p; rest = ls })) r)
unfolding and_or_rule
and_or_of d t p m ls r h1 h2 =
    by_rule {o = done (roll-AndOr (record { first = p; rest = ls })) r} (reads {o = done (roll-AndOr (record { first = p; rest = ls })) r} h1 (reads {o = done (roll-AndOr (record { first = p; rest = ls })) r} h2 (stops)))

pub links_and_f3 : (d : ℕ) (t : Text) (u : Text) (n : Text) (v : Text) (k : SyntaxKind) (z : Text) → u ≡ gap false t → follow (codes "&&") u ≡ Some n → v ≡ gap true n → Reads (pipeline d) v (faulty k z) → Reads (links d) t (faulty k z)
unfolding links_rule
links_and_f3 d t u n v k z h1 h2 h3 h4 =
    let h2' = rw h1 at h2 in
    let h4' = rw h3 at h4 in
    by_rule {o = faulty k z} (there _ _ h2' (reads_fault h4'))

pub links_and_f4 : (d : ℕ) (t : Text) (u : Text) (n : Text) (v : Text) (p : Pipeline) (m : Text) (k : SyntaxKind) (z : Text) → u ≡ gap false t → follow (codes "&&") u ≡ Some n → v ≡ gap true n → Reads (pipeline d) v (done p m) → Reads (links d) m (faulty k z) → Reads (links d) t (faulty k z)
unfolding links_rule
links_and_f4 d t u n v p m k z h1 h2 h3 h4 h5 =
    let h2' = rw h1 at h2 in
    let h4' = rw h3 at h4 in
    by_rule {o = faulty k z} (there _ _ h2' (reads {o = faulty k z} h4' (reads_fault h5)))

pub links_and : (d : ℕ) (t : Text) (u : Text) (n : Text) (v : Text) (p : Pipeline) (m : Text) (ls : List Link) (r : Text) → u ≡ gap false t → follow (codes "&&") u ≡ Some n → v ≡ gap true n → Reads (pipeline d) v (done p m) → Reads (links d) m (done ls r) → Reads (links d) t (done (roll-Link (record { when_ok = true; next = p }) ∷ ls) r)
unfolding links_rule
links_and d t u n v p m ls r h1 h2 h3 h4 h5 =
    let h2' = rw h1 at h2 in
    let h4' = rw h3 at h4 in
    by_rule {o = done (roll-Link (record { when_ok = true; next = p }) ∷ ls) r} (there _ _ h2' (reads {o = done (roll-Link (record { when_ok = true; next = p }) ∷ ls) r} h4' (reads {o = done (roll-Link (record { when_ok = true; next = p }) ∷ ls) r} h5 (stops))))

pub links_or_f4 : (d : ℕ) (t : Text) (u : Text) (n : Text) (v : Text) (k : SyntaxKind) (z : Text) → u ≡ gap false t → follow (codes "&&") u ≡ None → follow (codes "||") u ≡ Some n → v ≡ gap true n → Reads (pipeline d) v (faulty k z) → Reads (links d) t (faulty k z)
unfolding links_rule
links_or_f4 d t u n v k z h1 h2 h3 h4 h5 =
    let h2' = rw h1 at h2 in
    let h3' = rw h1 at h3 in
    let h5' = rw h4 at h5 in
    by_rule {o = faulty k z} (lacks _ h2' (there _ _ h3' (reads_fault h5')))

pub links_or_f5 : (d : ℕ) (t : Text) (u : Text) (n : Text) (v : Text) (p : Pipeline) (m : Text) (k : SyntaxKind) (z : Text) → u ≡ gap false t → follow (codes "&&") u ≡ None → follow (codes "||") u ≡ Some n → v ≡ gap true n → Reads (pipeline d) v (done p m) → Reads (links d) m (faulty k z) → Reads (links d) t (faulty k z)
unfolding links_rule
links_or_f5 d t u n v p m k z h1 h2 h3 h4 h5 h6 =
    let h2' = rw h1 at h2 in
    let h3' = rw h1 at h3 in
    let h5' = rw h4 at h5 in
    by_rule {o = faulty k z} (lacks _ h2' (there _ _ h3' (reads {o = faulty k z} h5' (reads_fault h6))))

pub links_or : (d : ℕ) (t : Text) (u : Text) (n : Text) (v : Text) (p : Pipeline) (m : Text) (ls : List Link) (r : Text) → u ≡ gap false t → follow (codes "&&") u ≡ None → follow (codes "||") u ≡ Some n → v ≡ gap true n → Reads (pipeline d) v (done p m) → Reads (links d) m (done ls r) → Reads (links d) t (done (roll-Link (record { when_ok = false; next = p }) ∷ ls) r)
unfolding links_rule
links_or d t u n v p m ls r h1 h2 h3 h4 h5 h6 =
    let h2' = rw h1 at h2 in
    let h3' = rw h1 at h3 in
    let h5' = rw h4 at h5 in
    by_rule {o = done (roll-Link (record { when_ok = false; next = p }) ∷ ls) r} (lacks _ h2' (there _ _ h3' (reads {o = done (roll-Link (record { when_ok = false; next = p }) ∷ ls) r} h5' (reads {o = done (roll-Link (record { when_ok = false; next = p }) ∷ ls) r} h6 (stops)))))

pub links_end : (d : ℕ) (t : Text) (u : Text) → u ≡ gap false t → follow (codes "&&") u ≡ None → follow (codes "||") u ≡ None → Reads (links d) t (done [] u)
unfolding links_rule
links_end d t u h1 h2 h3 =
    let h2' = rw h1 at h2 in
    let h3' = rw h1 at h3 in
    subst (λ (u : Text). Reads (links d) t (done [] u)) (sym h1) (by_rule {o = done [] (gap false t)} (lacks _ h2' (lacks _ h3' (stops))))

pub pipeline_not_f2 : (d : ℕ) (t : Text) (n : Text) (u : Text) (k : SyntaxKind) (z : Text) → reserved (codes "!") t ≡ Some n → u ≡ gap false n → Reads (commands d) u (faulty k z) → Reads (pipeline d) t (faulty k z)
unfolding pipeline_rule
pipeline_not_f2 d t n u k z h1 h2 h3 =
    let h3' = rw h2 at h3 in
    by_rule {o = faulty k z} (there _ _ h1 (reads_fault h3'))

pub pipeline_not : (d : ℕ) (t : Text) (n : Text) (u : Text) (cs : List Command) (r : Text) → reserved (codes "!") t ≡ Some n → u ≡ gap false n → Reads (commands d) u (done cs r) → Reads (pipeline d) t (done (piped_together true cs) r)
unfolding pipeline_rule
pipeline_not d t n u cs r h1 h2 h3 =
    let h3' = rw h2 at h3 in
    by_rule {o = done (piped_together true cs) r} (there _ _ h1 (reads {o = done (piped_together true cs) r} h3' (stops)))

pub pipeline_plain_f1 : (d : ℕ) (t : Text) (k : SyntaxKind) (z : Text) → reserved (codes "!") t ≡ None → Reads (commands d) t (faulty k z) → Reads (pipeline d) t (faulty k z)
unfolding pipeline_rule
pipeline_plain_f1 d t k z h1 h2 =
    by_rule {o = faulty k z} (lacks _ h1 (reads_fault h2))

pub pipeline_plain : (d : ℕ) (t : Text) (cs : List Command) (r : Text) → reserved (codes "!") t ≡ None → Reads (commands d) t (done cs r) → Reads (pipeline d) t (done (piped_together false cs) r)
unfolding pipeline_rule
pipeline_plain d t cs r h1 h2 =
    by_rule {o = done (piped_together false cs) r} (lacks _ h1 (reads {o = done (piped_together false cs) r} h2 (stops)))

pub commands_of_f0 : (d : ℕ) (t : Text) (k : SyntaxKind) (z : Text) → Reads (command d) t (faulty k z) → Reads (commands d) t (faulty k z)
unfolding commands_rule
commands_of_f0 d t k z h1 =
    by_rule {o = faulty k z} (reads_fault h1)

pub commands_of_f1 : (d : ℕ) (t : Text) (c : Command) (m : Text) (k : SyntaxKind) (z : Text) → Reads (command d) t (done c m) → Reads (piped d) m (faulty k z) → Reads (commands d) t (faulty k z)
unfolding commands_rule
commands_of_f1 d t c m k z h1 h2 =
    by_rule {o = faulty k z} (reads {o = faulty k z} h1 (reads_fault h2))

pub commands_of : (d : ℕ) (t : Text) (c : Command) (m : Text) (cs : List Command) (r : Text) → Reads (command d) t (done c m) → Reads (piped d) m (done cs r) → Reads (commands d) t (done (c ∷ cs) r)
unfolding commands_rule
commands_of d t c m cs r h1 h2 =
    by_rule {o = done (c ∷ cs) r} (reads {o = done (c ∷ cs) r} h1 (reads {o = done (c ∷ cs) r} h2 (stops)))

pub piped_more_f3 : (d : ℕ) (t : Text) (u : Text) (n : Text) (v : Text) (k : SyntaxKind) (z : Text) → u ≡ gap false t → single_bar u ≡ Some n → v ≡ gap true n → Reads (commands d) v (faulty k z) → Reads (piped d) t (faulty k z)
unfolding piped_rule
piped_more_f3 d t u n v k z h1 h2 h3 h4 =
    let h2' = rw h1 at h2 in
    let h4' = rw h3 at h4 in
    by_rule {o = faulty k z} (there _ _ h2' (reads_fault h4'))

pub piped_more : (d : ℕ) (t : Text) (u : Text) (n : Text) (v : Text) (cs : List Command) (r : Text) → u ≡ gap false t → single_bar u ≡ Some n → v ≡ gap true n → Reads (commands d) v (done cs r) → Reads (piped d) t (done cs r)
unfolding piped_rule
piped_more d t u n v cs r h1 h2 h3 h4 =
    let h2' = rw h1 at h2 in
    let h4' = rw h3 at h4 in
    by_rule {o = done cs r} (there _ _ h2' (reads {o = done cs r} h4' (stops)))

pub piped_end : (d : ℕ) (t : Text) (u : Text) → u ≡ gap false t → single_bar u ≡ None → Reads (piped d) t (done [] u)
unfolding piped_rule
piped_end d t u h1 h2 =
    let h2' = rw h1 at h2 in
    subst (λ (u : Text). Reads (piped d) t (done [] u)) (sym h1) (by_rule {o = done [] (gap false t)} (lacks _ h2' (stops)))

pub command_enclosed_f1 : (d : ℕ) (t : Text) (k : SyntaxKind) (z : Text) → is_opening t ≡ true → Reads (enclosed d) t (faulty k z) → Reads (command d) t (faulty k z)
unfolding command_rule
command_enclosed_f1 d t k z h1 h2 =
    by_rule {o = faulty k z} (when _ h1 (reads_fault h2))

pub command_enclosed : (d : ℕ) (t : Text) (c : Command) (r : Text) → is_opening t ≡ true → Reads (enclosed d) t (done c r) → Reads (command d) t (done c r)
unfolding command_rule
command_enclosed d t c r h1 h2 =
    by_rule {o = done c r} (when _ h1 (reads {o = done c r} h2 (stops)))

pub command_nothing : (d : ℕ) (t : Text) → is_opening t ≡ false → begins_nothing t ≡ true → Reads (command d) t (faulty (stray_kind d t) (stray_place t))
unfolding command_rule
command_nothing d t h1 h2 =
    by_rule {o = faulty (stray_kind d t) (stray_place t)} (unless _ h1 (when _ h2 (fails)))

pub command_function_f3 : (d : ℕ) (t : Text) (n : Text) (k : SyntaxKind) (z : Text) → is_opening t ≡ false → begins_nothing t ≡ false → past_function_name t ≡ Some n → Reads (function d) t (faulty k z) → Reads (command d) t (faulty k z)
unfolding command_rule
command_function_f3 d t n k z h1 h2 h3 h4 =
    by_rule {o = faulty k z} (unless _ h1 (unless _ h2 (there _ _ h3 (reads_fault h4))))

pub command_function : (d : ℕ) (t : Text) (n : Text) (c : Command) (r : Text) → is_opening t ≡ false → begins_nothing t ≡ false → past_function_name t ≡ Some n → Reads (function d) t (done c r) → Reads (command d) t (done c r)
unfolding command_rule
command_function d t n c r h1 h2 h3 h4 =
    by_rule {o = done c r} (unless _ h1 (unless _ h2 (there _ _ h3 (reads {o = done c r} h4 (stops)))))

pub command_simple_f3 : (d : ℕ) (t : Text) (k : SyntaxKind) (z : Text) → is_opening t ≡ false → begins_nothing t ≡ false → past_function_name t ≡ None → Reads (simple false d) t (faulty k z) → Reads (command d) t (faulty k z)
unfolding command_rule
command_simple_f3 d t k z h1 h2 h3 h4 =
    by_rule {o = faulty k z} (unless _ h1 (unless _ h2 (lacks _ h3 (reads_fault h4))))

pub command_simple : (d : ℕ) (t : Text) (v : (List Assign × List (List Part) × List Redir)) (r : Text) → is_opening t ≡ false → begins_nothing t ≡ false → past_function_name t ≡ None → Reads (simple false d) t (done v r) → Reads (command d) t (done (with_redirs (Simple v.0 v.1) v.2) r)
unfolding command_rule
command_simple d t v r h1 h2 h3 h4 =
    by_rule {o = done (with_redirs (Simple v.0 v.1) v.2) r} (unless _ h1 (unless _ h2 (lacks _ h3 (reads {o = done (with_redirs (Simple v.0 v.1) v.2) r} h4 (stops)))))

pub function_of_n2 : (d : ℕ) (t : Text) (n : Text) (u : Text) → past_function_name t ≡ Some n → u ≡ gap false n → follow (codes ")") u ≡ None → Reads (function d) t (faulty (stray_kind d u) (stray_place u))
unfolding function_rule body_of
function_of_n2 d t n u h1 h2 h3 =
    let h3' = rw h2 at h3 in
    subst (λ (u : Text). Reads (function d) t (faulty (stray_kind d u) (stray_place u))) (sym h2) (by_rule {o = faulty (stray_kind d (gap false n)) (stray_place (gap false n))} (there _ _ h1 (lacks _ h3' (fails))))

pub function_of_f5 : (d : ℕ) (t : Text) (n : Text) (u : Text) (o : Text) (w : Text) (k : SyntaxKind) (z : Text) → past_function_name t ≡ Some n → u ≡ gap false n → follow (codes ")") u ≡ Some o → w ≡ gap true o → is_opening w ≡ true → Reads (enclosed d) w (faulty k z) → Reads (function d) t (faulty k z)
unfolding function_rule body_of
function_of_f5 d t n u o w k z h1 h2 h3 h4 h5 h6 =
    let h3' = rw h2 at h3 in
    let h5' = rw h4 at h5 in
    let h6' = rw h4 at h6 in
    by_rule {o = faulty k z} (there _ _ h1 (there _ _ h3' (when _ h5' (reads_fault h6'))))

pub function_of : (d : ℕ) (t : Text) (n : Text) (u : Text) (o : Text) (w : Text) (c : Command) (r : Text) → past_function_name t ≡ Some n → u ≡ gap false n → follow (codes ")") u ≡ Some o → w ≡ gap true o → is_opening w ≡ true → Reads (enclosed d) w (done c r) → Reads (function d) t (done (with_redirs (Function (run Letters t) c) []) r)
unfolding function_rule body_of
function_of d t n u o w c r h1 h2 h3 h4 h5 h6 =
    let h3' = rw h2 at h3 in
    let h5' = rw h4 at h5 in
    let h6' = rw h4 at h6 in
    by_rule {o = done (with_redirs (Function (run Letters t) c) []) r} (there _ _ h1 (there _ _ h3' (when _ h5' (reads {o = done (with_redirs (Function (run Letters t) c) []) r} h6' (stops)))))

pub function_stray : (d : ℕ) (t : Text) (n : Text) (u : Text) (o : Text) (w : Text) → past_function_name t ≡ Some n → u ≡ gap false n → follow (codes ")") u ≡ Some o → w ≡ gap true o → is_opening w ≡ false → Reads (function d) t (faulty (stray_kind d w) (stray_place w))
unfolding function_rule body_of
function_stray d t n u o w h1 h2 h3 h4 h5 =
    let h3' = rw h2 at h3 in
    let h5' = rw h4 at h5 in
    subst (λ (w : Text). Reads (function d) t (faulty (stray_kind d w) (stray_place w))) (sym h4) (by_rule {o = faulty (stray_kind d (gap true o)) (stray_place (gap true o))} (there _ _ h1 (there _ _ h3' (unless _ h5' (fails)))))

pub enclosed_of_f0 : (d : ℕ) (t : Text) (k : SyntaxKind) (z : Text) → Reads (compound d) t (faulty k z) → Reads (enclosed d) t (faulty k z)
unfolding enclosed_rule
enclosed_of_f0 d t k z h1 =
    by_rule {o = faulty k z} (reads_fault h1)

pub enclosed_of_f1 : (d : ℕ) (t : Text) (f : Form) (m : Text) (k : SyntaxKind) (z : Text) → Reads (compound d) t (done f m) → Reads (redirs d) m (faulty k z) → Reads (enclosed d) t (faulty k z)
unfolding enclosed_rule
enclosed_of_f1 d t f m k z h1 h2 =
    by_rule {o = faulty k z} (reads {o = faulty k z} h1 (reads_fault h2))

pub enclosed_of : (d : ℕ) (t : Text) (f : Form) (m : Text) (rs : List Redir) (r : Text) → Reads (compound d) t (done f m) → Reads (redirs d) m (done rs r) → is_stuck (is_nil rs) r ≡ false → Reads (enclosed d) t (done (with_redirs f rs) r)
unfolding enclosed_rule
enclosed_of d t f m rs r h1 h2 h3 =
    by_rule {o = done (with_redirs f rs) r} (reads {o = done (with_redirs f rs) r} h1 (reads {o = done (with_redirs f rs) r} h2 (unless _ h3 (stops))))

pub enclosed_stuck : (d : ℕ) (t : Text) (f : Form) (m : Text) (rs : List Redir) (r : Text) → Reads (compound d) t (done f m) → Reads (redirs d) m (done rs r) → is_stuck (is_nil rs) r ≡ true → Reads (enclosed d) t (faulty (stray_kind d r) (stray_place r))
unfolding enclosed_rule
enclosed_stuck d t f m rs r h1 h2 h3 =
    by_rule {o = faulty (stray_kind d r) (stray_place r)} (reads {o = faulty (stray_kind d r) (stray_place r)} h1 (reads {o = faulty (stray_kind d r) (stray_place r)} h2 (when _ h3 (fails))))

pub redirs_more_f2 : (d : ℕ) (t : Text) (u : Text) (k : SyntaxKind) (z : Text) → u ≡ gap false t → is_redirection u ≡ true → Reads (redir d) u (faulty k z) → Reads (redirs d) t (faulty k z)
unfolding redirs_rule
redirs_more_f2 d t u k z h1 h2 h3 =
    let h2' = rw h1 at h2 in
    let h3' = rw h1 at h3 in
    by_rule {o = faulty k z} (when _ h2' (reads_fault h3'))

pub redirs_more_f3 : (d : ℕ) (t : Text) (u : Text) (x : Redir) (m : Text) (k : SyntaxKind) (z : Text) → u ≡ gap false t → is_redirection u ≡ true → Reads (redir d) u (done x m) → Reads (redirs d) m (faulty k z) → Reads (redirs d) t (faulty k z)
unfolding redirs_rule
redirs_more_f3 d t u x m k z h1 h2 h3 h4 =
    let h2' = rw h1 at h2 in
    let h3' = rw h1 at h3 in
    by_rule {o = faulty k z} (when _ h2' (reads {o = faulty k z} h3' (reads_fault h4)))

pub redirs_more : (d : ℕ) (t : Text) (u : Text) (x : Redir) (m : Text) (xs : List Redir) (r : Text) → u ≡ gap false t → is_redirection u ≡ true → Reads (redir d) u (done x m) → Reads (redirs d) m (done xs r) → Reads (redirs d) t (done (x ∷ xs) r)
unfolding redirs_rule
redirs_more d t u x m xs r h1 h2 h3 h4 =
    let h2' = rw h1 at h2 in
    let h3' = rw h1 at h3 in
    by_rule {o = done (x ∷ xs) r} (when _ h2' (reads {o = done (x ∷ xs) r} h3' (reads {o = done (x ∷ xs) r} h4 (stops))))

pub redirs_end : (d : ℕ) (t : Text) (u : Text) → u ≡ gap false t → is_redirection u ≡ false → Reads (redirs d) t (done [] u)
unfolding redirs_rule
redirs_end d t u h1 h2 =
    let h2' = rw h1 at h2 in
    subst (λ (u : Text). Reads (redirs d) t (done [] u)) (sym h1) (by_rule {o = done [] (gap false t)} (unless _ h2' (stops)))

pub redir_to : (d : ℕ) (t : Text) (x : Redir) → (direct t).direction ≡ To x → Reads (redir d) t (done x ((direct t).rest))
unfolding redir_rule
redir_to d t x h1 =
    by_rule {o = done x ((direct t).rest)} (rw h1 (stops))

pub redir_forbidden : (d : ℕ) (t : Text) → (direct t).direction ≡ Forbidden → Reads (redir d) t (faulty LeftOut t)
unfolding redir_rule
redir_forbidden d t h1 =
    by_rule {o = faulty LeftOut t} (rw h1 (fails))

pub redir_unfinished : (d : ℕ) (t : Text) → (direct t).direction ≡ Unfinished → Reads (redir d) t (faulty Unclosed ((direct t).rest))
unfolding redir_rule
redir_unfinished d t h1 =
    by_rule {o = faulty Unclosed ((direct t).rest)} (rw h1 (fails))

pub redir_stopped : (d : ℕ) (t : Text) → (direct t).direction ≡ Stopped → Reads (redir d) t (faulty (stray_kind d ((direct t).rest)) (stray_place ((direct t).rest)))
unfolding redir_rule
redir_stopped d t h1 =
    by_rule {o = faulty (stray_kind d ((direct t).rest)) (stray_place ((direct t).rest))} (rw h1 (fails))

pub simple_redir_f2 : (seen : Bool) (d : ℕ) (t : Text) (u : Text) (k : SyntaxKind) (z : Text) → u ≡ gap false t → is_redirection u ≡ true → Reads (redir d) u (faulty k z) → Reads (simple seen d) t (faulty k z)
unfolding simple_at
simple_redir_f2 seen d t u k z h1 h2 h3 =
    let h2' = rw h1 at h2 in
    let h3' = rw h1 at h3 in
    by_rule {o = faulty k z} (when _ h2' (reads_fault h3'))

pub simple_redir_f3 : (seen : Bool) (d : ℕ) (t : Text) (u : Text) (x : Redir) (m : Text) (k : SyntaxKind) (z : Text) → u ≡ gap false t → is_redirection u ≡ true → Reads (redir d) u (done x m) → Reads (simple seen d) m (faulty k z) → Reads (simple seen d) t (faulty k z)
unfolding simple_at
simple_redir_f3 seen d t u x m k z h1 h2 h3 h4 =
    let h2' = rw h1 at h2 in
    let h3' = rw h1 at h3 in
    by_rule {o = faulty k z} (when _ h2' (reads {o = faulty k z} h3' (reads_fault h4)))

pub simple_redir : (seen : Bool) (d : ℕ) (t : Text) (u : Text) (x : Redir) (m : Text) (v : (List Assign × List (List Part) × List Redir)) (r : Text) → u ≡ gap false t → is_redirection u ≡ true → Reads (redir d) u (done x m) → Reads (simple seen d) m (done v r) → Reads (simple seen d) t (done (v.0, v.1, x ∷ v.2) r)
unfolding simple_at
simple_redir seen d t u x m v r h1 h2 h3 h4 =
    let h2' = rw h1 at h2 in
    let h3' = rw h1 at h3 in
    by_rule {o = done (v.0, v.1, x ∷ v.2) r} (when _ h2' (reads {o = done (v.0, v.1, x ∷ v.2) r} h3' (reads {o = done (v.0, v.1, x ∷ v.2) r} h4 (stops))))

pub simple_end : (seen : Bool) (d : ℕ) (t : Text) (u : Text) → u ≡ gap false t → is_redirection u ≡ false → is_word u ≡ false → Reads (simple seen d) t (done ([], [], []) u)
unfolding simple_at
simple_end seen d t u h1 h2 h3 =
    let h2' = rw h1 at h2 in
    let h3' = rw h1 at h3 in
    subst (λ (u : Text). Reads (simple seen d) t (done ([], [], []) u)) (sym h1) (by_rule {o = done ([], [], []) (gap false t)} (unless _ h2' (when_not _ h3' (stops))))

pub simple_assign_f4 : (seen : Bool) (d : ℕ) (t : Text) (u : Text) (k : SyntaxKind) (z : Text) → u ≡ gap false t → is_redirection u ≡ false → is_word u ≡ true → assigns_at seen u ≡ true → Reads (assign d) u (faulty k z) → Reads (simple seen d) t (faulty k z)
unfolding simple_at
simple_assign_f4 seen d t u k z h1 h2 h3 h4 h5 =
    let h2' = rw h1 at h2 in
    let h3' = rw h1 at h3 in
    let h4' = rw h1 at h4 in
    let h5' = rw h1 at h5 in
    by_rule {o = faulty k z} (unless _ h2' (unless_not _ h3' (when _ h4' (reads_fault h5'))))

pub simple_assign_f5 : (seen : Bool) (d : ℕ) (t : Text) (u : Text) (a : Assign) (m : Text) (k : SyntaxKind) (z : Text) → u ≡ gap false t → is_redirection u ≡ false → is_word u ≡ true → assigns_at seen u ≡ true → Reads (assign d) u (done a m) → Reads (simple false d) m (faulty k z) → Reads (simple seen d) t (faulty k z)
unfolding simple_at
simple_assign_f5 seen d t u a m k z h1 h2 h3 h4 h5 h6 =
    let h2' = rw h1 at h2 in
    let h3' = rw h1 at h3 in
    let h4' = rw h1 at h4 in
    let h5' = rw h1 at h5 in
    by_rule {o = faulty k z} (unless _ h2' (unless_not _ h3' (when _ h4' (reads {o = faulty k z} h5' (reads_fault h6)))))

pub simple_assign : (seen : Bool) (d : ℕ) (t : Text) (u : Text) (a : Assign) (m : Text) (v : (List Assign × List (List Part) × List Redir)) (r : Text) → u ≡ gap false t → is_redirection u ≡ false → is_word u ≡ true → assigns_at seen u ≡ true → Reads (assign d) u (done a m) → Reads (simple false d) m (done v r) → Reads (simple seen d) t (done (a ∷ v.0, v.1, v.2) r)
unfolding simple_at
simple_assign seen d t u a m v r h1 h2 h3 h4 h5 h6 =
    let h2' = rw h1 at h2 in
    let h3' = rw h1 at h3 in
    let h4' = rw h1 at h4 in
    let h5' = rw h1 at h5 in
    by_rule {o = done (a ∷ v.0, v.1, v.2) r} (unless _ h2' (unless_not _ h3' (when _ h4' (reads {o = done (a ∷ v.0, v.1, v.2) r} h5' (reads {o = done (a ∷ v.0, v.1, v.2) r} h6 (stops))))))

pub simple_word_f4 : (seen : Bool) (d : ℕ) (t : Text) (u : Text) (k : SyntaxKind) (z : Text) → u ≡ gap false t → is_redirection u ≡ false → is_word u ≡ true → assigns_at seen u ≡ false → Reads (parts Bare d) u (faulty k z) → Reads (simple seen d) t (faulty k z)
unfolding simple_at
simple_word_f4 seen d t u k z h1 h2 h3 h4 h5 =
    let h2' = rw h1 at h2 in
    let h3' = rw h1 at h3 in
    let h4' = rw h1 at h4 in
    let h5' = rw h1 at h5 in
    by_rule {o = faulty k z} (unless _ h2' (unless_not _ h3' (unless _ h4' (reads_fault h5'))))

pub simple_word_f5 : (seen : Bool) (d : ℕ) (t : Text) (u : Text) (w : List Part) (m : Text) (k : SyntaxKind) (z : Text) → u ≡ gap false t → is_redirection u ≡ false → is_word u ≡ true → assigns_at seen u ≡ false → Reads (parts Bare d) u (done w m) → Reads (simple true d) m (faulty k z) → Reads (simple seen d) t (faulty k z)
unfolding simple_at
simple_word_f5 seen d t u w m k z h1 h2 h3 h4 h5 h6 =
    let h2' = rw h1 at h2 in
    let h3' = rw h1 at h3 in
    let h4' = rw h1 at h4 in
    let h5' = rw h1 at h5 in
    by_rule {o = faulty k z} (unless _ h2' (unless_not _ h3' (unless _ h4' (reads {o = faulty k z} h5' (reads_fault h6)))))

pub simple_word : (seen : Bool) (d : ℕ) (t : Text) (u : Text) (w : List Part) (m : Text) (v : (List Assign × List (List Part) × List Redir)) (r : Text) → u ≡ gap false t → is_redirection u ≡ false → is_word u ≡ true → assigns_at seen u ≡ false → Reads (parts Bare d) u (done w m) → Reads (simple true d) m (done v r) → Reads (simple seen d) t (done (v.0, w ∷ v.1, v.2) r)
unfolding simple_at
simple_word seen d t u w m v r h1 h2 h3 h4 h5 h6 =
    let h2' = rw h1 at h2 in
    let h3' = rw h1 at h3 in
    let h4' = rw h1 at h4 in
    let h5' = rw h1 at h5 in
    by_rule {o = done (v.0, w ∷ v.1, v.2) r} (unless _ h2' (unless_not _ h3' (unless _ h4' (reads {o = done (v.0, w ∷ v.1, v.2) r} h5' (reads {o = done (v.0, w ∷ v.1, v.2) r} h6 (stops))))))

pub assign_of_n1 : (d : ℕ) (t : Text) (u : Text) → u ≡ past Letters t → follow (codes "=") u ≡ None → Reads (assign d) t (faulty (stray_kind d u) (stray_place u))
unfolding assign_rule
assign_of_n1 d t u h1 h2 =
    let h2' = rw h1 at h2 in
    subst (λ (u : Text). Reads (assign d) t (faulty (stray_kind d u) (stray_place u))) (sym h1) (by_rule {o = faulty (stray_kind d (past Letters t)) (stray_place (past Letters t))} (lacks _ h2' (fails)))

pub assign_of_f2 : (d : ℕ) (t : Text) (u : Text) (n : Text) (k : SyntaxKind) (z : Text) → u ≡ past Letters t → follow (codes "=") u ≡ Some n → Reads (parts Bare d) n (faulty k z) → Reads (assign d) t (faulty k z)
unfolding assign_rule
assign_of_f2 d t u n k z h1 h2 h3 =
    let h2' = rw h1 at h2 in
    by_rule {o = faulty k z} (there _ _ h2' (reads_fault h3))

pub assign_of : (d : ℕ) (t : Text) (u : Text) (n : Text) (v : List Part) (r : Text) → u ≡ past Letters t → follow (codes "=") u ≡ Some n → Reads (parts Bare d) n (done v r) → Reads (assign d) t (done (roll-Assign (record { name = run Letters t; value = v })) r)
unfolding assign_rule
assign_of d t u n v r h1 h2 h3 =
    let h2' = rw h1 at h2 in
    by_rule {o = done (roll-Assign (record { name = run Letters t; value = v })) r} (there _ _ h2' (reads {o = done (roll-Assign (record { name = run Letters t; value = v })) r} h3 (stops)))
