-- The rules of words, path by path, and each fault on the way.
use Rattle.std.proofs.Common.{◌≡◌, ℕ, ◌-◌, ◌==◌, Bool, true, false, not, ◌&&◌, refl, sym, subst, List, [], ◌∷◌, ◌++◌, drop, Some, None}
use Rattle.std.specs.Prelude.{codes}
use Rattle.sh_tree.specs.declared.Part.{Part}
use Rattle.sh_tree.specs.declared.Part.TheVariants.{Byte, Param, Output}
use Rattle.sh_tree.specs.declared.Param.TheVariants.{Place as Positional}
use Rattle.sh_tree.specs.declared.Change.TheVariants.{Plain as Unchanged, Length as LengthOf}
use Rattle.sh_tree.specs.declared.AndOr.{AndOr}
use Rattle.sh_text.specs.Front.{Text, joined, follow, ends_word, is_word, is_redirection}
use Rattle.sh_parser.specs.declared.SyntaxKind.{SyntaxKind}
use Rattle.sh_parser.specs.declared.SyntaxKind.TheVariants.{Unexpected, Unclosed, LeftOut, Deep, Nul}
use Rattle.sh_parser.specs.declared.words.Mode.{Mode}
use Rattle.sh_parser.specs.declared.words.Mode.TheVariants.{Bare, Double, Arithmetic}
use Rattle.sh_parser.specs.declared.words.Role.TheVariants.{Open, Nul as Zero, LeftOut as Backquote, Plain, Escape, Single, Double as Quotes, Dollar, Paren}
use Rattle.sh_parser.specs.declared.words.Shape.TheVariants.{Paren as AtParen, Brace, LeftOut as Excluded, Name as AtName, Digit, Sign, Plain as Itself}
use Rattle.sh_parser.specs.declared.braces.Content.TheVariants.{Plain as Alone, Length, Changed, Malformed, Open as Cut}
use Rattle.sh_parser.specs.Words.{stops_at, role_of, is_quoted, grouped, shape_of, param, past_subject, digit, content_of, named_at, past_content, change, word_mode}
use Rattle.sh_parser.specs.Faults.{stray_kind, stray_place}
use Rattle.sh_parser.specs.declared.braces.Operator.{Operator}
use Rattle.sh_parser.proofs.Ways.{when, unless, there, lacks, along}
use Rattle.sh_parser.specs.Grammar.{single, parts, piece, dollar, braces, substitution, list, stop, fault, single_rule, parts_rule, escaped, piece_by, piece_rule, dollar_by, dollar_rule, braces_by, in_braces, braces_rule, closed, in_parens, substitution_rule, done, faulty, Reads, by_rule, stops, fails, reads, reads_fault}

pub parts_end : (m : Mode) (d : ℕ) (t : Text) (u : Text) → u ≡ joined t → stops_at m u ≡ true → Reads (parts m d) t (done [] u)
unfolding parts_rule
parts_end m d t u h1 h2 =
    let h2' = rw h1 at h2 in
    subst (λ (u : Text). Reads (parts m d) t (done [] u)) (sym h1) (by_rule {o = done [] (joined t)} (when _ h2' (stops)))

pub parts_more_f2 : (m : Mode) (d : ℕ) (t : Text) (u : Text) (k : SyntaxKind) (z : Text) → u ≡ joined t → stops_at m u ≡ false → Reads (piece m d) u (faulty k z) → Reads (parts m d) t (faulty k z)
unfolding parts_rule
parts_more_f2 m d t u k z h1 h2 h3 =
    let h2' = rw h1 at h2 in
    let h3' = rw h1 at h3 in
    by_rule {o = faulty k z} (unless _ h2' (reads_fault h3'))

pub parts_more_f3 : (m : Mode) (d : ℕ) (t : Text) (u : Text) (ps : List Part) (n : Text) (k : SyntaxKind) (z : Text) → u ≡ joined t → stops_at m u ≡ false → Reads (piece m d) u (done ps n) → Reads (parts m d) n (faulty k z) → Reads (parts m d) t (faulty k z)
unfolding parts_rule
parts_more_f3 m d t u ps n k z h1 h2 h3 h4 =
    let h2' = rw h1 at h2 in
    let h3' = rw h1 at h3 in
    by_rule {o = faulty k z} (unless _ h2' (reads {o = faulty k z} h3' (reads_fault h4)))

pub parts_more : (m : Mode) (d : ℕ) (t : Text) (u : Text) (ps : List Part) (n : Text) (qs : List Part) (r : Text) → u ≡ joined t → stops_at m u ≡ false → Reads (piece m d) u (done ps n) → Reads (parts m d) n (done qs r) → Reads (parts m d) t (done (ps ++ qs) r)
unfolding parts_rule
parts_more m d t u ps n qs r h1 h2 h3 h4 =
    let h2' = rw h1 at h2 in
    let h3' = rw h1 at h3 in
    by_rule {o = done (ps ++ qs) r} (unless _ h2' (reads {o = done (ps ++ qs) r} h3' (reads {o = done (ps ++ qs) r} h4 (stops))))

pub single_open : (t : Text) → t ≡ [] → Reads (single) t (faulty Unclosed t)
unfolding single_rule
single_open t h1 =
    by_rule {o = faulty Unclosed t} (rw h1 (fails))

pub single_nul : (t : Text) (c : ℕ) (n : Text) → t ≡ c ∷ n → (c == 0) ≡ true → Reads (single) t (faulty Nul t)
unfolding single_rule
single_nul t c n h1 h2 =
    by_rule {o = faulty Nul t} (rw h1 (when _ h2 (fails)))

pub single_end : (t : Text) (c : ℕ) (n : Text) → t ≡ c ∷ n → (c == 0) ≡ false → (c == 39) ≡ true → Reads (single) t (done [] n)
unfolding single_rule
single_end t c n h1 h2 h3 =
    by_rule {o = done [] n} (rw h1 (unless _ h2 (when _ h3 (stops))))

pub single_more_f3 : (t : Text) (c : ℕ) (n : Text) (k : SyntaxKind) (z : Text) → t ≡ c ∷ n → (c == 0) ≡ false → (c == 39) ≡ false → Reads (single) n (faulty k z) → Reads (single) t (faulty k z)
unfolding single_rule
single_more_f3 t c n k z h1 h2 h3 h4 =
    by_rule {o = faulty k z} (rw h1 (unless _ h2 (unless _ h3 (reads_fault h4))))

pub single_more : (t : Text) (c : ℕ) (n : Text) (ps : List Part) (r : Text) → t ≡ c ∷ n → (c == 0) ≡ false → (c == 39) ≡ false → Reads (single) n (done ps r) → Reads (single) t (done (Byte c true ∷ ps) r)
unfolding single_rule
single_more t c n ps r h1 h2 h3 h4 =
    by_rule {o = done (Byte c true ∷ ps) r} (rw h1 (unless _ h2 (unless _ h3 (reads {o = done (Byte c true ∷ ps) r} h4 (stops)))))

pub piece_none : (m : Mode) (d : ℕ) (t : Text) → t ≡ [] → Reads (piece m d) t (faulty Unclosed t)
unfolding piece_rule
piece_none m d t h1 =
    by_rule {o = faulty Unclosed t} (rw h1 (fails))

pub piece_open : (m : Mode) (d : ℕ) (t : Text) (c : ℕ) (n : Text) → t ≡ c ∷ n → role_of m c n ≡ Open → Reads (piece m d) t (faulty Unclosed n)
unfolding piece_rule piece_by
piece_open m d t c n h1 h2 =
    by_rule {o = faulty Unclosed n} (rw h1 (rw h2 (fails)))

pub piece_nul : (m : Mode) (d : ℕ) (t : Text) (c : ℕ) (n : Text) → t ≡ c ∷ n → role_of m c n ≡ Zero → Reads (piece m d) t (faulty Nul t)
unfolding piece_rule piece_by
piece_nul m d t c n h1 h2 =
    by_rule {o = faulty Nul t} (rw h1 (rw h2 (fails)))

pub piece_left_out : (m : Mode) (d : ℕ) (t : Text) (c : ℕ) (n : Text) → t ≡ c ∷ n → role_of m c n ≡ Backquote → Reads (piece m d) t (faulty LeftOut t)
unfolding piece_rule piece_by
piece_left_out m d t c n h1 h2 =
    by_rule {o = faulty LeftOut t} (rw h1 (rw h2 (fails)))

pub piece_plain : (m : Mode) (d : ℕ) (t : Text) (c : ℕ) (n : Text) → t ≡ c ∷ n → role_of m c n ≡ Plain → Reads (piece m d) t (done (Byte c (is_quoted m) ∷ []) n)
unfolding piece_rule piece_by
piece_plain m d t c n h1 h2 =
    by_rule {o = done (Byte c (is_quoted m) ∷ []) n} (rw h1 (rw h2 (stops)))

pub piece_single_f2 : (m : Mode) (d : ℕ) (t : Text) (c : ℕ) (n : Text) (k : SyntaxKind) (z : Text) → t ≡ c ∷ n → role_of m c n ≡ Single → Reads (single) n (faulty k z) → Reads (piece m d) t (faulty k z)
unfolding piece_rule piece_by
piece_single_f2 m d t c n k z h1 h2 h3 =
    by_rule {o = faulty k z} (rw h1 (rw h2 (reads_fault h3)))

pub piece_single : (m : Mode) (d : ℕ) (t : Text) (c : ℕ) (n : Text) (ps : List Part) (r : Text) → t ≡ c ∷ n → role_of m c n ≡ Single → Reads (single) n (done ps r) → Reads (piece m d) t (done (grouped m ps) r)
unfolding piece_rule piece_by
piece_single m d t c n ps r h1 h2 h3 =
    by_rule {o = done (grouped m ps) r} (rw h1 (rw h2 (reads {o = done (grouped m ps) r} h3 (stops))))

pub piece_double_f2 : (m : Mode) (d : ℕ) (t : Text) (c : ℕ) (n : Text) (k : SyntaxKind) (z : Text) → t ≡ c ∷ n → role_of m c n ≡ Quotes → Reads (parts Double d) n (faulty k z) → Reads (piece m d) t (faulty k z)
unfolding piece_rule piece_by
piece_double_f2 m d t c n k z h1 h2 h3 =
    by_rule {o = faulty k z} (rw h1 (rw h2 (reads_fault h3)))

pub piece_double : (m : Mode) (d : ℕ) (t : Text) (c : ℕ) (n : Text) (ps : List Part) (r : Text) → t ≡ c ∷ n → role_of m c n ≡ Quotes → Reads (parts Double d) n (done ps r) → Reads (piece m d) t (done (grouped m ps) (drop 1 r))
unfolding piece_rule piece_by
piece_double m d t c n ps r h1 h2 h3 =
    by_rule {o = done (grouped m ps) (drop 1 r)} (rw h1 (rw h2 (reads {o = done (grouped m ps) (drop 1 r)} h3 (stops))))

pub piece_dollar_f2 : (m : Mode) (d : ℕ) (t : Text) (c : ℕ) (n : Text) (k : SyntaxKind) (z : Text) → t ≡ c ∷ n → role_of m c n ≡ Dollar → Reads (dollar (is_quoted m) d) t (faulty k z) → Reads (piece m d) t (faulty k z)
unfolding piece_rule piece_by
piece_dollar_f2 m d t c n k z h1 h2 h3 =
    let h3' = rw h1 at h3 in
    by_rule {o = faulty k z} (rw h1 (rw h2 (reads_fault h3')))

pub piece_dollar : (m : Mode) (d : ℕ) (t : Text) (c : ℕ) (n : Text) (p : Part) (r : Text) → t ≡ c ∷ n → role_of m c n ≡ Dollar → Reads (dollar (is_quoted m) d) t (done p r) → Reads (piece m d) t (done (p ∷ []) r)
unfolding piece_rule piece_by
piece_dollar m d t c n p r h1 h2 h3 =
    let h3' = rw h1 at h3 in
    by_rule {o = done (p ∷ []) r} (rw h1 (rw h2 (reads {o = done (p ∷ []) r} h3' (stops))))

pub piece_deep : (m : Mode) (d : ℕ) (t : Text) (c : ℕ) (n : Text) → t ≡ c ∷ n → role_of m c n ≡ Paren → (d == 0) ≡ true → Reads (piece m d) t (faulty Deep t)
unfolding piece_rule piece_by
piece_deep m d t c n h1 h2 h3 =
    by_rule {o = faulty Deep t} (rw h1 (rw h2 (when _ h3 (fails))))

pub piece_paren_f3 : (m : Mode) (d : ℕ) (t : Text) (c : ℕ) (n : Text) (k : SyntaxKind) (z : Text) → t ≡ c ∷ n → role_of m c n ≡ Paren → (d == 0) ≡ false → Reads (parts Arithmetic (d - 1)) n (faulty k z) → Reads (piece m d) t (faulty k z)
unfolding piece_rule piece_by
piece_paren_f3 m d t c n k z h1 h2 h3 h4 =
    by_rule {o = faulty k z} (rw h1 (rw h2 (unless _ h3 (reads_fault h4))))

pub piece_paren : (m : Mode) (d : ℕ) (t : Text) (c : ℕ) (n : Text) (ps : List Part) (r : Text) → t ≡ c ∷ n → role_of m c n ≡ Paren → (d == 0) ≡ false → Reads (parts Arithmetic (d - 1)) n (done ps r) → Reads (piece m d) t (done ((Byte 40 true ∷ ps) ++ Byte 41 true ∷ []) (drop 1 r))
unfolding piece_rule piece_by
piece_paren m d t c n ps r h1 h2 h3 h4 =
    by_rule {o = done ((Byte 40 true ∷ ps) ++ Byte 41 true ∷ []) (drop 1 r)} (rw h1 (rw h2 (unless _ h3 (reads {o = done ((Byte 40 true ∷ ps) ++ Byte 41 true ∷ []) (drop 1 r)} h4 (stops)))))

pub dollar_paren_f2 : (q : Bool) (d : ℕ) (t : Text) (n : Text) (k : SyntaxKind) (z : Text) → n ≡ joined (drop 1 t) → shape_of n ≡ AtParen → Reads (substitution q d) t (faulty k z) → Reads (dollar q d) t (faulty k z)
unfolding dollar_rule dollar_by
dollar_paren_f2 q d t n k z h1 h2 h3 =
    let h2' = rw h1 at h2 in
    by_rule {o = faulty k z} (rw h2' (reads_fault h3))

pub dollar_paren : (q : Bool) (d : ℕ) (t : Text) (n : Text) (p : Part) (r : Text) → n ≡ joined (drop 1 t) → shape_of n ≡ AtParen → Reads (substitution q d) t (done p r) → Reads (dollar q d) t (done p r)
unfolding dollar_rule dollar_by
dollar_paren q d t n p r h1 h2 h3 =
    let h2' = rw h1 at h2 in
    by_rule {o = done p r} (rw h2' (reads {o = done p r} h3 (stops)))

pub dollar_brace_f2 : (q : Bool) (d : ℕ) (t : Text) (n : Text) (k : SyntaxKind) (z : Text) → n ≡ joined (drop 1 t) → shape_of n ≡ Brace → Reads (braces q d) t (faulty k z) → Reads (dollar q d) t (faulty k z)
unfolding dollar_rule dollar_by
dollar_brace_f2 q d t n k z h1 h2 h3 =
    let h2' = rw h1 at h2 in
    by_rule {o = faulty k z} (rw h2' (reads_fault h3))

pub dollar_brace : (q : Bool) (d : ℕ) (t : Text) (n : Text) (p : Part) (r : Text) → n ≡ joined (drop 1 t) → shape_of n ≡ Brace → Reads (braces q d) t (done p r) → Reads (dollar q d) t (done p r)
unfolding dollar_rule dollar_by
dollar_brace q d t n p r h1 h2 h3 =
    let h2' = rw h1 at h2 in
    by_rule {o = done p r} (rw h2' (reads {o = done p r} h3 (stops)))

pub dollar_left_out : (q : Bool) (d : ℕ) (t : Text) (n : Text) → n ≡ joined (drop 1 t) → shape_of n ≡ Excluded → Reads (dollar q d) t (faulty LeftOut t)
unfolding dollar_rule dollar_by
dollar_left_out q d t n h1 h2 =
    let h2' = rw h1 at h2 in
    by_rule {o = faulty LeftOut t} (rw h2' (fails))

pub dollar_name : (q : Bool) (d : ℕ) (t : Text) (n : Text) → n ≡ joined (drop 1 t) → shape_of n ≡ AtName → Reads (dollar q d) t (done (Param (param n) Unchanged q) (past_subject n))
unfolding dollar_rule dollar_by
dollar_name q d t n h1 h2 =
    let h2' = rw h1 at h2 in
    subst (λ (n : Text). Reads (dollar q d) t (done (Param (param n) Unchanged q) (past_subject n))) (sym h1) (by_rule {o = done (Param (param (joined (drop 1 t))) Unchanged q) (past_subject (joined (drop 1 t)))} (rw h2' (stops)))

pub dollar_digit : (q : Bool) (d : ℕ) (t : Text) (n : Text) → n ≡ joined (drop 1 t) → shape_of n ≡ Digit → Reads (dollar q d) t (done (Param (Positional (digit n)) Unchanged q) (drop 1 n))
unfolding dollar_rule dollar_by
dollar_digit q d t n h1 h2 =
    let h2' = rw h1 at h2 in
    subst (λ (n : Text). Reads (dollar q d) t (done (Param (Positional (digit n)) Unchanged q) (drop 1 n))) (sym h1) (by_rule {o = done (Param (Positional (digit (joined (drop 1 t)))) Unchanged q) (drop 1 (joined (drop 1 t)))} (rw h2' (stops)))

pub dollar_sign : (q : Bool) (d : ℕ) (t : Text) (n : Text) → n ≡ joined (drop 1 t) → shape_of n ≡ Sign → Reads (dollar q d) t (done (Param (param n) Unchanged q) (drop 1 n))
unfolding dollar_rule dollar_by
dollar_sign q d t n h1 h2 =
    let h2' = rw h1 at h2 in
    subst (λ (n : Text). Reads (dollar q d) t (done (Param (param n) Unchanged q) (drop 1 n))) (sym h1) (by_rule {o = done (Param (param (joined (drop 1 t))) Unchanged q) (drop 1 (joined (drop 1 t)))} (rw h2' (stops)))

pub dollar_itself : (q : Bool) (d : ℕ) (t : Text) (n : Text) → n ≡ joined (drop 1 t) → shape_of n ≡ Itself → Reads (dollar q d) t (done (Byte 36 q) n)
unfolding dollar_rule dollar_by
dollar_itself q d t n h1 h2 =
    let h2' = rw h1 at h2 in
    subst (λ (n : Text). Reads (dollar q d) t (done (Byte 36 q) n)) (sym h1) (by_rule {o = done (Byte 36 q) (joined (drop 1 t))} (rw h2' (stops)))

pub braces_deep : (q : Bool) (d : ℕ) (t : Text) → (d == 0) ≡ true → Reads (braces q d) t (faulty Deep t)
unfolding braces_rule
braces_deep q d t h1 =
    by_rule {o = faulty Deep t} (when _ h1 (fails))

pub braces_open : (q : Bool) (d : ℕ) (t : Text) (n : Text) → (d == 0) ≡ false → n ≡ in_braces t → content_of n ≡ Cut → Reads (braces q d) t (faulty Unclosed [])
unfolding braces_rule braces_by
braces_open q d t n h1 h2 h3 =
    let h3' = rw h2 at h3 in
    by_rule {o = faulty Unclosed []} (unless _ h1 (rw h3' (fails)))

pub braces_malformed : (q : Bool) (d : ℕ) (t : Text) (n : Text) → (d == 0) ≡ false → n ≡ in_braces t → content_of n ≡ Malformed → Reads (braces q d) t (faulty Unexpected t)
unfolding braces_rule braces_by
braces_malformed q d t n h1 h2 h3 =
    let h3' = rw h2 at h3 in
    by_rule {o = faulty Unexpected t} (unless _ h1 (rw h3' (fails)))

pub braces_plain : (q : Bool) (d : ℕ) (t : Text) (n : Text) → (d == 0) ≡ false → n ≡ in_braces t → content_of n ≡ Alone → Reads (braces q d) t (done (Param (param n) Unchanged q) (past_content n false))
unfolding braces_rule braces_by
braces_plain q d t n h1 h2 h3 =
    let h3' = rw h2 at h3 in
    subst (λ (n : Text). Reads (braces q d) t (done (Param (param n) Unchanged q) (past_content n false))) (sym h2) (by_rule {o = done (Param (param (in_braces t)) Unchanged q) (past_content (in_braces t) false)} (unless _ h1 (rw h3' (stops))))

pub braces_length : (q : Bool) (d : ℕ) (t : Text) (n : Text) → (d == 0) ≡ false → n ≡ in_braces t → content_of n ≡ Length → Reads (braces q d) t (done (Param (param (named_at n)) LengthOf q) (past_content n false))
unfolding braces_rule braces_by
braces_length q d t n h1 h2 h3 =
    let h3' = rw h2 at h3 in
    subst (λ (n : Text). Reads (braces q d) t (done (Param (param (named_at n)) LengthOf q) (past_content n false))) (sym h2) (by_rule {o = done (Param (param (named_at (in_braces t))) LengthOf q) (past_content (in_braces t) false)} (unless _ h1 (rw h3' (stops))))

pub braces_change_f6 : (q : Bool) (d : ℕ) (t : Text) (operator : Operator) (flag : Bool) (n : Text) (o : Text) (k : SyntaxKind) (z : Text) → (d == 0) ≡ false → n ≡ in_braces t → content_of n ≡ Changed operator flag → o ≡ past_content n flag → Reads (parts (word_mode operator q) (d - 1)) o (faulty k z) → Reads (braces q d) t (faulty k z)
unfolding braces_rule braces_by
braces_change_f6 q d t operator flag n o k z h1 h2 h3 h4 h5 =
    let h3' = rw h2 at h3 in
    let h4' = rw h2 at h4 in
    let h5' = rw h4' at h5 in
    by_rule {o = faulty k z} (unless _ h1 (rw h3' (reads_fault h5')))

pub braces_change : (q : Bool) (d : ℕ) (t : Text) (operator : Operator) (flag : Bool) (n : Text) (o : Text) (w : List Part) (r : Text) → (d == 0) ≡ false → n ≡ in_braces t → content_of n ≡ Changed operator flag → o ≡ past_content n flag → Reads (parts (word_mode operator q) (d - 1)) o (done w r) → Reads (braces q d) t (done (Param (param n) (change operator flag w) q) (drop 1 r))
unfolding braces_rule braces_by
braces_change q d t operator flag n o w r h1 h2 h3 h4 h5 =
    let h3' = rw h2 at h3 in
    let h4' = rw h2 at h4 in
    let h5' = rw h4' at h5 in
    subst (λ (n : Text). Reads (braces q d) t (done (Param (param n) (change operator flag w) q) (drop 1 r))) (sym h2) (by_rule {o = done (Param (param (in_braces t)) (change operator flag w) q) (drop 1 r)} (unless _ h1 (rw h3' (reads {o = done (Param (param (in_braces t)) (change operator flag w) q) (drop 1 r)} h5' (stops)))))

pub substitution_deep : (q : Bool) (d : ℕ) (t : Text) → (d == 0) ≡ true → Reads (substitution q d) t (faulty Deep t)
unfolding substitution_rule
substitution_deep q d t h1 =
    by_rule {o = faulty Deep t} (when _ h1 (fails))

pub substitution_arith_f3 : (q : Bool) (d : ℕ) (t : Text) (n : Text) (o : Text) (k : SyntaxKind) (z : Text) → (d == 0) ≡ false → n ≡ in_parens t → follow (codes "(") n ≡ Some o → Reads (parts Arithmetic (d - 1)) o (faulty k z) → Reads (substitution q d) t (faulty k z)
unfolding substitution_rule closed
substitution_arith_f3 q d t n o k z h1 h2 h3 h4 =
    let h3' = rw h2 at h3 in
    by_rule {o = faulty k z} (unless _ h1 (there _ _ h3' (reads_fault h4)))

pub substitution_list_f3 : (q : Bool) (d : ℕ) (t : Text) (n : Text) (k : SyntaxKind) (z : Text) → (d == 0) ≡ false → n ≡ in_parens t → follow (codes "(") n ≡ None → Reads (list (d - 1)) n (faulty k z) → Reads (substitution q d) t (faulty k z)
unfolding substitution_rule
substitution_list_f3 q d t n k z h1 h2 h3 h4 =
    let h3' = rw h2 at h3 in
    let h4' = rw h2 at h4 in
    by_rule {o = faulty k z} (unless _ h1 (lacks _ h3' (reads_fault h4')))

pub substitution_list : (q : Bool) (d : ℕ) (t : Text) (n : Text) (l : List AndOr) (r : Text) (s : Text) → (d == 0) ≡ false → n ≡ in_parens t → follow (codes "(") n ≡ None → Reads (list (d - 1)) n (done l r) → follow (codes ")") r ≡ Some s → Reads (substitution q d) t (done (Output l q) s)
unfolding substitution_rule
substitution_list q d t n l r s h1 h2 h3 h4 h5 =
    let h3' = rw h2 at h3 in
    let h4' = rw h2 at h4 in
    by_rule {o = done (Output l q) s} (unless _ h1 (lacks _ h3' (reads {o = done (Output l q) s} h4' (there _ _ h5 (stops)))))

pub substitution_stray : (q : Bool) (d : ℕ) (t : Text) (n : Text) (l : List AndOr) (r : Text) → (d == 0) ≡ false → n ≡ in_parens t → follow (codes "(") n ≡ None → Reads (list (d - 1)) n (done l r) → follow (codes ")") r ≡ None → Reads (substitution q d) t (faulty (stray_kind (d - 1) r) (stray_place r))
unfolding substitution_rule
substitution_stray q d t n l r h1 h2 h3 h4 h5 =
    let h3' = rw h2 at h3 in
    let h4' = rw h2 at h4 in
    by_rule {o = faulty (stray_kind (d - 1) r) (stray_place r)} (unless _ h1 (lacks _ h3' (reads {o = faulty (stray_kind (d - 1) r) (stray_place r)} h4' (lacks _ h5 (fails)))))

pub substitution_arith : (q : Bool) (d : ℕ) (t : Text) (n : Text) (o : Text) (ps : List Part) (r : Text) (v : Part) (z : Text) → (d == 0) ≡ false → n ≡ in_parens t → follow (codes "(") n ≡ Some o → Reads (parts Arithmetic (d - 1)) o (done ps r) → closed q ps r ≡ stop v z → Reads (substitution q d) t (done v z)
unfolding substitution_rule
substitution_arith q d t n o ps r v z h1 h2 h3 h4 h5 =
    let h3' = rw h2 at h3 in
    by_rule {o = done v z} (unless _ h1 (there _ _ h3' (reads {o = done v z} h4 (along h5 stops))))

pub substitution_arith_stuck : (q : Bool) (d : ℕ) (t : Text) (n : Text) (o : Text) (ps : List Part) (r : Text) (k : SyntaxKind) (z : Text) → (d == 0) ≡ false → n ≡ in_parens t → follow (codes "(") n ≡ Some o → Reads (parts Arithmetic (d - 1)) o (done ps r) → closed q ps r ≡ fault k z → Reads (substitution q d) t (faulty k z)
unfolding substitution_rule
substitution_arith_stuck q d t n o ps r k z h1 h2 h3 h4 h5 =
    let h3' = rw h2 at h3 in
    by_rule {o = faulty k z} (unless _ h1 (there _ _ h3' (reads {o = faulty k z} h4 (along h5 fails))))

pub piece_escape : (m : Mode) (d : ℕ) (t : Text) (c : ℕ) (n : Text) (ps : List Part) (z : Text) → t ≡ c ∷ n → role_of m c n ≡ Escape → escaped n ≡ stop ps z → Reads (piece m d) t (done ps z)
unfolding piece_rule piece_by
piece_escape m d t c n ps z h1 h2 h3 =
    by_rule {o = done ps z} (rw h1 (rw h2 (along h3 stops)))

pub piece_escape_stuck : (m : Mode) (d : ℕ) (t : Text) (c : ℕ) (n : Text) (k : SyntaxKind) (z : Text) → t ≡ c ∷ n → role_of m c n ≡ Escape → escaped n ≡ fault k z → Reads (piece m d) t (faulty k z)
unfolding piece_rule piece_by
piece_escape_stuck m d t c n k z h1 h2 h3 =
    by_rule {o = faulty k z} (rw h1 (rw h2 (along h3 fails)))

-- where a word begins, its parts don't end
not_true : (a b : Bool) → (not a && b) ≡ true → a ≡ false
not_true false b e = refl
not_true true b e = sym e

word_at : (t u : Text) → elim u as (λ x. Bool) [ [] ↦ false | c ∷ r ↦ not (ends_word c) && not (is_redirection t) ] ≡ true → stops_at Bare u ≡ false
unfolding stops_at
word_at t [] e = absurd (let x : false ≡ true = e in cc)
word_at t (c ∷ r) e = not_true (ends_word c) (not (is_redirection t)) e

pub word_goes : (t u : Text) → u ≡ joined t → is_word t ≡ true → stops_at Bare u ≡ false
unfolding is_word
word_goes t u h e = subst (λ (x : Text). stops_at Bare x ≡ false) (sym h) (word_at t (joined t) e)
