-- The rules, as the reader's steps use them.
use Rattle.std.proofs.Common.{◌≡◌, ◌≢◌, ◌≤◌, ◌<◌, ◌+◌, ◌-◌, ℕ, zero, suc, max, Bool, true, false, not, ◌&&◌, if◌then◌else◌, refl, List, [], length, Option, Some, None, Result, Ok, Err, sym, subst, ap, ◌∙◌, arith, ℤ, pos, IsTrue, IsSome, Bor}
use Rattle.std.specs.Option.{option_and_then}
use Rattle.sh_arith.specs.declared.operator.Operator.{Operator}
use Rattle.sh_arith.specs.declared.operator.Sign.{Sign}
use Rattle.sh_arith.specs.declared.reader.Found.{Found}
use Rattle.sh_arith.specs.declared.reader.Bad.{Bad}
use Rattle.sh_arith.specs.Text.{Text, after, skip}
use Rattle.sh_arith.specs.Names.{Variables, named as named_value}
use Rattle.sh_arith.specs.Operator.{operator_in}
use Rattle.sh_arith.specs.Number.{fitting, is_zero, needs_right, binary, unary}
use Rattle.sh_arith.specs.Token.{token_at, signs, opens, number, name, other}
use Rattle.sh_arith.specs.Tree.{Expression, Constant, Name, Parens, Unary, Binary, Choice, height, value}
use Rattle.sh_arith.specs.Grammar.{Operand, Level, Chain, Conditional, constant, named, parens, sign, operand, level, ends, goes, plain, choice}
use Rattle.sh_arith.specs.Reading.{IsAllowed, Stands, StandsNot, Answers, Comes}
use Rattle.sh_arith.proofs.Once.{operand_same, level_same, chain_same, conditional_same}
use Rattle.sh_arith.proofs.Allowed.{allowed_parens, allowed_unary, allowed_test, allowed_yes, allowed_no, allowed_left, allowed_right}

some_same : {A : Type 0} {x y : A} → Some x ≡ Some y → x ≡ y
some_same e = cc

pub above : (n : ℕ) → n ≢ 0 → n ≡ suc (n - 1)
above n h = omega arith

none_some : {A : Type 0} {o : Option A} → o ≡ None → IsSome o → ⊥
none_some {A} {o} e h = let k : false ≡ true = subst (λ (p : Option A). IsSome p) e h in cc

-- ---- operands

-- what an operand with parentheses is
record Within (m : Text) (e : Expression) (r : Text) : Type 0 where
  inner : Expression
  rest : Text
  is : e ≡ Parens inner
  reads : Conditional m inner rest
  closes : after 41 rest ≡ Some r

record After (s : Sign) (m : Text) (e : Expression) (r : Text) : Type 0 where
  inner : Expression
  is : e ≡ Unary s inner
  reads : Operand m inner r

at_number : {t r m : Text} {e : Expression} {n : ℕ} → token_at t ≡ number n m → Operand t e r → (e ≡ Constant n) × (r ≡ m)
at_number h o = operand_same o (constant h)

at_name : {t r m text : Text} {e : Expression} → token_at t ≡ name text m → Operand t e r → (e ≡ Name text) × (r ≡ m)
at_name h o = operand_same o (named h)

at_opens : {t r m : Text} {e : Expression} → token_at t ≡ opens m → Operand t e r → Within m e r
at_opens {m = m} h (constant {r = r} {n = n} k) = let e : opens m ≡ number n r = sym h ∙ k in cc
at_opens {m = m} h (named {r = r} {text = n} k) = let e : opens m ≡ name n r = sym h ∙ k in cc
at_opens {m = m} h (parens {m = m'} {k = k'} {r = r} {e = e} k c a) =
    let f : opens m' ≡ opens m = sym k ∙ h in
    let g : m' ≡ m = cc in
    record { inner = e; rest = k'; is = refl; reads = subst (λ (x : Text). Conditional x e k') g c; closes = a }
at_opens {m = m} h (sign {m = m'} {s = s} k o) = let e : opens m ≡ signs s m' = sym h ∙ k in cc

at_sign : {t r m : Text} {s : Sign} {e : Expression} → token_at t ≡ signs s m → Operand t e r → After s m e r
at_sign {m = m} {s = s} h (constant {r = r} {n = n} k) = let e : signs s m ≡ number n r = sym h ∙ k in cc
at_sign {m = m} {s = s} h (named {r = r} {text = n} k) = let e : signs s m ≡ name n r = sym h ∙ k in cc
at_sign {m = m} {s = s} h (parens {m = m'} k c a) = let e : signs s m ≡ opens m' = sym h ∙ k in cc
at_sign {m = m} {s = s} h (sign {m = m'} {r = r} {s = s'} {e = e} k o) =
    let f : signs s' m' ≡ signs s m = sym k ∙ h in
    let g : m' ≡ m = cc in
    let i : s' ≡ s = cc in
    record { inner = e; is = ap (λ x. Unary x e) i; reads = subst (λ (x : Text). Operand x e r) g o }

at_other : {t r : Text} {e : Expression} → token_at t ≡ other → Operand t e r → ⊥
at_other h (constant {r = r} {n = n} k) = let e : other ≡ number n r = sym h ∙ k in cc
at_other h (named {r = r} {text = n} k) = let e : other ≡ name n r = sym h ∙ k in cc
at_other h (parens {m = m'} k c a) = let e : other ≡ opens m' = sym h ∙ k in cc
at_other h (sign {m = m'} {s = s'} k o) = let e : other ≡ signs s' m' = sym h ∙ k in cc

module _ (vars : Variables) (depth : ℕ) (needed : Bool) (t : Text) where
  pub number_stands : (n : ℕ) (v : ℤ) (rest : Bor (List ℕ)) → token_at t ≡ number n rest.now → length rest.now < length t → Comes needed (fitting (pos n)) (Ok v) → Stands Operand vars depth needed t (record { value = v; height = 0; rest = rest })
  number_stands n v rest h l c = record { tree = Constant n; reads = constant h; high = refl; low = omega arith; comes = c; shorter = l }

  pub number_not : (n : ℕ) (m : Text) (e : Bad) → token_at t ≡ number n m → Comes needed (fitting (pos n)) (Err e) → StandsNot Operand vars depth needed t
  number_not n m bad h c = record { none = λ e rest o a. none_some (ap (value vars) (at_number h o).0 ∙ c.1) (a.comes c.0) }

  pub name_stands : (text : Text) (v : ℤ) (rest : Bor (List ℕ)) → token_at t ≡ name text rest.now → length rest.now < length t → Comes needed (named_value vars text) (Ok v) → Stands Operand vars depth needed t (record { value = v; height = 0; rest = rest })
  name_stands n v rest h l c = record { tree = Name n; reads = named h; high = refl; low = omega arith; comes = c; shorter = l }

  pub name_not : (text m : Text) (e : Bad) → token_at t ≡ name text m → Comes needed (named_value vars text) (Err e) → StandsNot Operand vars depth needed t
  name_not n m bad h c = record { none = λ e rest o a. none_some (ap (value vars) (at_name h o).0 ∙ c.1) (a.comes c.0) }

  pub other_not : token_at t ≡ other → StandsNot Operand vars depth needed t
  other_not h = record { none = λ e rest o a. at_other h o }

  module _ (m : Text) (h : token_at t ≡ opens m) where
    pub parens_deep : depth ≡ 0 → StandsNot Operand vars depth needed t
    parens_deep z = record { none = λ e rest o a. let w = at_opens h o in let b = subst (IsAllowed vars depth needed) w.is a in omega (arith, b.low) }

    module _ (d : ℕ) (more : depth ≡ suc d) where
      pub parens_not : StandsNot Conditional vars d needed m → StandsNot Operand vars depth needed t
      parens_not n = record { none = λ e rest o a. let w = at_opens h o in n.none w.inner w.rest w.reads (allowed_parens vars depth d needed more w.inner (subst (IsAllowed vars depth needed) w.is a)) }

      module _ (found : Found) (s : Stands Conditional vars d needed m found) where
        pub parens_open : after 41 found.rest.now ≡ None → StandsNot Operand vars depth needed t
        parens_open n = record {
          none = λ e rest o a.
              let w = at_opens h o in
              let i = conditional_same s.reads w.reads in
              let k : None ≡ Some rest = sym n ∙ ap (after 41) i.1 ∙ w.closes in cc;
        }

        pub parens_stands : (rest : Bor (List ℕ)) → after 41 found.rest.now ≡ Some rest.now → length rest.now < length t → Stands Operand vars depth needed t (record { value = found.value; height = found.height + 1; rest = rest })
        parens_stands rest c l = record { tree = Parens s.tree; reads = parens h s.reads c; high = omega (arith, s.high); low = omega (arith, s.low); comes = s.comes; shorter = l }

  module _ (sg : Sign) (m : Text) (h : token_at t ≡ signs sg m) where
    pub sign_deep : depth ≡ 0 → StandsNot Operand vars depth needed t
    sign_deep z = record { none = λ e rest o a. let w = at_sign h o in let b = subst (IsAllowed vars depth needed) w.is a in omega (arith, b.low) }

    module _ (d : ℕ) (more : depth ≡ suc d) where
      pub sign_not : StandsNot Operand vars d needed m → StandsNot Operand vars depth needed t
      sign_not n = record { none = λ e rest o a. let w = at_sign h o in n.none w.inner rest w.reads (allowed_unary vars depth d needed more sg w.inner (subst (IsAllowed vars depth needed) w.is a)) }

      module _ (found : Found) (s : Stands Operand vars d needed m found) where
        pub sign_error : (e : Bad) → Comes needed (unary sg found.value) (Err e) → StandsNot Operand vars depth needed t
        sign_error bad c = record {
          none = λ e rest o a.
              let w = at_sign h o in
              let i = operand_same w.reads s.reads in
              let b = subst (IsAllowed vars depth needed) (w.is ∙ ap (Unary sg) i.0) a in
              none_some (ap (option_and_then (unary sg)) (s.comes c.0) ∙ c.1) (b.comes c.0);
        }

        pub sign_stands : (v : ℤ) → Comes needed (unary sg found.value) (Ok v) → length found.rest.now < length t → Stands Operand vars depth needed t (record { value = v; height = found.height + 1; rest = found.rest })
        sign_stands v c l = record { tree = Unary sg s.tree; reads = sign h s.reads; high = omega (arith, s.high); low = omega (arith, s.low); comes = λ n. ap (option_and_then (unary sg)) (s.comes n) ∙ c n; shorter = l }

-- ---- levels

level_zero : {t r : Text} {e : Expression} → Level zero t e r → Operand t e r
level_zero (operand o) = o

record Begins (n : ℕ) (t : Text) (e : Expression) (r : Text) : Type 0 where
  left : Expression
  mid : Text
  reads : Level n t left mid
  chain : Chain n left mid e r

level_more : {n : ℕ} {t r : Text} {e : Expression} → Level (suc n) t e r → Begins n t e r
level_more (level {m = m} {a = a} l c) = record { left = a; mid = m; reads = l; chain = c }

record Continues (n : ℕ) (o : Operator) (a : Expression) (m : Text) (e : Expression) (r : Text) : Type 0 where
  right : Expression
  mid : Text
  reads : Level n m right mid
  chain : Chain n (Binary o a right) mid e r

chain_more : {n : ℕ} {t m r : Text} {o : Operator} {a e : Expression} → operator_in (suc n) t ≡ Some (o, m) → Chain n a t e r → Continues n o a m e r
chain_more {m = m} {o = o} h (ends k) = let e : Some (o, m) ≡ None = sym h ∙ k in cc
chain_more {n} {t} {m} {r} {o} {a} {e} h (goes {m = m'} {k = k'} {operator = o'} {b = b} k l c) =
    let i = some_same (sym k ∙ h) in
    record { right = b; mid = k'; reads = subst (λ (x : Text). Level n x b k') (ap (λ p. p.1) i) l; chain = subst (λ (x : Operator). Chain n (Binary x a b) k' e r) (ap (λ p. p.0) i) c }

chain_end : {n : ℕ} {t r : Text} {a e : Expression} → operator_in (suc n) t ≡ None → Chain n a t e r → (a ≡ e) × (t ≡ r)
chain_end h c = chain_same (ends h) c

chain_allowed : {n : ℕ} {t r : Text} {a e : Expression} (vars : Variables) (depth : ℕ) (needed : Bool) → Chain n a t e r → IsAllowed vars depth needed e → IsAllowed vars depth needed a
chain_allowed vars depth needed (ends h) a = a
chain_allowed vars depth needed (goes {operator = o} {a = x} {b = b} h l c) a = allowed_left vars depth needed o x b (chain_allowed vars depth needed c a)

-- A left operand that was read, with operators that may follow: what the whole level is, is what they make of it.
pub record Leads (vars : Variables) (depth : ℕ) (needed : Bool) (n loose : ℕ) (text : Text) (found : Found) : Type 0 where
  pub tree : Expression
  pub high : height tree ≡ found.height
  pub low : found.height ≤ depth
  pub comes : IsTrue needed → value vars tree ≡ Some found.value
  pub shorter : length found.rest.now < length text
  pub on : (e : Expression) (r : Text) → Chain n tree found.rest.now e r → Level loose text e r
  pub back : (e : Expression) (r : Text) → Level loose text e r → Chain n tree found.rest.now e r

module _ (vars : Variables) (depth : ℕ) (needed : Bool) (text : Text) where
  zero_stands : (found : Found) → Stands Operand vars depth needed text found → Stands (Level zero) vars depth needed text found
  zero_stands found s = record { tree = s.tree; reads = operand s.reads; high = s.high; low = s.low; comes = s.comes; shorter = s.shorter }

  zero_not : StandsNot Operand vars depth needed text → StandsNot (Level zero) vars depth needed text
  zero_not s = record { none = λ e rest l a. s.none e rest (level_zero l) a }

  zero_answers : (r : Result Found Bad) → Answers Operand vars depth needed text r → Answers (Level zero) vars depth needed text r
  zero_answers (Ok found) s = zero_stands found s
  zero_answers (Err bad) s = zero_not s

  pub level_operand : (loose : ℕ) (r : Result Found Bad) → loose ≡ 0 → Answers Operand vars depth needed text r → Answers (Level loose) vars depth needed text r
  level_operand loose r z s = subst (λ (n : ℕ). Answers (Level n) vars depth needed text r) (sym z) (zero_answers r s)

  module _ (n loose : ℕ) (more : loose ≡ suc n) where
    down : {e : Expression} {r : Text} → Level loose text e r → Level (suc n) text e r
    down {e} {r} l = subst (λ (k : ℕ). Level k text e r) more l

    up : {e : Expression} {r : Text} → Level (suc n) text e r → Level loose text e r
    up {e} {r} l = subst (λ (k : ℕ). Level k text e r) (sym more) l

    pub left_not : StandsNot (Level n) vars depth needed text → StandsNot (Level loose) vars depth needed text
    left_not s = record { none = λ e r l a. let b = level_more (down l) in s.none b.left b.mid b.reads (chain_allowed vars depth needed b.chain a) }

    pub left_leads : (found : Found) → Stands (Level n) vars depth needed text found → Leads vars depth needed n loose text found
    left_leads found s = record {
      tree = s.tree;
      high = s.high;
      low = s.low;
      comes = s.comes;
      shorter = s.shorter;
      on = λ e r c. up (level s.reads c);
      back = λ e r l.
          let b = level_more (down l) in
          let i = level_same b.reads s.reads in
          subst (λ (x : Expression). Chain n x found.rest.now e r) i.0 (subst (λ (x : Text). Chain n b.left x e r) i.1 b.chain);
    }

    module _ (found : Found) (s : Leads vars depth needed n loose text found) where
      operator_down : {o : Option (Operator × Text)} → operator_in loose found.rest.now ≡ o → operator_in (suc n) found.rest.now ≡ o
      operator_down {o} h = subst (λ (k : ℕ). operator_in k found.rest.now ≡ o) more h

      pub leads_stands : operator_in loose found.rest.now ≡ None → Stands (Level loose) vars depth needed text found
      leads_stands h = record { tree = s.tree; reads = s.on s.tree found.rest.now (ends (operator_down h)); high = s.high; low = s.low; comes = s.comes; shorter = s.shorter }

      module _ (o : Operator) (m : Text) (h : operator_in loose found.rest.now ≡ Some (o, m)) where
        continued : (e : Expression) (r : Text) → Level loose text e r → Continues n o s.tree m e r
        continued e r l = chain_more (operator_down h) (s.back e r l)

        pub right_not : StandsNot (Level n) vars depth (needed && needs_right o found.value) m → StandsNot (Level loose) vars depth needed text
        right_not k = record {
          none = λ e r l a.
              let w = continued e r l in
              k.none w.right w.mid w.reads (allowed_right vars depth needed o s.tree w.right (chain_allowed vars depth needed w.chain a) found.value s.comes);
        }

        module _ (right : Found) (k : Stands (Level n) vars depth (needed && needs_right o found.value) m right) (answer : Option ℤ) (gives : (known : Option ℤ) → (IsTrue (needs_right o found.value) → known ≡ Some right.value) → answer ≡ binary o found.value known) where
          both_true : (a b : Bool) → a ≡ true → b ≡ true → (a && b) ≡ true
          both_true a b p q = rw (p, q) refl

          comes_to : needed ≡ true → value vars (Binary o s.tree k.tree) ≡ answer
          comes_to n = ap (option_and_then (λ x. binary o x (value vars k.tree))) (s.comes n) ∙ sym (gives (value vars k.tree) (λ q. k.comes (both_true needed (needs_right o found.value) n q)))

          pub joined_not : (e : Bad) → Comes needed answer (Err e) → StandsNot (Level loose) vars depth needed text
          joined_not bad c = record {
            none = λ e r l a.
                let w = continued e r l in
                let i = level_same w.reads k.reads in
                let b = chain_allowed vars depth needed w.chain a in
                let b' = subst (λ (x : Expression). IsAllowed vars depth needed (Binary o s.tree x)) i.0 b in
                none_some (comes_to c.0 ∙ c.1) (b'.comes c.0);
          }

          pub joined_leads : (v : ℤ) (tall : ℕ) → Comes needed answer (Ok v) → tall ≡ max found.height right.height → length right.rest.now < length text → Leads vars depth needed n loose text (record { value = v; height = tall; rest = right.rest })
          joined_leads v tall c e l = record {
            tree = Binary o s.tree k.tree;
            high = omega (arith, s.high, k.high, e);
            low = omega (arith, s.low, k.low, e);
            comes = λ n. comes_to n ∙ c n;
            shorter = l;
            on = λ e r ch. s.on e r (goes (operator_down h) k.reads ch);
            back = λ e r l.
                let w = continued e r l in
                let i = level_same w.reads k.reads in
                subst (λ (x : Expression). Chain n (Binary o s.tree x) right.rest.now e r) i.0 (subst (λ (x : Text). Chain n (Binary o s.tree w.right) x e r) i.1 w.chain);
          }

-- ---- `?:`

record Chooses (c : Expression) (k : Text) (e : Expression) (r : Text) : Type 0 where
  yes : Expression
  no : Expression
  mid : Text
  colon : Text
  is : e ≡ Choice c yes no
  reads : Conditional k yes mid
  goes_on : after 58 mid ≡ Some colon
  reads_no : Conditional colon no r

chooses : {t m k r : Text} {c e : Expression} → Level 10 t c m → after 63 m ≡ Some k → Conditional t e r → Chooses c k e r
chooses {k = k} l h (plain l' h') = let i = level_same l l' in let e : None ≡ Some k = sym h' ∙ sym (ap (after 63) i.1) ∙ h in cc
chooses {k = k} {r = r} l h (choice {k = k'} {l = l''} {o = o} {c = c'} {a = a} {b = b} l' h' y g z) =
    let i = level_same l' l in
    let e = some_same (sym h' ∙ ap (after 63) i.1 ∙ h) in
    record { yes = a; no = b; mid = l''; colon = o; is = ap (λ x. Choice x a b) i.0; reads = subst (λ (x : Text). Conditional x a l'') e y; goes_on = g; reads_no = z }

module _ (vars : Variables) (depth : ℕ) (needed : Bool) (text : Text) where
  pub test_not : StandsNot (Level 10) vars depth needed text → StandsNot Conditional vars depth needed text
  test_not s = record { none = go }
    where
      go : (e : Expression) (r : Text) → Conditional text e r → IsAllowed vars depth needed e → ⊥
      go e r (plain l h) a = s.none e r l a
      go e r (choice {m = m} {c = c} {a = x} {b = y} l h p g z) a = s.none c m l (allowed_test vars depth needed c x y a)

  module _ (test : Found) (s : Stands (Level 10) vars depth needed text test) where
    pub test_stands : after 63 test.rest.now ≡ None → Stands Conditional vars depth needed text test
    test_stands h = record { tree = s.tree; reads = plain s.reads h; high = s.high; low = s.low; comes = s.comes; shorter = s.shorter }

    module _ (k : Text) (h : after 63 test.rest.now ≡ Some k) where
      chosen : (e : Expression) (r : Text) → Conditional text e r → Chooses s.tree k e r
      chosen e r c = chooses s.reads h c

      pub choice_deep : depth ≤ test.height → StandsNot Conditional vars depth needed text
      choice_deep d = record { none = λ e r c a. let w = chosen e r c in let b = subst (IsAllowed vars depth needed) w.is a in omega (arith, b.low, s.high) }

      module _ (d : ℕ) (more : depth ≡ suc d) where
        pub yes_not : StandsNot Conditional vars d (needed && not (is_zero test.value)) k → StandsNot Conditional vars depth needed text
        yes_not n = record {
          none = λ e r c a.
              let w = chosen e r c in
              n.none w.yes w.mid w.reads (allowed_yes vars depth d needed more s.tree w.yes w.no (subst (IsAllowed vars depth needed) w.is a) test.value s.comes);
        }

        module _ (yes : Found) (y : Stands Conditional vars d (needed && not (is_zero test.value)) k yes) where
          pub colon_not : after 58 yes.rest.now ≡ None → StandsNot Conditional vars depth needed text
          colon_not n = record {
            none = λ e r c a.
                let w = chosen e r c in
                let i = conditional_same y.reads w.reads in
                let f : None ≡ Some w.colon = sym n ∙ ap (after 58) i.1 ∙ w.goes_on in cc;
          }

          module _ (m : Text) (g : after 58 yes.rest.now ≡ Some m) where
            pub no_not : StandsNot Conditional vars d (needed && is_zero test.value) m → StandsNot Conditional vars depth needed text
            no_not n = record {
              none = λ e r c a.
                  let w = chosen e r c in
                  let i = conditional_same w.reads y.reads in
                  let f = some_same (sym w.goes_on ∙ ap (after 58) i.1 ∙ g) in
                  n.none w.no r (subst (λ (x : Text). Conditional x w.no r) f w.reads_no) (allowed_no vars depth d needed more s.tree w.yes w.no (subst (IsAllowed vars depth needed) w.is a) test.value s.comes);
            }

            module _ (no : Found) (z : Stands Conditional vars d (needed && is_zero test.value) m no) (low : test.height ≤ d) where
              picked : (b : Bool) → is_zero test.value ≡ b → needed ≡ true → (if b then value vars z.tree else value vars y.tree) ≡ Some (if b then no.value else yes.value)
              picked true e n = z.comes (rw (n, e) refl)
              picked false e n = y.comes (rw (n, e) refl)

              pub choice_stands : (v : ℤ) (high : ℕ) → v ≡ (if is_zero test.value then no.value else yes.value) → high ≡ 1 + max test.height (max yes.height no.height) → length no.rest.now < length text → Stands Conditional vars depth needed text (record { value = v; height = high; rest = no.rest })
              choice_stands v high is e l = record {
                tree = Choice s.tree y.tree z.tree;
                reads = choice s.reads h y.reads g z.reads;
                high = omega (arith, s.high, y.high, z.high, e);
                low = omega (arith, s.low, y.low, z.low, low, e);
                comes = λ n. ap (option_and_then (λ x. if is_zero x then value vars z.tree else value vars y.tree)) (s.comes n) ∙ picked (is_zero test.value) refl n ∙ ap (λ x. Some x) (sym is);
                shorter = l;
              }
