-- A text is read in one way at most.
use Rattle.std.proofs.Common.{◌≡◌, ℕ, suc, refl, Option, Some, None, sym, subst, ap, ◌∙◌}
use Rattle.sh_arith.specs.declared.operator.Operator.{Operator}
use Rattle.sh_arith.specs.declared.operator.Sign.{Sign}
use Rattle.sh_arith.specs.Text.{Text, after}
use Rattle.sh_arith.specs.Operator.{operator_in}
use Rattle.sh_arith.specs.Token.{Front, token_at, signs, opens, number, name, other}
use Rattle.sh_arith.specs.Tree.{Expression, Constant, Name, Parens, Unary, Binary, Choice}
use Rattle.sh_arith.specs.Grammar.{Operand, Level, Chain, Conditional, constant, named, parens, sign, operand, level, ends, goes, plain, choice}

-- the same expression, with the same rest
abbrev pub Same : Expression → Text → Expression → Text → Type 0
Same e r f s = (e ≡ f) × (r ≡ s)

some : {A : Type 0} {x y : A} → Some x ≡ Some y → x ≡ y
some e = cc

mutual
  pub operand_same : {t r s : Text} {e f : Expression} → Operand t e r → Operand t f s → Same e r f s
  operand_same (constant {r = r} {n = n} h) (constant {r = s} {n = m} k) = let e : number n r ≡ number m s = sym h ∙ k in (cc, cc)
  operand_same (constant {r = r} {n = n} h) (named {r = s} {text = m} k) = let e : number n r ≡ name m s = sym h ∙ k in cc
  operand_same (constant {r = r} {n = n} h) (parens {m = m} k _ _) = let e : number n r ≡ opens m = sym h ∙ k in cc
  operand_same (constant {r = r} {n = n} h) (sign {m = m} {s = s} k _) = let e : number n r ≡ signs s m = sym h ∙ k in cc
  operand_same (named {r = r} {text = n} h) (constant {r = s} {n = m} k) = let e : name n r ≡ number m s = sym h ∙ k in cc
  operand_same (named {r = r} {text = n} h) (named {r = s} {text = m} k) = let e : name n r ≡ name m s = sym h ∙ k in (cc, cc)
  operand_same (named {r = r} {text = n} h) (parens {m = m} k _ _) = let e : name n r ≡ opens m = sym h ∙ k in cc
  operand_same (named {r = r} {text = n} h) (sign {m = m} {s = s} k _) = let e : name n r ≡ signs s m = sym h ∙ k in cc
  operand_same (parens {m = n} h _ _) (constant {r = s} {n = m} k) = let e : opens n ≡ number m s = sym h ∙ k in cc
  operand_same (parens {m = n} h _ _) (named {r = s} {text = m} k) = let e : opens n ≡ name m s = sym h ∙ k in cc
  operand_same (parens {m = n} h c a) (parens {m = m} {k = k'} {r = s} {e = f} k d b) =
      let e : opens n ≡ opens m = sym h ∙ k in
      let e' : m ≡ n = cc in
      let i = conditional_same c (subst (λ (x : Text). Conditional x f k') e' d) in
      (ap Parens i.0, some (sym a ∙ ap (after 41) i.1 ∙ b))
  operand_same (parens {m = n} h _ _) (sign {m = m} {s = s} k _) = let e : opens n ≡ signs s m = sym h ∙ k in cc
  operand_same (sign {m = n} {s = z} h _) (constant {r = s} {n = m} k) = let e : signs z n ≡ number m s = sym h ∙ k in cc
  operand_same (sign {m = n} {s = z} h _) (named {r = s} {text = m} k) = let e : signs z n ≡ name m s = sym h ∙ k in cc
  operand_same (sign {m = n} {s = z} h _) (parens {m = m} k _ _) = let e : signs z n ≡ opens m = sym h ∙ k in cc
  operand_same (sign {m = n} {s = z} {e = x} h a) (sign {m = m} {r = s'} {s = y} {e = f} k b) =
      let e : signs z n ≡ signs y m = sym h ∙ k in
      let e' : m ≡ n = cc in
      let e'' : z ≡ y = cc in
      let i = operand_same a (subst (λ (x : Text). Operand x f s') e' b) in
      (ap (λ o. Unary o x) e'' ∙ ap (Unary y) i.0, i.1)

  pub level_same : {n : ℕ} {t r s : Text} {e f : Expression} → Level n t e r → Level n t f s → Same e r f s
  level_same (operand a) (operand b) = operand_same a b
  level_same (level {n = n} {m = m} a c) (level {m = m'} {r = s} {a = a'} {e = f} b d) =
      let i = level_same a b in
      chain_same c (subst (λ (x : Expression). Chain n x m f s) (sym i.0) (subst (λ (x : Text). Chain n a' x f s) (sym i.1) d))

  pub chain_same : {n : ℕ} {t r s : Text} {a e f : Expression} → Chain n a t e r → Chain n a t f s → Same e r f s
  chain_same (ends h) (ends k) = (refl, refl)
  chain_same (ends h) (goes {m = m} {operator = o} k _ _) = let e : None ≡ Some (o, m) = sym h ∙ k in cc
  chain_same (goes {m = m} {operator = o} h _ _) (ends k) = let e : Some (o, m) ≡ None = sym h ∙ k in cc
  chain_same (goes {n = n} {m = m} {k = k'} {operator = o} {a = a} {b = b} h l c) (goes {m = m'} {k = l'} {r = s} {operator = o'} {b = b'} {e = f} k l'' d) =
      let e = some (sym h ∙ k) in
      let eo = ap (λ p. p.0) e in
      let em = ap (λ p. p.1) e in
      let i = level_same l (subst (λ (x : Text). Level n x b' l') (sym em) l'') in
      let tree : Binary o' a b' ≡ Binary o a b = sym (ap (λ x. Binary x a b) eo ∙ ap (Binary o' a) i.0) in
      chain_same c (subst (λ (x : Expression). Chain n x k' f s) tree (subst (λ (x : Text). Chain n (Binary o' a b') x f s) (sym i.1) d))

  pub conditional_same : {t r s : Text} {e f : Expression} → Conditional t e r → Conditional t f s → Same e r f s
  conditional_same (plain a h) (plain b k) = level_same a b
  conditional_same (plain a h) (choice {k = m} b k _ _ _) = let i = level_same a b in let e : None ≡ Some m = sym h ∙ ap (after 63) i.1 ∙ k in cc
  conditional_same (choice {k = m} b k _ _ _) (plain a h) = let i = level_same b a in let e : Some m ≡ None = sym k ∙ ap (after 63) i.1 ∙ h in cc
  conditional_same (choice {k = k'} {o = o'} {c = c} {a = a} {b = b} x h y g z) (choice {k = k''} {l = l''} {o = o''} {r = s} {c = c''} {a = a''} {b = b''} x' h' y' g' z') =
      let i = level_same x x' in
      let ek = some (sym h ∙ ap (after 63) i.1 ∙ h') in
      let j = conditional_same y (subst (λ (u : Text). Conditional u a'' l'') (sym ek) y') in
      let eo = some (sym g ∙ ap (after 58) j.1 ∙ g') in
      let k = conditional_same z (subst (λ (u : Text). Conditional u b'' s) (sym eo) z') in
      (ap (λ u. Choice u a b) i.0 ∙ ap (λ u. Choice c'' u b) j.0 ∙ ap (Choice c'' a'') k.0, k.1)
