-- The walk to the end of a script.
use Rattle.std.proofs.Common.{◌≡◌, ℕ, ◌+◌, ◌-◌, ◌≤◌, ◌==◌, Bool, true, refl, sym, ◌∙◌, subst, ap, arith, List, [], ◌∷◌, ◌++◌, length, take, drop, append_assoc, length-append}
use Rattle.std.proofs.Math.Seq.{take-append_seam, drop-append_seam}
use Rattle.sh_script.specs.Splitting.{Text, marker, Splits, ends, marked, goes}

-- what is passed, and how what is left goes on
pub record Passed (whole : Text) (starts : Bool) (rest : Text) : Type 0 where
  pub front : Text
  pub is : whole ≡ front ++ rest
  pub goes_on : (script payload : Text) → Splits starts rest script payload → Splits true whole (front ++ script) payload

pub begins : (whole : Text) → Passed whole true whole
begins whole = record { front = []; is = refl; goes_on = λ s p h. h }

pub passes : {whole rest more : Text} {starts next : Bool} {c : ℕ} → Passed whole starts rest → rest ≡ c ∷ more → (starts ≡ true → (r : Text) → rest ≡ marker ++ r → ⊥) → next ≡ (c == 10) → Passed whole next more
passes {whole} {rest} {more} {starts} {next} {c} p e none n = record {
  front = p.front ++ c ∷ [];
  is = p.is ∙ ap (λ x. p.front ++ x) e ∙ sym (append_assoc p.front (c ∷ []) more);
  goes_on = λ s q h.
      let one : Splits starts (c ∷ more) (c ∷ s) q = goes (λ t r f. none t r (e ∙ f)) (subst (λ (b : Bool). Splits b more s q) n h) in
      subst (λ (x : Text). Splits true whole x q) (sym (append_assoc p.front (c ∷ []) s)) (p.goes_on (c ∷ s) q (subst (λ (x : Text). Splits starts x (c ∷ s) q) (sym e) one));
}

-- a script and a payload, by the length of the script
cut : {whole : Text} (script payload : Text) (n : ℕ) → whole ≡ script ++ payload → n ≡ length script → Splits true whole script payload → Splits true whole (take n whole) (drop n whole)
cut {whole} script payload n e l h =
    let t : take n whole ≡ script = ap (λ k. take k whole) l ∙ ap (take (length script)) e ∙ take-append_seam script payload in
    let d : drop n whole ≡ payload = ap (λ k. drop k whole) l ∙ ap (drop (length script)) e ∙ drop-append_seam script payload in
    subst (λ (x : Text). Splits true whole x (drop n whole)) (sym t) (subst (λ (x : Text). Splits true whole script x) (sym d) h)

behind : (front m payload : Text) (whole : Text) → whole ≡ (front ++ m) ++ payload → length whole - length payload ≡ length (front ++ m)
behind front m payload whole e =
    let l : length whole ≡ length (front ++ m) + length payload = ap length e ∙ length-append (front ++ m) payload in
    omega (arith, l)

pub marked_here : {whole rest payload : Text} {starts : Bool} → Passed whole starts rest → starts ≡ true → rest ≡ marker ++ payload → Splits true whole (take (length whole - length payload) whole) (drop (length whole - length payload) whole)
marked_here {whole} {rest} {payload} {starts} p s e =
    let is : whole ≡ (p.front ++ marker) ++ payload = p.is ∙ ap (λ x. p.front ++ x) e ∙ sym (append_assoc p.front marker payload) in
    let h : Splits starts rest marker payload = subst (λ (b : Bool). Splits b rest marker payload) (sym s) (marked e) in
    cut (p.front ++ marker) payload (length whole - length payload) is (behind p.front marker payload whole is) (p.goes_on marker payload h)

pub marked_within : {whole rest payload : Text} {starts : Bool} → Passed whole starts rest → rest ≡ marker ++ payload → length payload ≤ length whole
marked_within {whole} {rest} {payload} p e =
    let l : length whole ≡ length p.front + length rest = ap length p.is ∙ length-append p.front rest in
    let m : length rest ≡ length marker + length payload = ap length e ∙ length-append marker payload in
    omega (arith, l, m)

append_nil : (xs : Text) → xs ++ [] ≡ xs
append_nil [] = refl
append_nil (x ∷ xs) = ap (λ l. x ∷ l) (append_nil xs)

pub all_script : {whole rest : Text} {starts : Bool} → Passed whole starts rest → rest ≡ [] → Splits true whole (take (length whole) whole) (drop (length whole) whole)
all_script {whole} {rest} {starts} p e =
    let is : whole ≡ p.front = p.is ∙ ap (λ x. p.front ++ x) e ∙ append_nil p.front in
    let h : Splits true whole (p.front ++ []) [] = p.goes_on [] [] (subst (λ (x : Text). Splits starts x [] []) (sym e) ends) in
    cut (p.front ++ []) [] (length whole) (is ∙ sym (append_nil p.front) ∙ sym (append_nil (p.front ++ []))) (ap length (is ∙ sym (append_nil p.front))) h
