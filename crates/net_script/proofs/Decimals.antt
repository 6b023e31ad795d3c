-- Decimal digits are read back.
use Rattle.std.proofs.Common.{◌≡◌, ℕ, ◌<◌, ◌^◌, true, List, Result, Ok, Err, Some, arith, refl, ap, ◌∙◌, Bor}
use Rattle.std.specs.Fmt.{decimal}
use Rattle.std.specs.Prelude.{MatchResult}
use Rattle.std.specs.Result.{is_ok, result_ok}
use Rattle.std.specs.Str.{IsUtf8}
use Rattle.std.proofs.lemmas.Fmt.{IsAscii-decimal}
use Rattle.std.proofs.lemmas.Str.{IsUtf8-from_ascii}

-- decimal digits are a text
pub IsUtf8-decimal : (n : ℕ) (text : List ℕ) → n < 2 ^ 32 → text ≡ decimal n → IsUtf8 text
IsUtf8-decimal n text small is = rw is (IsUtf8-from_ascii (decimal n) (IsAscii-decimal n (omega arith)))

-- which a check for UTF-8 accepts
pub accepted : {T E : Type 0} (r : Result T E) (P : T → Type 0) (Q : E → Type 0) (n : ℕ) (text : List ℕ) → n < 2 ^ 32 → text ≡ decimal n
    → MatchResult r P (λ e. ¬ IsUtf8 text × Q e) → is_ok r ≡ true
accepted (Ok s) P Q n text small is checked = refl
accepted (Err e) P Q n text small is checked = absurd (checked.0 (IsUtf8-decimal n text small is))

-- the text that is accepted is the bytes
pub same_text : {E : Type 0} (r : Result (Bor (List ℕ)) E) (s : Bor (List ℕ)) (text : List ℕ) (P : Type 0) (Q : E → Type 0)
    → Some s ≡ result_ok r → MatchResult r (λ t. (t.now ≡ text) × P) Q → s.now ≡ text
same_text (Ok t) s text P Q some checked = let same : s ≡ t = cc in ap (λ (b : Bor (List ℕ)). b.now) same ∙ checked.0
same_text (Err e) s text P Q some checked = absurd (cc some)
