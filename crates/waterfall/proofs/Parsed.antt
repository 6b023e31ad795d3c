-- Texts that are URLs, and texts that are none.
use Rattle.std.proofs.Common.{◌≡◌, ◌<◌, ℕ, true, false, List, [], ◌∷◌, Some, None, Result, Ok, Err, MatchResult, MatchOption, All, sym, ap, ◌∙◌}
use Rattle.std.specs.Char.{is_ascii}
use Rattle.std.specs.List.{list_all}
use Rattle.std.specs.Result.{result_ok}
use Rattle.std.specs.Str.{IsUtf8}
use Rattle.std.proofs.lemmas.Bool.{and_parts, cond-true, cond-false, ltb-true}
use Rattle.std.proofs.lemmas.List.Elements.{All-nil, All-cons}
use Rattle.std.proofs.lemmas.Str.{IsUtf8-from_ascii}
use Rattle.std.proofs.lemmas.Str.Ascii.{IsAscii-from_all}
use Rattle.url.specs.Parser.{parse_url}
use Rattle.url.specs.Parts.{Parts}
use Rattle.url.specs.declared.error.ParseError.{ParseError}
use Rattle.waterfall.specs.Shown.{url_of}

all_ascii : (text : List ℕ) → list_all is_ascii text ≡ true → All (λ b. b < 128) text
all_ascii [] e = All-nil (λ b. b < 128)
all_ascii (b ∷ text) e =
    All-cons (λ x. x < 128) b text (ltb-true b 128 (and_parts _ _ e).0) (all_ascii text (and_parts _ _ e).1)

-- a text that is all ASCII is read as a string, and as itself
pub ascii_read : {S E : Type 0} (now : S → List ℕ) (text : List ℕ) (r : Result S E) (Q : E → Type 0) → list_all is_ascii text ≡ true → MatchResult r (λ s. (now s ≡ text) × IsUtf8 text) (λ e. (¬ (IsUtf8 text)) × Q e) → MatchOption (result_ok r) (list_all is_ascii text ≡ false) (λ same. (list_all is_ascii text ≡ true) × (now same ≡ text))
ascii_read now text (Ok s) Q ascii read = (ascii, read.0)
ascii_read now text (Err e) Q ascii read = absurd (read.0 (IsUtf8-from_ascii text (IsAscii-from_all text (all_ascii text ascii))))

pub url_of-other : (text : List ℕ) → list_all is_ascii text ≡ false → None ≡ url_of text
unfolding url_of
url_of-other text e = sym (cond-false _ _ _ e)

pub url_of-ok : (text : List ℕ) (url : Parts) → list_all is_ascii text ≡ true → parse_url None text ≡ Ok url → Some url ≡ url_of text
unfolding url_of
url_of-ok text url ascii e = sym (cond-true _ _ _ ascii ∙ ap result_ok e)

pub url_of-err : (text : List ℕ) (error : ParseError) → list_all is_ascii text ≡ true → parse_url None text ≡ Err error → None ≡ url_of text
unfolding url_of
url_of-err text error ascii e = sym (cond-true _ _ _ ascii ∙ ap result_ok e)
