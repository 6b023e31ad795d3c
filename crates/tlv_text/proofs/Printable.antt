-- Printable characters stand in a text as they are.
use Rattle.std.proofs.Common.{◌≡◌, ◌≤◌, ◌⊎◌, ◌∙◌, inl, inr, length, ℕ, true, IsTrue, get_or, List, [], ◌∷◌, map, refl, arith}
use Rattle.std.specs.Prelude.{codes}
use Rattle.std.specs.Char.{is_ascii_alphabetic}
use Rattle.std.specs.List.{AllPass, AllZip, list_all}
use Rattle.std.proofs.lemmas.Bool.{and_parts}
use Rattle.std.proofs.lemmas.Bool.Decides.{nat_tests}
use Rattle.std.proofs.lemmas.List.Elements.{All-head, All-tail}
use Rattle.bd_codes.specs.declared.row.Kind.{Kind}
use Rattle.bd_codes.specs.declared.row.Kind.TheVariants.{Text, Date, Letters}
use Rattle.tlv_text.specs.Printed.{shown}
use Rattle.tlv_text.specs.Values.{HasForm, IsDate, stands_for, is_printable}
use Rattle.tlv_text.specs.Spelled.{SpellsValue}

map-shown : (text : List ℕ) → AllPass is_printable text → map shown text ≡ text
map-shown [] printable = refl
map-shown (byte ∷ text) printable =
    let here : is_printable byte ≡ true = All-head (λ b. is_printable b ≡ true) byte text printable in
    let rest = map-shown text (All-tail (λ b. is_printable b ≡ true) byte text printable) in
    rw (here, rest) refl

letter_printable : (c : ℕ) → is_ascii_alphabetic c ≡ true → is_printable c ≡ true
letter_printable c letter = grind (arith, nat_tests)

map-shown-letters : (text : List ℕ) → AllPass is_ascii_alphabetic text → map shown text ≡ text
map-shown-letters text letters =
    map-shown text (λ k d inside. letter_printable (get_or text k d) (letters k d inside))

stands_printable : (byte mark : ℕ) → is_printable mark ≡ true → stands_for byte mark ≡ true → is_printable byte ≡ true
stands_printable byte mark printable stands = grind (arith, nat_tests)

map-shown-places : (text marks : List ℕ) → list_all is_printable marks ≡ true
    → AllZip (λ byte mark. IsTrue (stands_for byte mark)) text marks → map shown text ≡ text
map-shown-places [] marks printable stands = refl
map-shown-places (byte ∷ text) [] printable stands = absurd stands
map-shown-places (byte ∷ text) (mark ∷ marks) printable stands =
    let parts = and_parts (is_printable mark) (list_all is_printable marks) printable in
    let here = stands_printable byte mark parts.0 stands.0 in
    let rest = map-shown-places text marks parts.1 stands.1 in
    rw (here, rest) refl

map-shown-date : (text : List ℕ) → IsDate text → map shown text ≡ text
map-shown-date text date = map-shown-places text (codes "MM/DD/YYYY HH:MM:SS") refl date

-- what a text can spell is printed as it is
pub spelled-plainly : (kind : Kind) (value text : List ℕ) → (kind ≡ Text) ⊎ ((kind ≡ Date) ⊎ (kind ≡ Letters))
    → length value ≤ 255 → text ≡ map shown value → HasForm kind value → SpellsValue kind value text
spelled-plainly kind value text (inl is) short printed =
    rw is (λ form. record { short = short; same = printed ∙ map-shown value form })
spelled-plainly kind value text (inr (inl is)) short printed =
    rw is (λ form. record { short = short; same = printed ∙ map-shown-date value form })
spelled-plainly kind value text (inr (inr is)) short printed =
    rw is (λ form. record { short = short; same = printed ∙ map-shown-letters value form })
