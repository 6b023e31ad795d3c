-- What is served of lines, with one line more.
use Rattle.std.proofs.Common.{◌≡◌, Bool, true, false, List, [], ◌∷◌, ◌++◌, Option, Some, None, refl, sym, ap, ◌∙◌, append-nil, find}
use Rattle.std.specs.Option.{option_map, option_or}
use Rattle.std.proofs.lemmas.Grind.{flat_map-append}
use Rattle.std.proofs.lemmas.List.Folds.{find-append}
use Rattle.bd_dev.specs.Volumes.{Volume}
use Rattle.net_script.specs.Serving.{feeds_of, first_lacking, lacks_body, served}
use Rattle.net_script.specs.declared.feed.Feed.{Feed}
use Rattle.net_script.specs.declared.line.Numbered.{Numbered}

pub served_more : (volumes : List Volume) (lines : List Numbered) (n : Numbered) (feeds added : List Feed) → feeds ≡ served volumes lines → added ≡ feeds_of volumes n.line → feeds ++ added ≡ served volumes (lines ++ n ∷ [])
served_more volumes lines n feeds added so_far is =
    ap (λ (fs : List Feed). fs ++ added) so_far ∙ (ap (λ (fs : List Feed). served volumes lines ++ fs) (is ∙ sym (append-nil (feeds_of volumes n.line)))
    ∙ sym (flat_map-append (λ (m : Numbered). feeds_of volumes m.line) lines (n ∷ [])))

none_found : (o : Option Numbered) → option_map (λ (m : Numbered). m.number) o ≡ None → o ≡ None
none_found None e = refl
none_found (Some m) e = absurd (cc e)

-- the first line without a body among more lines
lacking_in : (volumes : List Volume) (lines rest : List Numbered) → first_lacking volumes lines ≡ None → first_lacking volumes (lines ++ rest) ≡ first_lacking volumes rest
lacking_in volumes lines rest none =
    let p : Numbered → Bool = λ m. lacks_body volumes m.line in
    ap (option_map (λ (m : Numbered). m.number)) (find-append p lines rest ∙ ap (λ (o : Option Numbered). option_or o (find p rest)) (none_found (find p lines) none))

pub lacking_more : (volumes : List Volume) (lines : List Numbered) (n : Numbered) → first_lacking volumes lines ≡ None → lacks_body volumes n.line ≡ false → first_lacking volumes (lines ++ n ∷ []) ≡ None
lacking_more volumes lines n none has = lacking_in volumes lines (n ∷ []) none ∙ here
  where
    here : first_lacking volumes (n ∷ []) ≡ None
    here = rw has refl

pub lacking_found : (volumes : List Volume) (lines rest whole : List Numbered) (n : Numbered) → first_lacking volumes lines ≡ None → lacks_body volumes n.line ≡ true → whole ≡ lines ++ n ∷ rest → first_lacking volumes whole ≡ Some n.number
lacking_found volumes lines rest whole n none lacks is = ap (first_lacking volumes) is ∙ (lacking_in volumes lines (n ∷ rest) none ∙ here)
  where
    here : first_lacking volumes (n ∷ rest) ≡ Some n.number
    here = rw lacks refl
