-- The whole list, from what is put at its end part by part.
use Rattle.std.proofs.Common.{◌≡◌, List, [], ◌++◌, fold, ap, sym, ◌∙◌}
use Rattle.std.proofs.lemmas.List.Sums.{fold-append}
use Rattle.waterfall.specs.declared.candidate.Candidate.{Candidate}
use Rattle.waterfall.specs.Firsts.{firsts, with_new}
use Rattle.waterfall.proofs.Firsts.{fold-with_new_nil}

-- one part more
more : (front part : List Candidate) {old new : List Candidate} → old ≡ fold with_new [] front → new ≡ fold with_new old part → new ≡ fold with_new [] (front ++ part)
more front part was put = put ∙ ap (λ (l : List Candidate). fold with_new l part) was ∙ sym (fold-append with_new [] front part)

pub five_parts : (a b c d e : List Candidate) {empty la lb lc ld le : List Candidate} → empty ≡ [] → la ≡ fold with_new empty a → lb ≡ fold with_new la b
    → lc ≡ fold with_new lb c → ld ≡ fold with_new lc d → le ≡ fold with_new ld e
    → le ≡ firsts (a ++ b ++ c ++ d ++ e)
five_parts a b c d e none pa pb pc pd pe =
    more (((a ++ b) ++ c) ++ d) e (more ((a ++ b) ++ c) d (more (a ++ b) c (more a b (pa ∙ ap (λ (l : List Candidate). fold with_new l a) none) pb) pc) pd) pe
    ∙ fold-with_new_nil (a ++ b ++ c ++ d ++ e)
