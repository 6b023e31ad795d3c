use Rattle.std.proofs.Common.{◌≡◌, ◌≢◌, ℕ, Bool, true, List, ◌++◌, Option, Some, None, Bor, MatchOption}
use Rattle.std.proofs.lemmas.Bool.Decides.{Decides-eqb}
use Rattle.std.proofs.lemmas.Slice.Eq.{strip_prefix_is}
use Rattle.sh_script.specs.Splitting.{Text, marker}
use Rattle.sh_script.proofs.past_marker.Goals as goal

answers : (starts : Bool) (s : Text) (r : Option (Bor Text)) → starts ≡ true → MatchOption r ((rest : Text) → s ≢ marker ++ rest) (λ x. s ≡ marker ++ x.now) → MatchOption r (starts ≡ true → (rest : Text) → s ≡ marker ++ rest → ⊥) (λ x. (starts ≡ true) × (s ≡ marker ++ x.now))
answers starts s None e h = λ _ rest f. h rest f
answers starts s (Some x) e h = (e, h)

pub returns : goal.returns
returns c = answers c.args.starts c.args.text.now c.strip_prefix.result c.if-not-starts.false (strip_prefix_is Decides-eqb c.args.text.now marker c.strip_prefix.result c.strip_prefix.ensures.cases)
