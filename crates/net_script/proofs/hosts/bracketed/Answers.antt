use Rattle.std.proofs.Common.{◌≡◌, ◌++◌, ◌∷◌, [], ℕ, List, Some, ap, ◌∙◌}
use Rattle.std.proofs.lemmas.Bool.Decides.{Decides-eqb}
use Rattle.std.proofs.lemmas.Slice.Eq.{strip_prefix_is, strip_suffix_is}
use Rattle.net_script.proofs.hosts.bracketed.Goals as goal

pub returns-clause-found : goal.returns-clause-found
returns-clause-found c =
    let front : c.args.host.now ≡ 0x5B ∷ c.in_ok-inner.inner.now = strip_prefix_is Decides-eqb c.args.host.now (0x5B ∷ []) (Some c.in_ok-inner.inner) c.in_ok-inner.ensures.cases in
    let back : c.in_ok-inner.inner.now ≡ c.in_ok-inner-2.inner.now ++ 0x5D ∷ [] = strip_suffix_is Decides-eqb c.in_ok-inner.inner.now (0x5D ∷ []) (Some c.in_ok-inner-2.inner) c.in_ok-inner-2.ensures.cases in
    front ∙ ap (λ (l : List ℕ). 0x5B ∷ l) back
