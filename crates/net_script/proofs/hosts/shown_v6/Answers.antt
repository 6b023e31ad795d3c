use Rattle.std.proofs.Common.{◌≡◌, ◌++◌, ◌∷◌, [], List, ℕ, append_assoc, sym, ◌∙◌, ap, rules}
use Rattle.net_script.proofs.hosts.shown_v6.Goals as goal

pub returns-clause-one : goal.returns-clause-one
returns-clause-one c = λ shown shows.
    let text = c.text.result.bytes in
    let zone = c.args.zone.now in
    let printed : shows.printed ≡ text = c.text.ensures.one shows.printed shows.prints in
    let pushed : c.push_slice-3.new.self ≡ 0x5B ∷ (text ++ (zone ++ 0x5D ∷ [])) = search (rules, append_assoc) in
    pushed ∙ ap (λ (l : List ℕ). 0x5B ∷ (l ++ (zone ++ 0x5D ∷ []))) (sym printed) ∙ sym shows.is
