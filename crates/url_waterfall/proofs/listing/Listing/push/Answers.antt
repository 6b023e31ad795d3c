use Rattle.std.proofs.Common.{List, sym, subst, ◌∙◌}
use Rattle.url_waterfall.specs.declared.candidate.Candidate.{Candidate}
use Rattle.url_waterfall.specs.Firsts.{IsIndex}
use Rattle.url_waterfall.proofs.Index.{index_more}
use Rattle.url_waterfall.proofs.listing.Listing.push.Goals as goal

pub returns-in_ok-push-clause-index : goal.returns-in_ok-push-clause-index
returns-in_ok-push-clause-index c =
    let same = c.in_ok-text.ensures.items ∙ c.as_slice.ensures in
    subst (λ (cs : List Candidate). IsIndex c.insert.new.self cs) (sym c.in_ok-push.ensures.items)
    (index_more c.args.self.now.shown c.insert.new.self c.args.self.now.items.items c.args.candidate c.in_ok-text.text c.requires same c.in_ok-insert.ensures.keys)
