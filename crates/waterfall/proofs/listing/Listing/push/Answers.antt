use Rattle.std.proofs.Common.{◌≡◌, List, ◌++◌, ◌∷◌, [], IsOk, ap, sym, subst, ◌∙◌, arith}
use Rattle.waterfall.specs.declared.candidate.Candidate.{Candidate}
use Rattle.waterfall.specs.Firsts.{IsIndex}
use Rattle.waterfall.proofs.Index.{index_more}
use Rattle.waterfall.proofs.listing.Listing.push.Goals as goal

pub invariant_of-self-in-Continue-branch-4 : goal.invariant_of-self-in-Continue-branch-4
invariant_of-self-in-Continue-branch-4 c =
    let same = c.in_ok-text.ensures.items ∙ c.as_slice.ensures in
    let room = c.in_ok-reserve.ensures.ok in
    let ok : IsOk c.push.result = c.push.ensures.succeeds (omega (arith, room)) in
    let items : c.push.new.self.items ≡ c.self.inside.items.items ++ c.args.candidate ∷ [] =
    rw ok at c.push.ensures.items ∙ ap (λ (cs : List Candidate). cs ++ c.args.candidate ∷ []) c.in_ok-reserve.ensures.items in
    subst (λ (cs : List Candidate). IsIndex c.insert.new.self cs) (sym items)
    (index_more c.self.inside.shown c.insert.new.self c.self.inside.items.items c.args.candidate c.in_ok-text.text c.self.invariant same c.in_ok-insert.ensures.keys)
