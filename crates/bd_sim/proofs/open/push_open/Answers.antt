use Rattle.std.proofs.Common.{◌≡◌, ℕ, ◌||◌, List, false, get_or, length, take, ◌∙◌, ap, arith}
use Rattle.std.proofs.lemmas.List.{get_or_default}
use Rattle.bd_sim.specs.Image.{may_tear, unsynced_after}
use Rattle.bd_sim.specs.declared.image.Pick.TheVariants.{Old}
use Rattle.bd_sim.proofs.Opening.{open_more}
use Rattle.bd_sim.proofs.open.push_open.Goals as goal

pub loop-lba-preserved : goal.loop-lba-preserved
loop-lba-preserved c =
    let journal = c.args.journal.now in
    let lba = c.loop-lba.lba in
    let lt = c.loop-lba-test.true in
    let before = c.in_ok-before.before.items in
    let with = c.in_ok-with.with.items in
    let old = c.index.ensures ∙ get_or_default before lba c.index.result.now false (omega (arith, lt, c.in_ok-before.ensures.size)) ∙ c.in_ok-before.ensures.marked lba lt
    ∙ ap (λ (k : ℕ). unsynced_after (take k journal) c.args.area lba) c.noted_before.ensures in
    let new = c.index-in-loop-lba.ensures ∙ get_or_default with lba c.index-in-loop-lba.result.now false (omega (arith, lt, c.in_ok-with.ensures.size)) ∙ c.in_ok-with.ensures.marked lba lt
    ∙ ap (λ (k : ℕ). unsynced_after (take k journal) c.args.area lba) c.noted_with.ensures in
    open_more (λ (s : ℕ). may_tear journal c.args.moment (c.args.area, s, Old)) c.args.area lba c.args.found.now.items c.loop-lba.found.items c.push_if.new.found.items c.is_either.result c.loop-lba.invariant
    (c.is_either.ensures ∙ (λ i. old i || new i)) c.in_ok-push_if.ensures
