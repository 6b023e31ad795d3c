use Rattle.std.proofs.Common.{ℕ, length, subst, sym, ◌∙◌, take}
use Rattle.bd_sim.specs.Journal.{after_each, before_call, start}
use Rattle.bd_sim.specs.Image.{IsPicked}
use Rattle.bd_sim.proofs.Picking.{IsPicked-none}
use Rattle.bd_sim.proofs.image.fill_image.Goals as goal

pub returns : goal.returns
returns c = λ disk flash first.
    let begins = start disk flash in
    let journal = c.args.journal.now in
    let n = length c.args.first.now in
    let picks = c.args.picks.now in
    let out = c.put_picks.new.out in
    let new : ℕ → ℕ = (after_each begins (take c.noted_with.result journal)).reads c.args.area in
    let old : ℕ → ℕ = (after_each begins (take c.synced_until.result (take c.noted_before.result journal))).reads c.args.area in
    let done : IsPicked old new picks c.args.area n out =
    c.put_picks.ensures disk flash first (IsPicked-none old new c.args.area n c.read_back.new.out (c.read_back.auto.out ∙ c.requires) (c.read_back.ensures disk flash first)) in
    let durable : IsPicked ((after_each begins (take c.noted_before.result journal)).durable c.args.area) new picks c.args.area n out =
    subst (λ (o : ℕ → ℕ). IsPicked o new picks c.args.area n out) (sym (c.synced_until.ensures.durable disk flash)) done in
    let before : IsPicked ((after_each begins (take (before_call journal c.args.moment) journal)).durable c.args.area) new picks c.args.area n out =
    subst (λ (k : ℕ). IsPicked ((after_each begins (take k journal)).durable c.args.area) new picks c.args.area n out) c.noted_before.ensures durable in
    subst (λ (k : ℕ). IsPicked ((after_each begins (take (before_call journal c.args.moment) journal)).durable c.args.area) ((after_each begins (take k journal)).reads c.args.area) picks c.args.area n out) c.noted_with.ensures before
