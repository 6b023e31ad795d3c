use Rattle.std.proofs.Common.{◌≡◌, ℕ, ◌/◌, false, length, Option, Some, None, Err, Ok, inl, inr, refl, sym, ◌∙◌, ap, subst}
use Rattle.bd_dev.specs.declared.plant.Area.TheVariants.{Disk}
use Rattle.board.specs.declared.fault.BoardFault.{BoardFault}
use Rattle.board.specs.declared.fault.BoardFault.TheVariants.{Fault, Memory, OnTable, Range}
use Rattle.bd_dev.proofs.Joins.{writes_none}
use Rattle.storage_model.specs.Copies.{touches_copies}
use Rattle.board.specs.Changes.{IsAnswer, put_refusal}
use Rattle.cuts.specs.declared.effect.Effect.TheVariants.{Put}
use Rattle.board.proofs.Keeping.{keeps_now, keeps_put, keeps_still}
use Rattle.board.proofs.Leaving.{is_after, may_run}
use Rattle.board.proofs.Refusing.{has_room, is_lawful, not_refused, on_table, past_end}
use Rattle.board.proofs.board.Board.put.Goals as goal

pub returns-then-passes_end-clause-answer : goal.returns-then-passes_end-clause-answer
returns-then-passes_end-clause-answer g c =
    let n = length c.args.bytes.now / 512 in
    let why : put_refusal ((g.P.Plant.view c.args.self.now.plant.now).size Disk) c.args.lba n ≡ Some Range =
    ap (λ (s : ℕ). put_refusal s c.args.lba n) (sym c.sectors-sectors.ensures) ∙ past_end c.sectors-sectors.result c.args.lba n (sym c.passes_end.ensures ∙ c.if-passes_end.true) in
    subst (λ (why : Option BoardFault). IsAnswer why (Err Range)) (sym why) refl

pub returns-then-passes_end-clause-keeps : goal.returns-then-passes_end-clause-keeps
returns-then-passes_end-clause-keeps g c = keeps_now (g.P.Plant.view c.args.self.now.plant.now) c.args.self.now.held (g.met.P.Plant.honest c.args.self.now.plant.now) c.requires.live

pub returns-then-touches_copy-clause-answer : goal.returns-then-touches_copy-clause-answer
returns-then-touches_copy-clause-answer g c =
    let n = length c.args.bytes.now / 512 in
    let why : put_refusal ((g.P.Plant.view c.args.self.now.plant.now).size Disk) c.args.lba n ≡ Some OnTable =
    ap (λ (s : ℕ). put_refusal s c.args.lba n) (sym c.sectors-sectors.ensures) ∙ on_table c.sectors-sectors.result c.args.lba n (sym c.passes_end.ensures ∙ c.if-passes_end.false) (sym c.touches_copy.ensures.is ∙ c.if-touches_copy.true) in
    subst (λ (why : Option BoardFault). IsAnswer why (Err OnTable)) (sym why) refl

pub returns-then-touches_copy-clause-keeps : goal.returns-then-touches_copy-clause-keeps
returns-then-touches_copy-clause-keeps g c = keeps_now (g.P.Plant.view c.args.self.now.plant.now) c.args.self.now.held (g.met.P.Plant.honest c.args.self.now.plant.now) c.requires.live

pub returns-in-Err-clause-answer : goal.returns-in-Err-clause-answer
returns-in-Err-clause-answer g c =
    let n = length c.args.bytes.now / 512 in
    let why : put_refusal ((g.P.Plant.view c.args.self.now.plant.now).size Disk) c.args.lba n ≡ None =
    ap (λ (s : ℕ). put_refusal s c.args.lba n) (sym c.sectors-sectors.ensures) ∙ not_refused c.sectors-sectors.result c.args.lba n (sym c.passes_end.ensures ∙ c.if-passes_end.false) (sym c.touches_copy.ensures.is ∙ c.if-touches_copy.false) in
    subst (λ (why : Option BoardFault). IsAnswer why (Err Memory)) (sym why) (inr (inr refl))

pub returns-in-Err-clause-keeps : goal.returns-in-Err-clause-keeps
returns-in-Err-clause-keeps g c =
    let h = c.args.self.now.held in
    keeps_still (g.P.Plant.view c.args.self.now.plant.now) h _ (g.met.P.Plant.honest c.args.self.now.plant.now) c.requires.live
    (λ i. record { table = h.table; vars = h.vars; journal = c.in-Err.ensures.unchanged i; failed = h.failed })

pub returns-in-Err-write_sectors-clause-answer : goal.returns-in-Err-write_sectors-clause-answer
returns-in-Err-write_sectors-clause-answer g c =
    let n = length c.args.bytes.now / 512 in
    let why : put_refusal ((g.P.Plant.view c.args.self.now.plant.now).size Disk) c.args.lba n ≡ None =
    ap (λ (s : ℕ). put_refusal s c.args.lba n) (sym c.sectors-sectors.ensures) ∙ not_refused c.sectors-sectors.result c.args.lba n (sym c.passes_end.ensures ∙ c.if-passes_end.false) (sym c.touches_copy.ensures.is ∙ c.if-touches_copy.false) in
    subst (λ (why : Option BoardFault). IsAnswer why (Err Fault)) (sym why) (inr (inl refl))

pub returns-in-Err-write_sectors-clause-keeps : goal.returns-in-Err-write_sectors-clause-keeps
returns-in-Err-write_sectors-clause-keeps g c =
    let view = g.P.Plant.view c.args.self.now.plant.now in
    let live = c.requires.live in
    let room = has_room (view.size Disk) c.args.self.now.held.table live.fits in
    let off : touches_copies (view.size Disk) c.args.lba (length c.args.bytes.now / 512) ≡ false =
    ap (λ (s : ℕ). touches_copies s c.args.lba (length c.args.bytes.now / 512)) (sym c.sectors-sectors.ensures) ∙ sym c.touches_copy.ensures.is ∙ c.if-touches_copy.false in
    let lawful = is_lawful (view.size Disk) c.args.lba c.args.bytes.now room c.requires.whole c.requires.some c.requires.few off in
    keeps_put view (g.P.Plant.view c.write_sectors.new.plant) c.args.self.now.held _ c.args.lba c.args.bytes.now (g.met.P.Plant.honest c.write_sectors.new.plant) live lawful
    c.in-Err-write_sectors.ensures.touches refl refl c.in_default.ensures.noted (λ t. inl refl)

pub returns-clause-answer : goal.returns-clause-answer
returns-clause-answer g c =
    let n = length c.args.bytes.now / 512 in
    let why : put_refusal ((g.P.Plant.view c.args.self.now.plant.now).size Disk) c.args.lba n ≡ None =
    ap (λ (s : ℕ). put_refusal s c.args.lba n) (sym c.sectors-sectors.ensures) ∙ not_refused c.sectors-sectors.result c.args.lba n (sym c.passes_end.ensures ∙ c.if-passes_end.false) (sym c.touches_copy.ensures.is ∙ c.if-touches_copy.false) in
    subst (λ (why : Option BoardFault). IsAnswer why (Ok tt)) (sym why) (inl refl)

pub returns-clause-keeps : goal.returns-clause-keeps
returns-clause-keeps g c =
    let view = g.P.Plant.view c.args.self.now.plant.now in
    let live = c.requires.live in
    let room = has_room (view.size Disk) c.args.self.now.held.table live.fits in
    let off : touches_copies (view.size Disk) c.args.lba (length c.args.bytes.now / 512) ≡ false =
    ap (λ (s : ℕ). touches_copies s c.args.lba (length c.args.bytes.now / 512)) (sym c.sectors-sectors.ensures) ∙ sym c.touches_copy.ensures.is ∙ c.if-touches_copy.false in
    let lawful = is_lawful (view.size Disk) c.args.lba c.args.bytes.now room c.requires.whole c.requires.some c.requires.few off in
    keeps_put view (g.P.Plant.view c.write_sectors.new.plant) c.args.self.now.held _ c.args.lba c.args.bytes.now (g.met.P.Plant.honest c.write_sectors.new.plant) live lawful
    c.in_default-write_sectors.ensures.touches refl refl c.in_default.ensures.noted (λ t. inr (c.in_default-write_sectors.ensures.bytes t))

pub returns-clause-live : goal.returns-clause-live
returns-clause-live g c = (returns-clause-keeps g c).live c.requires.live.live

pub returns-in-Err-write_sectors-clause-leaves : goal.returns-in-Err-write_sectors-clause-leaves
returns-in-Err-write_sectors-clause-leaves g c = may_run (Put c.args.lba c.args.bytes.now) (g.P.Plant.view c.args.self.now.plant.now) (g.P.Plant.view c.write_sectors.new.plant) c.args.self.now.held _
    (returns-in-Err-write_sectors-clause-keeps g c) (record { effects = c.in_default.ensures.noted; failed = refl })

pub returns-clause-leaves : goal.returns-clause-leaves
returns-clause-leaves g c = is_after (Put c.args.lba c.args.bytes.now) (g.P.Plant.view c.args.self.now.plant.now) (g.P.Plant.view c.write_sectors.new.plant) c.args.self.now.held _
    (returns-clause-keeps g c) (record { effects = c.in_default.ensures.noted; failed = c.requires.live.live })

pub returns-then-passes_end-clause-wears : goal.returns-then-passes_end-clause-wears
returns-then-passes_end-clause-wears g c = λ t. let v = g.P.Plant.view c.args.self.now.plant.now in writes_none Disk (length c.args.bytes.now / 512) v v refl

pub returns-then-touches_copy-clause-wears : goal.returns-then-touches_copy-clause-wears
returns-then-touches_copy-clause-wears g c = λ t. let v = g.P.Plant.view c.args.self.now.plant.now in writes_none Disk (length c.args.bytes.now / 512) v v refl

pub returns-in-Err-clause-wears : goal.returns-in-Err-clause-wears
returns-in-Err-clause-wears g c = λ t. let v = g.P.Plant.view c.args.self.now.plant.now in writes_none Disk (length c.args.bytes.now / 512) v v refl
