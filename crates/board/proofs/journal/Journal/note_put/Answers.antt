use Rattle.std.proofs.Common.{◌≡◌, ◌≤◌, ◌+◌, ◌/◌, ◌++◌, ◌∷◌, [], min, length, refl, sym, ◌∙◌, ap, arith}
use Rattle.std.specs.Prelude.{vec_capacity}
use Rattle.std.proofs.lemmas.List.{length-append}
use Rattle.cuts.specs.declared.effect.Effect.TheVariants.{Put}
use Rattle.board.specs.Journal.{total_of}
use Rattle.board.proofs.Noting.{room_made, total_more}
use Rattle.board.proofs.journal.Journal.note_put.Goals as goal

pub invariant_of-self-2 : goal.invariant_of-self-2
invariant_of-self-2 c =
    let has = c.self.invariant.0 in
    let sectors = c.in_ok-sectors.sectors in
    let was = c.in_ok-reserve.ensures in
    let items : c.push_reserved.new.self.items ≡ c.self.inside.effects.items ++ Put c.args.lba sectors ∷ [] = c.push_reserved.ensures.items ∙ ap (λ l. l ++ Put c.args.lba sectors ∷ []) was.items in
    let longer : length c.push_reserved.new.self.items ≡ length c.self.inside.effects.items + 1 = ap length items ∙ length-append c.self.inside.effects.items (Put c.args.lba sectors ∷ []) in
    let fits : length c.push_reserved.new.self.items + length c.self.inside.texts.items ≤ vec_capacity c.push_reserved.new.self =
    omega (arith, longer, was.ok, was.len, c.len.ensures, c.push_reserved.ensures.capacity, c.self.inside.texts.ok.0, c.self.inside.effects.ok.0) in (
      room_made (vec_capacity c.self.inside.effects) (length c.self.inside.effects.items) (length c.push_reserved.new.self.items) c.self.inside.texts.items c.self.inside.texts.items has refl (vec_capacity c.push_reserved.new.self) fits,
      c.saturating_add-self-inside.ensures
          ∙ (λ i. min (c.self.invariant.1 i + length (sym c.in_ok-sectors.ensures i) / 512) 18446744073709551615)
          ∙ sym (total_more c.self.inside.effects.items (Put c.args.lba sectors)) ∙ ap total_of (sym items),
    )
