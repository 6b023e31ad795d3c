use Rattle.std.proofs.Common.{◌≡◌, ◌≤◌, ◌+◌, ◌++◌, ◌∷◌, [], length, sym, ◌∙◌, ap, arith}
use Rattle.std.specs.Prelude.{vec_capacity}
use Rattle.std.proofs.lemmas.List.{length-append}
use Rattle.board.specs.Journal.{total_of}
use Rattle.board.proofs.Noting.{room_none, room_taken, total_same}
use Rattle.board.proofs.journal.Journal.note.Goals as goal

pub invariant_of-self : goal.invariant_of-self
invariant_of-self c =
    let has = c.self.invariant.0 in
    let items : c.push_reserved.new.self.items ≡ c.self.inside.effects.items ++ c.args.effect ∷ [] = c.push_reserved.ensures.items in
    let longer : length c.push_reserved.new.self.items ≡ length c.self.inside.effects.items + 1 = ap length items ∙ length-append c.self.inside.effects.items (c.args.effect ∷ []) in
    let capacity : vec_capacity c.push_reserved.new.self ≡ vec_capacity c.self.inside.effects = c.push_reserved.ensures.capacity in (
      room_taken (vec_capacity c.self.inside.effects) (vec_capacity c.push_reserved.new.self) (length c.self.inside.effects.items) (length c.push_reserved.new.self.items) c.self.inside.texts.items c.pop.new.self.items c.in-Some._text has c.in-Some.ensures.items (omega arith) (omega arith),
      c.self.invariant.1 ∙ sym (ap total_of items ∙ total_same c.self.inside.effects.items c.args.effect c.requires),
    )

pub invariant_of-self-in-Continue-1 : goal.invariant_of-self-in-Continue-1
invariant_of-self-in-Continue-1 c =
    let items : c.push.new.self.items ≡ c.self.inside.effects.items ++ c.args.effect ∷ [] = c.in_ok-push-in-None.ensures.items in
    let fits : length c.push.new.self.items ≤ vec_capacity c.push.new.self = omega (arith, c.push.new.self.ok.0, c.push.new.self.ok.1) in
    let none : length c.pop.new.self.items ≡ 0 = omega (arith, c.pop.new.self.ok.0, c.in-None.ensures.cases.1) in (
      room_none (vec_capacity c.push.new.self) (length c.push.new.self.items) c.pop.new.self.items none fits,
      c.self.invariant.1 ∙ sym (ap total_of items ∙ total_same c.self.inside.effects.items c.args.effect c.requires),
    )
