use Rattle.std.proofs.Common.{Some, refl, length, ap, ◌∙◌}
use Rattle.std.proofs.lemmas.Option.{slice_get_read, slice_get_within}
use Rattle.arrival_player.proofs.flows.advance_at.Goals as goal

pub returns : goal.returns
returns c =
    let flows = c.args.flows.now.items in
    let within = slice_get_within flows c.args.number (Some c.requires.f) c.requires.here in
    record {
      f = c.in-Some.flow;
      here = slice_get_read flows (length flows) c.args.number c.index_mut.result.now refl within c.index_mut.ensures.value ∙ ap Some c.in-Some.is;
      set = refl;
    }
