use Rattle.std.proofs.Common.{length, true, false, sym, ◌∙◌, ap}
use Rattle.storage_model.specs.Variables.{Variable}
use Rattle.boot_vars.proofs.Answering.{after_names, fits_is, put_never}
use Rattle.boot_vars.proofs.vars.BootVars.may_set.Goals as goal

pub returns-then-not-has_room : goal.returns-then-not-has_room
returns-then-not-has_room c = record {
  never = λ e. cc;
  answer = λ vs spells.
      let v : Variable = record { name = c.args.name.now; value = c.args.value.now } in
      let full = fits_is c.args.self.now.text c.text-text.result.now v c.place_of-place.result.at c.place_of-place.result.size (length c.text-text.result.now) vs c.text-text.ensures.bytes (ap length (sym c.text-text.ensures.bytes)) c.place_of-place.ensures.place spells in
      sym (after_names vs c.args.self.now.pair.number v false (sym c.is_name.ensures ∙ c.if-not-is_name.false) (sym c.is_value.ensures ∙ c.if-not-is_value.false)
      (full ∙ sym c.has_room.ensures ∙ c.if-not-has_room.true));
}

pub returns : goal.returns
returns c = record {
  never = λ e. put_never c.args.self.now.pair.number (sym c.may_put.ensures ∙ e);
  answer = λ vs spells.
      let v : Variable = record { name = c.args.name.now; value = c.args.value.now } in
      let fits = fits_is c.args.self.now.text c.text-text.result.now v c.place_of-place.result.at c.place_of-place.result.size (length c.text-text.result.now) vs c.text-text.ensures.bytes (ap length (sym c.text-text.ensures.bytes)) c.place_of-place.ensures.place spells in
      c.may_put.ensures ∙ sym (after_names vs c.args.self.now.pair.number v true (sym c.is_name.ensures ∙ c.if-not-is_name.false) (sym c.is_value.ensures ∙ c.if-not-is_value.false)
      (fits ∙ sym c.has_room.ensures ∙ c.if-not-has_room.false));
}
