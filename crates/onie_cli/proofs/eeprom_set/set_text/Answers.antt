use Rattle.std.proofs.Common.{◌≡◌, refl, subst, ◌∙◌}
use Rattle.onie_modes.specs.declared.exit.RefusedKind.{RefusedKind}
use Rattle.onie_modes.specs.declared.exit.RefusedKind.TheVariants as refusals
use Rattle.tlvinfo.specs.Editing.{HasNoRoom, with_value}
use Rattle.onie_cli.specs.EepromSet.{IsRefusedChange}
use Rattle.onie_cli.proofs.eeprom_set.set_text.Goals as goal

pub returns-in-Err-TooLong-clause-refused : goal.returns-in-Err-TooLong-clause-refused
returns-in-Err-TooLong-clause-refused c = λ kind e.
    let no_room : HasNoRoom c.args.code c.deref.result.now c.args.info.now = c.set.ensures.too_long.0 (c.in-Err-TooLong.is ∙ rw c.in-Err-TooLong.field-0-is refl) in
    let same : refusals.TooLong ≡ kind = cc in
    subst (λ (k : RefusedKind). IsRefusedChange c.args.code c.args.text.now c.args.info.now k) same (
      with_value c.args.code c.in-Some.value.items c.args.info.now,
      record { no_checksum = no_room.no_checksum; value = c.in-Some.value.items; spells = c.in-Some.ensures.sound; is = refl },
      rw (← c.deref.ensures.0) no_room.long,
    )
