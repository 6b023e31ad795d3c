use Rattle.std.proofs.Common.{◌≡◌, ℕ, Some, Err, ap, sym, subst, ◌∙◌, arith}
use Rattle.std.specs.Option.{ForSome}
use Rattle.bd_dev.specs.Faults.{Rose}
use Rattle.tlvinfo.specs.Encoding.{overwritten}
use Rattle.tlvinfo.specs.TlvInfo.{spelling}
use Rattle.onie_modes.specs.Devices.{seen, with_eeprom}
use Rattle.onie_modes.specs.Running.{Runs}
use Rattle.onie_modes.specs.declared.exit.Status.{Status}
use Rattle.onie_cli.specs.EepromSet.{sets_field}
use Rattle.onie_cli.proofs.SettingField.{ends_refused, ends_stored, ends_unstored, ends_without_fields, stored_as}
use Rattle.onie_cli.proofs.eeprom_set.set_field.Goals as goal

pub returns-in-Err : goal.returns-in-Err
returns-in-Err g c = record {
  runs = λ d.
      subst (λ (s : Status). Runs (sets_field c.args.code c.args.text.now) (with_eeprom d (seen (g.E.Eeprom.content c.args.eeprom.now) (g.E.Eeprom.faults c.args.eeprom.now))) (with_eeprom d (seen (g.E.Eeprom.content c.load_info.new.eeprom) (g.E.Eeprom.faults c.load_info.new.eeprom))) s) (sym c.status.ensures)
      (ends_without_fields c.args.code c.args.text.now (with_eeprom d (seen (g.E.Eeprom.content c.args.eeprom.now) (g.E.Eeprom.faults c.args.eeprom.now))) (seen (g.E.Eeprom.content c.load_info.new.eeprom) (g.E.Eeprom.faults c.load_info.new.eeprom)) c.in-Err.fault c.in-Err.ensures.cause c.load_info.ensures.kept
      (λ kind e. c.in-Err.ensures.refused kind (ap Err e)) (λ kind e. c.in-Err.ensures.tlv kind (ap Err e)));
}

pub returns-in-Err-Refused : goal.returns-in-Err-Refused
returns-in-Err-Refused g c = record {
  runs = λ d.
      ends_refused c.args.code c.args.text.now (with_eeprom d (seen (g.E.Eeprom.content c.args.eeprom.now) (g.E.Eeprom.faults c.args.eeprom.now))) (seen (g.E.Eeprom.content c.load_info.new.eeprom) (g.E.Eeprom.faults c.load_info.new.eeprom)) c.in-Ok.info c.in-Err-Refused.kind
      (record { found = c.in-Ok.ensures.found; kept = c.load_info.ensures.kept; quiet = c.in-Ok.ensures.cause.quiet (λ e. cc) })
      (c.set_text.ensures.refused c.in-Err-Refused.kind (c.in-Err-Refused.is ∙ ap Err c.in-Err-Refused.field-0-is))
      (λ changed can. let memory = c.in-Err-Refused.ensures.exact changed can in let same = sym c.in-Err-Refused.field-0-is ∙ memory in cc);
}

pub returns-in-Ok-store : goal.returns-in-Ok-store
returns-in-Ok-store g c = record {
  runs = λ d.
      let kept = c.load_info.ensures.kept in
      let stored : ForSome (g.E.Eeprom.content c.args.eeprom.now) (λ bytes. g.E.Eeprom.content c.store.new.self ≡ Some (overwritten (spelling c.set_text.new.info) bytes)) = (λ bytes told. stored_as _ _ (spelling c.set_text.new.info) c.encode.new.out bytes c.in-Ok-encode.size c.in-Ok-encode.ensures.size (_, c.in-Ok-encode.ensures.written) c.in-Ok-store.ensures.stored (kept ∙ told)) in
      ends_stored c.args.code c.args.text.now (with_eeprom d (seen (g.E.Eeprom.content c.args.eeprom.now) (g.E.Eeprom.faults c.args.eeprom.now))) (seen (g.E.Eeprom.content c.store.new.self) (g.E.Eeprom.faults c.store.new.self)) c.in-Ok.info c.set_text.new.info (record { found = c.in-Ok.ensures.found; is = c.in-Ok-set_text.ensures.changed; only = c.in-Ok-set_text.ensures.only })
      (c.in-Ok-store.ensures.cause.quiet ∙ c.in-Ok.ensures.cause.quiet (λ e. cc)) stored;
}

pub returns : goal.returns
returns g c = record {
  runs = λ d.
      let quiet = c.in-Ok.ensures.cause.quiet (λ e. cc) in
      let later = c.store.ensures.cause.later in
      let failed : Rose (g.E.Eeprom.faults c.load_info.new.eeprom) (g.E.Eeprom.faults c.store.new.self) = c.in-Err-store.ensures.cause.failed in
      ends_unstored c.args.code c.args.text.now (with_eeprom d (seen (g.E.Eeprom.content c.args.eeprom.now) (g.E.Eeprom.faults c.args.eeprom.now))) (seen (g.E.Eeprom.content c.store.new.self) (g.E.Eeprom.faults c.store.new.self)) c.in-Ok.info c.set_text.new.info (record { found = c.in-Ok.ensures.found; is = c.in-Ok-set_text.ensures.changed; only = c.in-Ok-set_text.ensures.only })
      (omega (arith, quiet, later)) (subst (λ (n : ℕ). Rose n (g.E.Eeprom.faults c.store.new.self)) quiet failed);
}
