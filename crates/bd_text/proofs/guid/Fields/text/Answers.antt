use Rattle.std.proofs.Common.{◌≡◌, ◌∙◌}
use Rattle.bd_text.specs.declared.digits.Case.TheVariants.{Lower}
use Rattle.bd_text.specs.Digits.{numeral}
use Rattle.bd_text.specs.Fields.{written}
use Rattle.bd_text.specs.Guid.{fields_text}
use Rattle.bd_text.proofs.GuidLemmas.{appended, SpellsFields-printed}
use Rattle.bd_text.proofs.guid.Fields.text.Goals as goal

pub returns : goal.returns
returns c =
    let f = c.args.self in
    let printed : c.push_field-4.new.text.bytes ≡ fields_text (written c.args.self) =
    c.push_field-4.ensures.bytes
    ∙ rw (c.push_field-3.ensures.bytes, c.push_field-2.ensures.bytes, c.push_field.ensures.bytes, c.push_numeral.ensures.bytes, c.new-text.ensures, c.from.ensures, c.from-2.ensures, c.from-3.ensures, c.from-4.ensures)
    (appended (numeral Lower 16 8 f.low) (numeral Lower 16 4 f.middle) (numeral Lower 16 4 f.high) (numeral Lower 16 4 f.clock) (numeral Lower 16 12 f.node)) in
    record { printed = printed; spelled = rw printed (SpellsFields-printed f c.requires) }
