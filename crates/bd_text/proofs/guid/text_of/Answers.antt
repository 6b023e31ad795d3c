use Rattle.std.proofs.Common.{ap, ◌∙◌, arith}
use Rattle.bd_text.specs.Guid.{fields_text}
use Rattle.bd_text.proofs.guid.text_of.Goals as goal

pub returns : goal.returns
returns c = record {
  printed = c.text.ensures.printed ∙ ap fields_text c.fields_of.ensures.value;
  spelled = record {
    sixteen = record { size = c.requires; small = λ i. omega (arith, c.type_inv.bytes i) };
    fields = rw c.fields_of.ensures.value at c.text.ensures.spelled;
  };
}
