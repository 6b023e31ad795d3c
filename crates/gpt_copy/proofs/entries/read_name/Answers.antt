use Rattle.std.proofs.Common.{drop, sym, ◌∙◌, ◌*◌, arith}
use Rattle.std.proofs.lemmas.Grind.{get_or_default_zero}
use Rattle.byteorder.specs.Endian.{little_number}
use Rattle.gpt_copy.proofs.Parts.{are_parts, little_two}
use Rattle.gpt_copy.proofs.entries.read_name.Goals as goal

pub returns : goal.returns
returns c = are_parts 2 (little_number 2) 36 c.args.bytes.now c.read_u16_into.new.dst c.read_u16_into.auto.dst (λ k d lt.
    get_or_default_zero c.read_u16_into.new.dst k d (omega (arith, c.read_u16_into.auto.dst)) ∙ c.read_u16_into.ensures k (omega (arith, c.read_u16_into.auto.dst)) ∙ sym (little_two (drop (2 * k) c.args.bytes.now)))
