use Rattle.std.proofs.Common.{length, ◌≡◌, take, get_or, ap, ◌∙◌, refl, arith}
use Rattle.std.specs.Prelude.{map}
use Rattle.std.proofs.lemmas.List.{get_or_default, take_all}
use Rattle.bd_text.specs.declared.digits.Case.TheVariants.{Upper}
use Rattle.bd_text.specs.Digits.{numeral, SpellsHex}
use Rattle.bd_text.specs.Mac.{mac_text}
use Rattle.bd_text.proofs.DigitLemmas.{SpellsHex-numeral}
use Rattle.bd_text.proofs.Joins.{join-more, length-marked}
use Rattle.bd_text.proofs.Zips.{zip-map}
use Rattle.bd_text.proofs.mac.pairs_text.Goals as goal

pub loop-place-preserved : goal.loop-place-preserved
loop-place-preserved c =
    let bytes = c.args.bytes.now in
    let i = c.loop-place.place in
    let more = join-more 58 (numeral Upper 16 2) bytes i c.loop-place-test.true in
    let marked = length-marked 58 i c.loop-place.text.bytes in
    record {
      printed = c.push_numeral.ensures.bytes ∙ rw (c.push_mark.ensures, c.from.ensures, c.loop-place.invariant.printed, more) refl;
      short = omega (arith, ap length c.push_mark.ensures);
    }

pub returns-clause-spelled : goal.returns-clause-spelled
returns-clause-spelled c =
    let bytes = c.args.bytes.now in
    let all : take c.loop-place.place bytes ≡ bytes = take_all c.loop-place.place bytes c.loop-place-test.false in
    record {
      six = c.requires;
      pairs = record {
        parts = map (numeral Upper 16 2) bytes;
        each = zip-map (SpellsHex 2) (numeral Upper 16 2) bytes (λ k d inside. SpellsHex-numeral Upper 2 (get_or bytes k d) (rw (get_or_default bytes k d 0 inside) (omega (arith, c.type_inv.bytes k))));
        joined = c.loop-place.invariant.printed ∙ ap mac_text all;
      };
    }
