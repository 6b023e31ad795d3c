use Rattle.std.proofs.Common.{length, ◌≡◌, take, get_or, ap, ◌∙◌, refl, arith}
use Rattle.std.specs.Prelude.{map}
use Rattle.std.proofs.lemmas.List.{get_or_default, take_all}
use Rattle.bd_text.specs.declared.digits.Case.TheVariants.{Lower}
use Rattle.bd_text.specs.Digits.{shortest}
use Rattle.bd_text.specs.Octet.{SpellsOctet}
use Rattle.bd_text.specs.V4.{v4_text}
use Rattle.bd_text.proofs.ShortestLemmas.{SpellsOctet-shortest}
use Rattle.bd_text.proofs.Joins.{join-more, length-marked}
use Rattle.bd_text.proofs.Zips.{zip-map}
use Rattle.bd_text.proofs.v4.octets_text.Goals as goal

pub loop-place-preserved : goal.loop-place-preserved
loop-place-preserved c =
    let bytes = c.args.bytes.now in
    let i = c.loop-place.place in
    let more = join-more 46 (shortest Lower 10) bytes i c.loop-place-test.true in
    let marked = length-marked 46 i c.loop-place.text.bytes in
    record {
      printed = c.push_shortest.ensures.bytes ∙ rw (c.push_mark.ensures, c.from.ensures, c.loop-place.invariant.printed, more) refl;
      short = omega (arith, ap length c.push_mark.ensures);
    }

pub returns-clause-spelled : goal.returns-clause-spelled
returns-clause-spelled c =
    let bytes = c.args.bytes.now in
    let all : take c.loop-place.place bytes ≡ bytes = take_all c.loop-place.place bytes c.loop-place-test.false in
    record {
      four = c.requires;
      octets = record {
        parts = map (shortest Lower 10) bytes;
        each = zip-map (SpellsOctet) (shortest Lower 10) bytes (λ k d inside. SpellsOctet-shortest (get_or bytes k d) (rw (get_or_default bytes k d 0 inside) (omega (arith, c.type_inv.bytes k))));
        joined = c.loop-place.invariant.printed ∙ ap v4_text all;
      };
    }
