use Rattle.std.proofs.Common.{◌<◌, ◌^◌, ap, ◌∙◌, arith}
use Rattle.std.specs.Result.{result_ok}
use Rattle.std.proofs.lemmas.Fmt.{parse-decimal}
use Rattle.net_script.proofs.Decimals.{accepted, same_text}
use Rattle.net_script.proofs.numbers.parsed.Goals as goal

pub returns-in_err-ok : goal.returns-in_err-ok
returns-in_err-ok c = λ n written.
    let ok = accepted c.from_utf8.result _ _ n c.args.word.now written.fits written.digits c.from_utf8.ensures.cases in
    let refused = c.in_err-ok.ensures.variant in
    absurd cc

pub returns : goal.returns
returns c = λ n written.
    let text = same_text c.from_utf8.result c.in_ok-ok.field-0 c.args.word.now _ _ c.in_ok-ok.ensures.value c.from_utf8.ensures.cases in
    let fits : n < 2 ^ 32 = written.fits in
    let parsed = parse-decimal 32 n c.in_ok-ok.field-0.now c.parse.result fits (omega arith) (text ∙ written.digits) c.parse.ensures.value.0 in
    c.ok-2.ensures.value ∙ ap result_ok parsed
