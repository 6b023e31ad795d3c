use Rattle.std.proofs.Common.{◌/◌, arith, length, replicate}
use Rattle.std.proofs.lemmas.List.{length-take-le}
use Rattle.tlv_text.proofs.Hexadecimal.{length-spelled}
use Rattle.tlv_text.proofs.read.hexadecimal.Goals as goal

pub returns-then-count-gt255-clause-only : goal.returns-then-count-gt255-clause-only
returns-then-count-gt255-clause-only c = λ value spelled.
    let twice = length-spelled value c.args.text.now spelled.paired in
    let short = spelled.short in
    omega arith

pub fill-requires : goal.fill-requires
fill-requires c = length-take-le (length c.args.text.now / 2) (replicate 255 0) (omega arith)

pub returns-clause-only : goal.returns-clause-only
returns-clause-only c = λ value spelled.
    let filled = c.in_ok-fill.ensures.only value spelled.paired in
    c.plain.ensures.only value (record { short = spelled.short; same = filled.1 })
