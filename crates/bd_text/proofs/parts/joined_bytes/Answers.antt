use Rattle.std.proofs.Common.{◌≡◌, ◌<◌, length, eqb, Some, ap, ◌∙◌, arith}
use Rattle.std.specs.List.{slice_split}
use Rattle.bd_text.specs.Parts.{SpellsIn}
use Rattle.bd_text.proofs.FormLemmas.{SpellsIn-free, SpellsIn-same}
use Rattle.bd_text.proofs.Joins.{joined-split, split-joined}
use Rattle.bd_text.proofs.Zips.{zip-left, zip-same}
use Rattle.bd_text.proofs.parts.joined_bytes.Goals as goal

pub returns-in_err-numbers-clause-only : goal.returns-in_err-numbers-clause-only
returns-in_err-numbers-clause-only g c = λ bytes size spelled.
    let few = c.requires.few in
    let each = split-joined (SpellsIn c.args.form) c.args.mark bytes c.args.text.now (SpellsIn-free c.args.form c.args.mark c.requires.apart) (omega (arith, c.requires.some)) spelled in
    absurd (c.in_err-numbers.ensures.only bytes (omega arith) each)

pub bytes-requires : goal.bytes-requires
bytes-requires g c =
    let numbers = c.in_ok-numbers.numbers.items in
    let parts = slice_split (λ b. eqb b c.args.mark) c.args.text.now in
    let few = c.requires.few in
    (omega arith, rw c.deref.ensures.0 (zip-left (SpellsIn c.args.form) (λ n. n < 256) numbers parts c.requires.bytes c.in_ok-numbers.ensures.sound))

pub returns-in_err-bytes-clause-only : goal.returns-in_err-bytes-clause-only
returns-in_err-bytes-clause-only g c = λ bytes size spelled.
    let few = c.requires.few in
    let each = split-joined (SpellsIn c.args.form) c.args.mark bytes c.args.text.now (SpellsIn-free c.args.form c.args.mark c.requires.apart) (omega (arith, c.requires.some)) spelled in
    let same = c.in_ok-numbers.ensures.only bytes (omega arith) each in
    absurd (c.in_err-bytes.ensures (ap length c.deref.ensures.0 ∙ ap length same ∙ size))

pub returns : goal.returns
returns g c =
    let numbers = c.in_ok-numbers.numbers.items in
    let parts = slice_split (λ b. eqb b c.args.mark) c.args.text.now in
    let sound = c.in_ok-numbers.ensures.sound in
    let known = c.in_ok-bytes.ensures in
    let same : c.in_ok-bytes.bytes ≡ numbers = known.1 ∙ c.deref.ensures.0 in
    record {
      size = ap length known.1 ∙ known.0;
      sound = rw same (joined-split (SpellsIn c.args.form) c.args.mark numbers c.args.text.now sound);
      only = λ bytes size spelled.
          let each = split-joined (SpellsIn c.args.form) c.args.mark bytes c.args.text.now (SpellsIn-free c.args.form c.args.mark c.requires.apart) (omega (arith, c.requires.some)) spelled in
          ap Some (same ∙ zip-same (SpellsIn c.args.form) numbers bytes parts (SpellsIn-same c.args.form) sound each);
    }
