use Rattle.std.proofs.Common.{◌<◌, [], length, eqb, sym, ◌∙◌, arith}
use Rattle.std.specs.List.{slice_split}
use Rattle.std.proofs.lemmas.Bool.{eqb-true, eqb-false}
use Rattle.std.proofs.lemmas.List.{nil_from_length}
use Rattle.bd_text.specs.Parts.{SpellsIn}
use Rattle.bd_text.proofs.FormLemmas.{SpellsIn-free, SpellsIn-same}
use Rattle.bd_text.proofs.Joins.{joined-empty, joined-some, joined-split, split-joined}
use Rattle.bd_text.proofs.Zips.{zip-same}
use Rattle.bd_text.proofs.parts.listed.Goals as goal

pub returns-then-is_empty : goal.returns-then-is_empty
returns-then-is_empty c =
    let none = eqb-true (length c.args.text.now) 0 (sym c.is_empty.ensures ∙ c.if-is_empty.true) in
    record {
      sound = rw c.new.ensures (record { parts = []; each = tt; joined = nil_from_length c.args.text.now none });
      only = λ ns few spelled. c.new.ensures ∙ sym (joined-empty (SpellsIn c.args.form) c.args.mark ns c.args.text.now c.requires.filled none spelled);
    }

pub returns-in_err-numbers-clause-only : goal.returns-in_err-numbers-clause-only
returns-in_err-numbers-clause-only c = λ ns few spelled.
    let more = eqb-false (length c.args.text.now) 0 (sym c.is_empty.ensures ∙ c.if-is_empty.false) in
    let some : 0 < length c.args.text.now = omega arith in
    let each = split-joined (SpellsIn c.args.form) c.args.mark ns c.args.text.now (SpellsIn-free c.args.form c.args.mark c.requires.apart) (joined-some (SpellsIn c.args.form) c.args.mark ns c.args.text.now some spelled) spelled in
    absurd (c.in_err-numbers.ensures.only ns few each)

pub returns : goal.returns
returns c =
    let parts = slice_split (λ b. eqb b c.args.mark) c.args.text.now in
    let sound = c.in_ok-numbers.ensures.sound in
    record {
      sound = joined-split (SpellsIn c.args.form) c.args.mark c.in_ok-numbers.numbers.items c.args.text.now sound;
      only = λ ns few spelled.
          let more = eqb-false (length c.args.text.now) 0 (sym c.is_empty.ensures ∙ c.if-is_empty.false) in
          let some : 0 < length c.args.text.now = omega arith in
          let each = split-joined (SpellsIn c.args.form) c.args.mark ns c.args.text.now (SpellsIn-free c.args.form c.args.mark c.requires.apart) (joined-some (SpellsIn c.args.form) c.args.mark ns c.args.text.now some spelled) spelled in
          zip-same (SpellsIn c.args.form) c.in_ok-numbers.numbers.items ns parts (SpellsIn-same c.args.form) sound each;
    }
