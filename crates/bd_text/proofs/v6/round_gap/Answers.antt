use Rattle.std.proofs.Common.{◌≡◌, ◌+◌, ◌-◌, ◌≤◌, ◌++◌, List, ℕ, length, replicate, take, drop, sym, ap, ◌∙◌, refl, arith}
use Rattle.std.proofs.lemmas.List.{take_rest}
use Rattle.bd_text.proofs.GapLemmas.{gap-head, gap-sizes, gap-split, gap-tail}
use Rattle.bd_text.proofs.GroupLemmas.{filled-size}
use Rattle.bd_text.proofs.v6.round_gap.Goals as goal

pub returns-in_err-before-clause-only : goal.returns-in_err-before-clause-only
returns-in_err-before-clause-only c = λ gs size spelled.
    let sizes = gap-sizes gs c.args.text.now spelled in
    let head = gap-head gs c.args.text.now c.args.place c.requires spelled in
    absurd (c.in_err-before.ensures.only spelled.before (omega arith) (rw head spelled.sides.head_is))

pub returns-in_err-after-clause-only : goal.returns-in_err-after-clause-only
returns-in_err-after-clause-only c = λ gs size spelled.
    let sizes = gap-sizes gs c.args.text.now spelled in
    let tail = gap-tail gs c.args.text.now c.args.place c.requires spelled in
    absurd (c.in_err-after.ensures.only spelled.after (omega arith) (rw (take_rest, tail) spelled.sides.tail_is))

pub returns-then-len-gt7-clause-only : goal.returns-then-len-gt7-clause-only
returns-then-len-gt7-clause-only c = λ gs size spelled.
    let sizes = gap-sizes gs c.args.text.now spelled in
    let some = spelled.some in
    let head = gap-head gs c.args.text.now c.args.place c.requires spelled in
    let tail = gap-tail gs c.args.text.now c.args.place c.requires spelled in
    let before = c.in_ok-before.ensures.only spelled.before (omega arith) (rw head spelled.sides.head_is) in
    let after = c.in_ok-after.ensures.only spelled.after (omega arith) (rw (take_rest, tail) spelled.sides.tail_is) in
    absurd (omega (arith, c.len.ensures.value, c.len-2.ensures.value, ap length before, ap length after))

pub returns : goal.returns
returns c =
    let text = c.args.text.now in
    let place = c.args.place in
    let before : List ℕ = c.in_ok-before.before.items in
    let after : List ℕ = c.in_ok-after.after.items in
    let few : length c.in_ok-before.before.items + length c.in_ok-after.after.items ≤ 7 = omega (arith, c.len.ensures.value, c.len-2.ensures.value) in
    let made : c.filled.result ≡ c.in_ok-before.before.items ++ (replicate (8 - (length c.in_ok-before.before.items + length c.in_ok-after.after.items)) 0 ++ c.in_ok-after.after.items) = c.filled.ensures ∙ rw (c.deref.ensures.0, c.deref-2.ensures.0) refl in
    record {
      size = ap length made ∙ filled-size before after few;
      sound = record {
        before = before;
        after = after;
        zeros = 8 - (length c.in_ok-before.before.items + length c.in_ok-after.after.items);
        some = omega arith;
        groups_are = made;
        sides = record {
          head = take place text;
          tail = drop (place + 2) text;
          head_is = c.in_ok-before.ensures.sound;
          tail_is = rw take_rest at c.in_ok-after.ensures.sound;
          text_is = gap-split text place c.requires;
        };
      };
      only = λ gs size spelled.
          let sizes = gap-sizes gs c.args.text.now spelled in
          let head = gap-head gs c.args.text.now c.args.place c.requires spelled in
          let tail = gap-tail gs c.args.text.now c.args.place c.requires spelled in
          let same_before = c.in_ok-before.ensures.only spelled.before (omega arith) (rw head spelled.sides.head_is) in
          let same_after = c.in_ok-after.ensures.only spelled.after (omega arith) (rw (take_rest, tail) spelled.sides.tail_is) in
          let zeros : 8 - (length spelled.before + length spelled.after) ≡ spelled.zeros = omega arith in
          made ∙ rw (same_before, same_after, zeros) (sym spelled.groups_are);
    }
