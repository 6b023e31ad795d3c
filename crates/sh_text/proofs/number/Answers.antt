use Rattle.std.proofs.Common.{arith, sym, ◌∙◌, refl}
use Rattle.sh_text.specs.declared.Class.TheVariants.{Digits}
use Rattle.sh_text.specs.Front.{number, Text}
use Rattle.sh_text.proofs.Front.{one_more, joined_more, ended, nothing_left, run_stays}
use Rattle.sh_text.proofs.number.Goals as goal

pub run-init : goal.run-init
unfolding number
run-init c = record { value = refl; fits = omega arith }

pub returns-in-None : goal.returns-in-None
returns-in-None c = ended c.run.rest.now c.run.number (number c.args.text.now) (nothing_left c.run.rest.now c.in-None.ensures) c.run.invariant.fits c.run.invariant.value

pub run-preserved-then-is_digit : goal.run-preserved-then-is_digit
run-preserved-then-is_digit c = record {
  value = one_more c.run.rest.now c.in-Some.pair.1.now c.in-Some.pair.0 c.run.number c.appended-number.result (number c.args.text.now) c.in-Some.ensures (sym c.is_digit.ensures ∙ c.if-is_digit.true) c.appended-number.ensures c.run.invariant.value;
  fits = omega (arith, c.appended-number.ensures);
}

pub run-preserved : goal.run-preserved
run-preserved c = record { value = joined_more c.run.rest.now c.in-Some-past_join.after.now c.run.number (number c.args.text.now) c.in-Some-past_join.ensures c.run.invariant.value; fits = c.run.invariant.fits }

pub returns-in-None-past_join : goal.returns-in-None-past_join
returns-in-None-past_join c = ended c.run.rest.now c.run.number (number c.args.text.now) (run_stays Digits c.in-Some.pair.0 c.in-Some.pair.1.now c.run.rest.now c.in-Some.ensures (sym c.is_digit.ensures ∙ c.if-is_digit.false) c.in-None-past_join.ensures) c.run.invariant.fits c.run.invariant.value
