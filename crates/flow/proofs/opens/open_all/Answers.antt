use Rattle.std.proofs.Common.{◌≡◌, ◌<◌, ◌+◌, ◌∙◌, arith, get_or, inl, inr, length, set, subst, sym, ap, refl}
use Rattle.std.specs.Prelude.{nat_lt}
use Rattle.std.proofs.lemmas.Bool.Decides.{nat_tests}
use Rattle.std.proofs.lemmas.Option.{slice_get-get_or}
use Rattle.flow.specs.Running.{BeginsAt, IsOpening}
use Rattle.flow.proofs.Calls.{closed_all, test_cases}
use Rattle.flow.proofs.Opening.{opening_none, opening_one}
use Rattle.flow.proofs.opens.open_all.Goals.{else-place-eq0, then-place-eq0}
use Rattle.flow.proofs.opens.open_all.Goals as goal

pub open_one-requires-clause-new : goal.open_one-requires-clause-new
open_one-requires-clause-new g c =
    let lt : c.loop-place.place < length c.loop-place.flows = omega arith in
    let here = slice_get-get_or c.loop-place.flows c.loop-place.place c.index-flows-place.result lt in
    c.requires.new c.loop-place.place _ (c.loop-place.invariant.opening.fresh c.loop-place.place _ (omega arith) here)

pub open_one-requires-clause-room : goal.open_one-requires-clause-room
open_one-requires-clause-room g c =
    let opened = c.loop-place.invariant.opened in let room = c.requires.room in let few = c.requires.few in let lt = c.loop-place-test.true in omega (arith, opened, room, few, lt)

pub loop-place-init : goal.loop-place-init
loop-place-init g c =
    record {
      opening = subst (λ sends. IsOpening g.C.Core.acts g.C.Core.HasBegun (g.N.Net.time c.args.net.now) c.args.round (g.N.Net.opened c.args.net.now) 0 c.args.flows.now c.args.flows.now (g.N.Net.open_flow c.args.net.now) (g.N.Net.rows c.args.net.now) sends (g.N.Net.sent c.args.net.now) (g.N.Net.sent c.args.net.now)) (sym c.requires.nothing)
          (opening_none g.C.Core.acts g.C.Core.HasBegun (g.N.Net.time c.args.net.now) c.args.round (g.N.Net.opened c.args.net.now) c.args.flows.now (g.N.Net.open_flow c.args.net.now) (g.N.Net.rows c.args.net.now) (g.N.Net.sent c.args.net.now) c.requires.few c.requires.closed);
      opened = omega arith;
      zero_first = λ none. none;
      number = λ some. absurd (omega (arith, some));
      time = refl;
      rows = refl;
      faults = refl;
    }

pub loop-place-preserved : goal.loop-place-preserved
loop-place-preserved g c =
    let v = c.loop-place.invariant in
    let e = c.in-Ok.ensures in
    let more = v.opened in
    let lt : c.loop-place.place < length c.loop-place.flows = omega arith in
    let here = slice_get-get_or c.loop-place.flows c.loop-place.place c.index-flows-place.result lt in
    let letters = g.C.Core.acts.begun_letters ((get_or c.loop-place.flows c.loop-place.place c.index-flows-place.result).core) in
    let due = g.C.Core.acts.deadline (g.C.Core.acts.begun ((get_or c.loop-place.flows c.loop-place.place c.index-flows-place.result).core)) in
    let numbered = subst (λ m. BeginsAt (g.N.Net.time c.loop-place.net) c.args.round m ((get_or c.loop-place.flows c.loop-place.place c.index-flows-place.result).label) letters due (g.N.Net.open_flow c.loop-place.net) (g.N.Net.open_flow c.open_one.new.net) c.loop-place.sends.items c.open_one.new.sends.items (g.N.Net.sent c.loop-place.net) (g.N.Net.sent c.open_one.new.net)) more e.begins in
    let begins = subst (λ t. BeginsAt t c.args.round ((g.N.Net.opened c.args.net.now) + c.loop-place.place) ((get_or c.loop-place.flows c.loop-place.place c.index-flows-place.result).label) letters due (g.N.Net.open_flow c.loop-place.net) (g.N.Net.open_flow c.open_one.new.net) c.loop-place.sends.items c.open_one.new.sends.items (g.N.Net.sent c.loop-place.net) (g.N.Net.sent c.open_one.new.net)) v.time numbered in
    record {
      opening = opening_one g.C.Core.acts g.C.Core.IsNew g.C.Core.HasBegun g.met.C.Core.lawful (g.N.Net.time c.args.net.now) c.args.round (g.N.Net.opened c.args.net.now) c.loop-place.place c.args.flows.now c.loop-place.flows (set c.loop-place.flows c.loop-place.place c.open_one.new.flow) (get_or c.loop-place.flows c.loop-place.place c.index-flows-place.result) (g.N.Net.open_flow c.loop-place.net) (g.N.Net.open_flow c.open_one.new.net) (g.N.Net.rows c.args.net.now) c.loop-place.sends.items c.open_one.new.sends.items (g.N.Net.sent c.args.net.now) (g.N.Net.sent c.loop-place.net) (g.N.Net.sent c.open_one.new.net) c.requires.new here (ap (set c.loop-place.flows c.loop-place.place) e.core) v.opening begins;
      opened = (let one = e.opened in omega (arith, one, more));
      zero_first = λ none. absurd (omega (arith, none));
      number = λ some. elim c.if-place-eq0.branch [
        | then-place-eq0 w ↦ (let a = w.first-is in let b = e.number in let z = w.if-place-eq0.true in omega (arith, a, b, z, more))
        | else-place-eq0 w ↦ w.first-is ∙ v.number (let z = w.if-place-eq0.false in omega (arith, z))
      ];
      time = e.time ∙ v.time;
      rows = e.rows ∙ v.rows;
      faults = e.cause.quiet (λ same. cc) ∙ v.faults;
    }

pub close_all-requires : goal.close_all-requires
close_all-requires g c =
    let v = c.loop-place.invariant in let room = c.requires.room in let few = c.requires.few in let lt = c.loop-place-test.true in
    elim (test_cases (nat_lt 0 c.loop-place.place)) [
      | inl t ↦ (let some : 0 < c.loop-place.place = grind (arith, nat_tests) in let e = v.number some in omega (arith, e, room, few, lt))
      | inr t ↦ (let none : c.loop-place.place ≡ 0 = grind (arith, nat_tests) in let e = v.zero_first none in omega (arith, e, none))
    ]

pub returns-clause-opening : goal.returns-clause-opening
returns-clause-opening g c =
    let e : c.loop-place.place ≡ length c.loop-place.flows = omega arith in
    subst (λ m. IsOpening g.C.Core.acts g.C.Core.HasBegun (g.N.Net.time c.args.net.now) c.args.round (g.N.Net.opened c.args.net.now) m c.args.flows.now c.loop-place.flows (g.N.Net.open_flow c.loop-place.net) (g.N.Net.rows c.args.net.now) c.loop-place.sends.items (g.N.Net.sent c.args.net.now) (g.N.Net.sent c.loop-place.net)) e c.loop-place.invariant.opening

pub returns-in-Err-clause-closed : goal.returns-in-Err-clause-closed
returns-in-Err-clause-closed g c =
    closed_all c.loop-place.first (g.N.Net.opened c.args.net.now) c.loop-place.place (g.N.Net.open_flow c.loop-place.net) (g.N.Net.open_flow c.open_one.new.net) (g.N.Net.open_flow c.close_all.new.net)
    c.loop-place.invariant.number c.loop-place.invariant.opening.progress.others c.in-Err.ensures.closed c.close_all.ensures.closed c.close_all.ensures.others
