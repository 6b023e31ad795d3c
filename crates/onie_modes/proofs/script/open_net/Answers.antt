use Rattle.std.proofs.Common.{◌≡◌, Err, ap, inl, inr, sym, subst, ◌∙◌}
use Rattle.net_script.specs.Script.{Answers}
use Rattle.net_script.specs.declared.fault.ScriptFault.{ScriptFault}
use Rattle.onie_modes.proofs.Scripts.{IsFrontOf, bad_of, none_wrong, says_lines, says_wrong}
use Rattle.onie_modes.proofs.script.open_net.Goals as goal

pub returns-in_err-lines-clause-refused : goal.returns-in_err-lines-clause-refused
returns-in_err-lines-clause-refused g c = λ line kind e text told.
    let bad = bad_of c.from_residual-in_err-lines.result c.in_err-lines.field-0.0 line kind c.from_residual-in_err-lines.ensures.1 e in
    inl (says_wrong _ c.as_slice.result.now text line kind (λ bytes held. c.as_slice.ensures ∙ c.in_ok-text.ensures.front bytes held)
    (c.in_err-lines.ensures.bad line kind (ap (λ (f : ScriptFault). Err f) bad))
    (λ other reads. subst (λ (f : ScriptFault). Answers (Err f) other) bad (c.in_err-lines.ensures.only other reads)) told)

pub returns-in_err-new-clause-refused : goal.returns-in_err-new-clause-refused
returns-in_err-new-clause-refused g c = λ line kind e text told.
    let bad = bad_of c.from_residual-in_err-new.result c.in_err-new.field-0.0 line kind c.from_residual-in_err-new.ensures.1 e in
    let lacks = c.in_err-new.ensures.bad line kind (ap (λ (f : ScriptFault). Err f) bad) in
    inr (
      lacks.0,
      record {
        lines = c.in_ok-lines.lines;
        says = says_lines _ c.as_slice.result.now text _ (λ bytes held. c.as_slice.ensures ∙ c.in_ok-text.ensures.front bytes held) c.in_ok-lines.ensures.found c.in_ok-lines.ensures.only told;
        lacks = lacks.1;
      },
    )

pub returns-in_err-new-clause-asked : goal.returns-in_err-new-clause-asked
returns-in_err-new-clause-asked g c = λ e text told line kind.
    none_wrong text _ line kind (says_lines _ c.as_slice.result.now text _ (λ bytes held. c.as_slice.ensures ∙ c.in_ok-text.ensures.front bytes held) c.in_ok-lines.ensures.found c.in_ok-lines.ensures.only told)

pub returns-clause-plays : goal.returns-clause-plays
returns-clause-plays g c = λ text told. record {
  lines = _;
  says = says_lines _ c.as_slice.result.now text _ (λ bytes held. c.as_slice.ensures ∙ c.in_ok-text.ensures.front bytes held) c.in_ok-lines.ensures.found c.in_ok-lines.ensures.only told;
  plays = λ volumes held. (c.in_ok-new.ensures.bodies volumes held, c.in_ok-new.ensures.plays volumes held);
}
