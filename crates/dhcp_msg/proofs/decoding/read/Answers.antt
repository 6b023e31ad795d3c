use Rattle.std.proofs.Common.{◌++◌, List, ℕ, Ok, sym, ap, subst, ◌∙◌}
use Rattle.std.proofs.lemmas.Result.{err_from_is_err_and}
use Rattle.dhcp_msg.specs.declared.message.Message.{Message}
use Rattle.dhcp_msg.specs.Reading.{options_in, Fails}
use Rattle.dhcp_msg.proofs.Messages.{Fails-then, Fails-same, reading-front, reading-own, reading-overload, reading-file, reading-sname, reading-whole}
use Rattle.dhcp_msg.proofs.Gathering.{joined-first, joined-next, message_at-same, overload-read}
use Rattle.dhcp_msg.proofs.decoding.read.Goals as goal

pub returns-in_err-test_front : goal.returns-in_err-test_front
returns-in_err-test_front c =
    let p = err_from_is_err_and c.from_residual.result c.from_residual.ensures.1 in
    rw (p.1, p.2) (Fails-same _ _ (reading-front c.args.bytes.now _ (sym c.in_err-test_front.ensures.exact)))

pub returns-in_err-read_field : goal.returns-in_err-read_field
returns-in_err-read_field c =
    let p = err_from_is_err_and c.from_residual-in_err-read_field.result c.from_residual-in_err-read_field.ensures.1 in
    let fault = c.in_err-read_field.field-0.0 in
    let failed = subst (λ (field : List ℕ). Fails fault (options_in 240 field)) c.options_field.ensures c.in_err-read_field.ensures in
    rw (p.1, p.2) (Fails-then _ _ _ failed (reading-own c.args.bytes.now (sym c.in_ok-test_front.ensures.exact)))

pub returns-in_err-overload : goal.returns-in_err-overload
returns-in_err-overload c =
    let p = err_from_is_err_and c.from_residual-in_err-overload.result c.from_residual-in_err-overload.ensures.1 in
    let front = sym c.in_ok-test_front.ensures.exact in
    let own = c.in_ok-read_field.ensures.0 in
    let first = ap (options_in 240) (sym c.options_field.ensures) ∙ c.in_ok-read_field.ensures.1 in
    let now = joined-first own _ _ c.new-options.ensures c.in_ok-read_field.ensures.2 in
    rw (p.1, p.2) (Fails-same _ _ (reading-overload c.args.bytes.now own front first _ (overload-read own _ _ _ now c.get.ensures c.in_err-overload.ensures)))

pub returns-in_err-read_overloaded : goal.returns-in_err-read_overloaded
returns-in_err-read_overloaded c =
    let p = err_from_is_err_and c.from_residual-in_err-read_overloaded.result c.from_residual-in_err-read_overloaded.ensures.1 in
    let front = sym c.in_ok-test_front.ensures.exact in
    let own = c.in_ok-read_field.ensures.0 in
    let first = ap (options_in 240) (sym c.options_field.ensures) ∙ c.in_ok-read_field.ensures.1 in
    let now = joined-first own _ _ c.new-options.ensures c.in_ok-read_field.ensures.2 in
    let over = overload-read own _ _ _ now c.get.ensures c.in_ok-overload.ensures in
    rw (p.1, p.2) (Fails-then _ _ _ c.in_err-read_overloaded.ensures (reading-file c.args.bytes.now own c.in_ok-overload.overload front first over))

pub returns-in_err-read_overloaded-2 : goal.returns-in_err-read_overloaded-2
returns-in_err-read_overloaded-2 c =
    let p = err_from_is_err_and c.from_residual-in_err-read_overloaded-2.result c.from_residual-in_err-read_overloaded-2.ensures.1 in
    let front = sym c.in_ok-test_front.ensures.exact in
    let own = c.in_ok-read_field.ensures.0 in
    let first = ap (options_in 240) (sym c.options_field.ensures) ∙ c.in_ok-read_field.ensures.1 in
    let now = joined-first own _ _ c.new-options.ensures c.in_ok-read_field.ensures.2 in
    let over = overload-read own _ _ _ now c.get.ensures c.in_ok-overload.ensures in
    let second = c.in_ok-read_overloaded.ensures in
    rw (p.1, p.2) (Fails-then _ _ _ c.in_err-read_overloaded-2.ensures (reading-sname c.args.bytes.now own second.0 c.in_ok-overload.overload front first over second.1))

pub returns : goal.returns
returns c =
    let bytes = c.args.bytes.now in
    let front = sym c.in_ok-test_front.ensures.exact in
    let own = c.in_ok-read_field.ensures.0 in
    let first = ap (options_in 240) (sym c.options_field.ensures) ∙ c.in_ok-read_field.ensures.1 in
    let now = joined-first own _ _ c.new-options.ensures c.in_ok-read_field.ensures.2 in
    let over = overload-read own _ _ _ now c.get.ensures c.in_ok-overload.ensures in
    let second = c.in_ok-read_overloaded.ensures in
    let third = c.in_ok-read_overloaded-2.ensures in
    let options = joined-next (own ++ second.0) third.0 _ _ (joined-next own second.0 _ _ now second.2) third.2 in
    let message = c.message_of.ensures ∙ message_at-same bytes _ _ _ _ _ _ c.in_ok-sname.ensures c.in_ok-file.ensures options in
    reading-whole bytes own second.0 third.0 c.in_ok-overload.overload front first over second.1 third.1 ∙ ap (λ (m : Message). Ok m) (sym message)
