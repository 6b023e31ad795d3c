use Rattle.std.proofs.Common.{◌≡◌, ◌++◌, List, ℕ, append_assoc, subst, sym, ap, ◌∙◌}
use Rattle.dhcp_msg.specs.declared.message.Message.{Message}
use Rattle.dhcp_msg.specs.Layout.{cookie}
use Rattle.dhcp_msg.specs.Messages.{IsMessage}
use Rattle.dhcp_msg.specs.Spelling.{address_bytes, head_bytes, options_bytes, padded, spelling, text_bytes}
use Rattle.dhcp_msg.proofs.Written.{is_spelled}
use Rattle.dhcp_msg.proofs.encoding.encode.Goals as goal

spelled : (c : goal.In_ok-push_options) → c.push_options.new.out ≡ spelling c.args.message.now
unfolding spelling text_bytes
spelled c =
    let m : Message = c.args.message.now in
    let front = c.in_ok-push_head.ensures.written ∙ ap (λ (l : List ℕ). l ++ head_bytes m) c.in_ok-out.ensures in
    let addresses = c.in_ok-push_addresses.ensures.written ∙ ap (λ (l : List ℕ). l ++ address_bytes m) front in
    let sname = c.in_ok-push_text.ensures ∙ ap (λ (l : List ℕ). l ++ padded 64 m.sname) addresses in
    let file = c.in_ok-push_text-2.ensures ∙ ap (λ (l : List ℕ). l ++ padded 128 m.file) sname ∙ append_assoc (head_bytes m ++ address_bytes m) (padded 64 m.sname) (padded 128 m.file) in
    let marked = c.in_ok-push_slice.ensures.pushed ∙ ap (λ (l : List ℕ). l ++ cookie) file in
    c.in_ok-push_options.ensures.written ∙ ap (λ (l : List ℕ). l ++ options_bytes m.options) marked

pub returns-clause-spelled : goal.returns-clause-spelled
returns-clause-spelled c = spelled c

pub returns-clause-reads : goal.returns-clause-reads
returns-clause-reads c =
    let small = c.in_ok-push_head.ensures.small in
    let m : Message = c.args.message.now in
    subst (λ (bytes : List ℕ). IsMessage bytes m) (sym (spelled c)) (
    is_spelled m c.requires (record { xid = small.0; flags = small.1; addresses = c.in_ok-push_addresses.ensures.sizes }) c.in_ok-push_options.ensures.distinct
    )
