use Rattle.std.proofs.Common.{◌≡◌, ℕ, ◌++◌, ◌∷◌, [], List, take, ap, ◌∙◌, append_assoc, arith}
use Rattle.std.specs.List.{flat_map}
use Rattle.std.proofs.lemmas.List.{take_all}
use Rattle.dhcp_msg.specs.declared.dhcp_option.DhcpOption.{DhcpOption}
use Rattle.dhcp_msg.specs.Fields.{option_bytes}
use Rattle.dhcp_msg.specs.Spelling.{options_bytes}
use Rattle.dhcp_msg.proofs.encoding.push_options.Goals as goal

pub returns-clause-written : goal.returns-clause-written
unfolding options_bytes
returns-clause-written c =
    let items = c.as_slice-option-items.result.now in
    let all : take c.loop-option.option-index items ≡ items = take_all c.loop-option.option-index items (omega arith) in
    c.in_ok-push_slice-3.ensures.pushed
    ∙ ap (λ (l : List ℕ). l ++ 255 ∷ []) (c.loop-option.invariant ∙ ap (λ (l : List DhcpOption). c.args.out.now ++ flat_map option_bytes l) (all ∙ c.as_slice-option-items.ensures.options))
    ∙ append_assoc c.args.out.now (flat_map option_bytes c.args.options.now) (255 ∷ [])
