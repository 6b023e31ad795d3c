use Rattle.std.proofs.Common.{◌≡◌, ℕ, eqb, List, sym, ap, subst, ◌∙◌, ◌++◌, ◌∷◌, [], set}
use Rattle.std.specs.Prelude.{position}
use Rattle.dhcp_msg.specs.declared.dhcp_option.DhcpOption.{DhcpOption}
use Rattle.dhcp_msg.specs.Adding.{added}
use Rattle.dhcp_msg.specs.Options.{AreDistinct}
use Rattle.dhcp_msg.proofs.Joining.{AreDistinct-added, added-none, added-written}
use Rattle.dhcp_msg.proofs.options.Options.add.Goals as goal

-- a value behind that of its code
behind : (c : goal.In_ok-push_slice-in-Some)
    → set c.self.inside.entries.items c.in-Some.place (record { code = c.index_mut-entry.result.now.code; value = c.push_slice.new.self })
    ≡ added (record { code = c.args.code; value = c.args.value.now }) c.self.inside.entries.items
behind c =
    let at = sym (c.in-Some.ensures ∙ ap (position (λ (e : DhcpOption). eqb e.code c.args.code)) c.deref.ensures.value) in
    added-written (record { code = c.args.code; value = c.args.value.now }) c.index_mut-entry.result.now _ _ _ at c.index_mut-entry.ensures.value c.in_ok-push_slice-in-Some.ensures.pushed

-- one option more
last : (c : goal.In_ok-push-in-None) → c.push.new.self.items ≡ added (record { code = c.args.code; value = c.args.value.now }) c.self.inside.entries.items
last c =
    let none = sym (c.in-None.ensures ∙ ap (position (λ (e : DhcpOption). eqb e.code c.args.code)) c.deref.ensures.value) in
    c.in_ok-push-in-None.ensures.items
    ∙ ap (λ (value : List ℕ). c.self.inside.entries.items ++ record { code = c.args.code; value = value } ∷ []) c.in_ok-value-in-None.ensures
    ∙ sym (added-none (record { code = c.args.code; value = c.args.value.now }) c.self.inside.entries.items none)

pub invariant_of-self : goal.invariant_of-self
invariant_of-self c =
    subst AreDistinct (sym (behind c)) (AreDistinct-added (record { code = c.args.code; value = c.args.value.now }) c.self.inside.entries.items c.self.invariant)

pub invariant_of-self-in-Continue-branch-3 : goal.invariant_of-self-in-Continue-branch-3
invariant_of-self-in-Continue-branch-3 c =
    subst AreDistinct (sym (last c)) (AreDistinct-added (record { code = c.args.code; value = c.args.value.now }) c.self.inside.entries.items c.self.invariant)

pub returns-in_ok-push_slice-in-Some-clause-added : goal.returns-in_ok-push_slice-in-Some-clause-added
returns-in_ok-push_slice-in-Some-clause-added c = behind c ∙ ap (added (record { code = c.args.code; value = c.args.value.now })) c.self.view_is

pub returns-in_ok-push-in-None-clause-added : goal.returns-in_ok-push-in-None-clause-added
returns-in_ok-push-in-None-clause-added c = last c ∙ ap (added (record { code = c.args.code; value = c.args.value.now })) c.self.view_is
