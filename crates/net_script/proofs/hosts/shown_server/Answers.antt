use Rattle.std.proofs.Common.{◌≡◌, ℕ, List, inl, inr, Err, sym, ◌∙◌, ap, subst, rules}
use Rattle.flow_labels.specs.Hosts.{server_text}
use Rattle.net_script.specs.Hosts.{HasHost, ShowsHost}
use Rattle.net_script.specs.Numbers.{SpellsNumber}
use Rattle.net_script.specs.declared.fault.LineFault.TheVariants.{Bad}
use Rattle.net_script.specs.declared.fault.ScriptKind.TheVariants.{Address}
use Rattle.net_script.proofs.Parting.{one_host, one_port}
use Rattle.net_script.proofs.hosts.shown_server.Goals as goal

pub returns-in_default-clause-bad : goal.returns-in_default-clause-bad
returns-in_default-clause-bad c = λ kind same.
    let is : kind ≡ Address = cc same in
    inl ((λ (has : HasHost c.args.word.now). c.in_default.ensures.none has.host has.port has.parted), is)

pub returns-in_err-shown-clause-bad : goal.returns-in_err-shown-clause-bad
returns-in_err-shown-clause-bad c = λ kind same.
    let is : c.in_err-shown.field-0.0 ≡ Bad kind = search rules in
    inl (
      (λ (has : HasHost c.args.word.now).
          let host = one_host c.args.word.now has.host has.port c.in-Some.host.now c.in-Some.port.now has.parted c.in-Some.ensures.parted in
          elim (c.in_err-shown.ensures.only has.shown (subst (λ (l : List ℕ). ShowsHost l has.shown) host has.shows)) [ inl e ↦ absurd (cc e) | inr e ↦ absurd (cc (e, is)) ]),
      c.in_err-shown.ensures.bad kind (ap Err is),
    )

pub returns-clause-only : goal.returns-clause-only
returns-clause-only c = λ shown shows.
    let word = c.args.word.now in
    let host = one_host word shows.host shows.port c.in-Some.host.now c.in-Some.port.now shows.parted c.in-Some.ensures.parted in
    let port = one_port word shows.host shows.port c.in-Some.host.now c.in-Some.port.now shows.parted c.in-Some.ensures.parted in
    let known = c.in_ok-shown.ensures.only shows.shown_host (subst (λ (l : List ℕ). ShowsHost l shows.shown_host) host shows.shows) in
    let same : c.in_ok-shown.shown ≡ shows.shown_host = elim known [ inl e ↦ cc e | inr e ↦ absurd (cc e) ] in
    let number : c.in_ok-number.number ≡ shows.number = cc (c.in_ok-number.ensures.only shows.number (subst (λ (l : List ℕ). SpellsNumber 1 65535 shows.number l) port shows.spelled)) in
    c.in_ok-server_text.ensures ∙ (ap (λ (l : List ℕ). server_text l c.in_ok-number.number) (c.as_slice.ensures ∙ same) ∙ (ap (server_text shows.shown_host) number ∙ sym shows.shown_is))
