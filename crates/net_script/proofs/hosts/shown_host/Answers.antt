use Rattle.std.proofs.Common.{ℕ, List, inl, inr, Ok, sym, ◌∙◌, ap, subst}
use Rattle.net_script.proofs.Parting.{not_some}
use Rattle.flow_labels.specs.Hosts.{ShowsAddress}
use Rattle.net_script.specs.Hosts.{SpellsZoned}
use Rattle.net_script.proofs.hosts.shown_host.Goals as goal

pub returns-in_default-zoned-clause-only : goal.returns-in_default-zoned-clause-only
returns-in_default-zoned-clause-only c = λ shown shows. elim shows [
  | inl v4 ↦ absurd (not_some c.parse.result _ (sym c.is_some.ensures ∙ c.if-is_some.false) (c.parse.ensures.only v4.0.0 v4.0.1))
  | inr v6 ↦ absurd (let inner = c.in-Some.ensures.only v6.1.inner v6.1.host_is in c.in_default-zoned.ensures.only v6.1.address v6.1.zone (subst (λ (l : List ℕ). SpellsZoned v6.1.address v6.1.zone l) (sym inner) v6.1.spelled))
]

pub returns-clause-only : goal.returns-clause-only
returns-clause-only c = λ shown shows. elim shows [
  | inl v4 ↦ absurd (not_some c.parse.result _ (sym c.is_some.ensures ∙ c.if-is_some.false) (c.parse.ensures.only v4.0.0 v4.0.1))
  | inr v6 ↦
      let inner = c.in-Some.ensures.only v6.1.inner v6.1.host_is in
      let parts = c.in-Some-zoned.ensures.only v6.1.address v6.1.zone (subst (λ (l : List ℕ). SpellsZoned v6.1.address v6.1.zone l) (sym inner) v6.1.spelled) in
      let here = subst (λ (a : List ℕ). ShowsAddress a c.in-Some-zoned.zone.now shown) (sym parts.0) (subst (λ (z : List ℕ). ShowsAddress v6.1.address z shown) (sym parts.1) v6.1.shows) in
      inl (ap Ok (c.in_ok-shown.ensures.one shown here))
]
