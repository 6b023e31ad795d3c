use Rattle.std.proofs.Common.{◌≡◌, inr, Some, refl, sym, ◌∙◌, subst}
use Rattle.std.proofs.lemmas.Option.{none-some, same_Some}
use Rattle.soundness.specs.Booting.{HasNos}
use Rattle.soundness.proofs.booting.boots.Goals as goal

-- a NOS is named, and the table has none of that GUID
pub returns-in_default-named : goal.returns-in_default-named
returns-in_default-named c = inr (record {
  no_mode = sym c.mode.ensures ∙ c.in_default.is;
  no_nos = λ g names.
      let named : c.named.result ≡ Some g = c.named.ensures.only g names.names in
      let same : g ≡ c.in-Some-named.guid = same_Some g c.in-Some-named.guid (sym named ∙ c.in-Some-named.is) in
      let has : HasNos c.args.table.now g = record { index = names.index; entry = names.entry; has = names.has } in
      let holds = c.has_nos.ensures.1 (subst (HasNos c.args.table.now) same has) in
      let fails = c.if-has_nos.false in
      cc;
  install = refl;
})

-- none is named
pub returns-in_default-named-2 : goal.returns-in_default-named-2
returns-in_default-named-2 c = inr (record {
  no_mode = sym c.mode.ensures ∙ c.in_default.is;
  no_nos = λ g names. none-some g (sym c.in_default-named.is ∙ c.named.ensures.only g names.names);
  install = refl;
})
