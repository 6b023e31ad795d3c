use Rattle.std.proofs.Common.{◌≡◌, ℕ, List, sym, ◌∙◌, subst}
use Rattle.net_script.specs.Hosts.{ShowsServer}
use Rattle.flow_labels.specs.Labels.{tftp_label}
use Rattle.net_script.specs.Numbers.{SpellsNumber, SpellsRounds}
use Rattle.net_script.specs.declared.line.Line.TheVariants.{Tftp}
use Rattle.net_script.proofs.line_reader.read_tftp.Goals as goal

pub returns-clause-only : goal.returns-clause-only
returns-clause-only c = λ rounds label file every spells.
    let r : c.in_ok-rounds.rounds ≡ rounds = cc (c.in_ok-rounds.ensures.only rounds (subst (λ (l : List ℕ). SpellsRounds rounds l) (sym c.get.ensures) spells.all)) in
    let s : c.in_ok-server.server ≡ spells.server = c.in_ok-server.ensures.only spells.server (subst (λ (l : List ℕ). ShowsServer l spells.server) (sym c.get-2.ensures) spells.shows) in
    let e : c.in_ok-every.every ≡ every = cc (c.in_ok-every.ensures.only every (subst (λ (l : List ℕ). SpellsNumber 0 86400000 every l) (sym c.get-3.ensures) spells.time)) in
    let l : c.in_ok-label.label ≡ label = c.in_ok-label.ensures ∙ (λ i. tftp_label ((c.as_slice.ensures ∙ s) i) (c.get-4.ensures i)) ∙ sym spells.label_is in
    let f : c.in_ok-file.file ≡ file = c.in_ok-file.ensures ∙ c.get-5.ensures ∙ sym spells.file_is in
    λ i. Tftp (r i) (l i) (f i) (e i)
