use Rattle.std.proofs.Common.{◌≡◌, ◌++◌, ℕ, List, Some, codes, drop, sym, ◌∙◌, ap, subst}
use Rattle.std.proofs.lemmas.Bool.Decides.{Decides-eqb}
use Rattle.std.proofs.lemmas.Option.{IfSome_then, same_Some}
use Rattle.std.proofs.lemmas.Slice.Eq.{strip_prefix_is}
use Rattle.bd_text.specs.Guid.{SpellsGuid}
use Rattle.boot_vars.proofs.vars.BootVars.named.Goals as goal

pub returns-clause-sound : goal.returns-clause-sound
returns-clause-sound c =
    let command : c.in_ok-command.command.now ≡ codes "boot " ++ c.in_ok-spelling.spelling.now =
    strip_prefix_is Decides-eqb c.in_ok-command.command.now (codes "boot ") (Some c.in_ok-spelling.spelling) c.in_ok-spelling.ensures.cases in
    IfSome_then c.parse.result c.parse.ensures.sound (λ g spells. record {
      spelling = c.in_ok-spelling.spelling.now;
      value = sym c.in_ok-command.ensures.found ∙ ap (λ (l : List ℕ). Some l) command;
      spells = spells;
    })

pub returns-clause-only : goal.returns-clause-only
returns-clause-only c = λ g names.
    let command : c.in_ok-command.command.now ≡ codes "boot " ++ c.in_ok-spelling.spelling.now =
    strip_prefix_is Decides-eqb c.in_ok-command.command.now (codes "boot ") (Some c.in_ok-spelling.spelling) c.in_ok-spelling.ensures.cases in
    let same : codes "boot " ++ names.spelling ≡ c.in_ok-command.command.now = same_Some _ _ (sym (c.in_ok-command.ensures.found ∙ names.value)) in
    let spelling : names.spelling ≡ c.in_ok-spelling.spelling.now = ap (λ (l : List ℕ). drop 5 l) (same ∙ command) in
    c.parse.ensures.only g.bytes (subst (λ (l : List ℕ). SpellsGuid g.bytes l) spelling names.spells)
