use Rattle.std.proofs.Common.{length, sym, ap, ◌∙◌, arith}
use Rattle.std.proofs.lemmas.Bool.{eqb-false}
use Rattle.std.proofs.lemmas.List.Sums.{AllPass-from_list_all, list_all-from_AllPass}
use Rattle.tlvinfo.specs.Platform.{is_platform_byte}
use Rattle.tlvinfo.proofs.platform.platform.Goals as goal
use Rattle.tlvinfo.proofs.platform.platform.Goals.{then-text-gt-LONGEST-via-then-text-gt-LONGEST, then-text-gt-LONGEST-via-else-text-gt-LONGEST+then-not-has_alphabet}

pub returns-then-text-gt-LONGEST-clause-only : goal.returns-then-text-gt-LONGEST-clause-only
returns-then-text-gt-LONGEST-clause-only c = λ p is.
    elim c.then-text-gt-LONGEST.branch [
      | then-text-gt-LONGEST-via-then-text-gt-LONGEST w ↦ omega (arith, is.short, w.if-text-gt-LONGEST.true)
      | then-text-gt-LONGEST-via-else-text-gt-LONGEST+then-not-has_alphabet w ↦
          let e = sym w.if-not-has_alphabet.true ∙ w.has_alphabet.ensures ∙ list_all-from_AllPass is_platform_byte c.args.text.now is.alphabet in cc
    ]

pub returns-clause-found : goal.returns-clause-found
returns-clause-found c = record {
  short = omega arith;
  alphabet = AllPass-from_list_all is_platform_byte c.args.text.now (sym c.has_alphabet.ensures ∙ c.if-not-has_alphabet.false);
  split = c.in_ok-parts.ensures.found;
  arch = λ none. eqb-false _ _ (sym c.is_empty.ensures ∙ c.if-is_empty.false) (ap length none);
  machine = λ none. eqb-false _ _ (sym c.is_empty-else-is_empty.ensures ∙ c.if-is_empty-2.false) (ap length none);
  revision = λ none. eqb-false _ _ (sym c.is_empty-else-is_empty-2.ensures ∙ c.if-is_empty-3.false) (ap length none);
}
