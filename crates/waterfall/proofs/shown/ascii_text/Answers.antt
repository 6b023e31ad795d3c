use Rattle.std.proofs.Common.{◌≡◌, ◌∙◌, MatchOption, sym, subst, true, false}
use Rattle.std.specs.Char.{is_ascii}
use Rattle.std.specs.List.{list_all}
use Rattle.waterfall.proofs.Parsed.{ascii_read}
use Rattle.waterfall.proofs.shown.ascii_text.Goals as goal

pub returns-then-are_ascii : goal.returns-then-are_ascii
returns-then-are_ascii c =
    subst (λ o. MatchOption o (list_all is_ascii c.args.text.now ≡ false) (λ same. (list_all is_ascii c.args.text.now ≡ true) × (same.now ≡ c.args.text.now))) (sym c.ok.ensures.value)
    (ascii_read (λ s. s.now) c.args.text.now c.from_utf8.result _ (sym c.are_ascii.ensures ∙ c.if-are_ascii.true) c.from_utf8.ensures.cases)
