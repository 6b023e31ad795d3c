use Rattle.std.proofs.Common.{◌==◌, ℕ, List, Some, ◌∙◌, ap}
use denote.Ref.{Bor}
use Rattle.std.specs.List.{after_first, list_any, slice_split}
use Rattle.std.specs.Option.{option_map}
use Rattle.std.proofs.lemmas.Bool.{both_ways}
use Rattle.storage_model.specs.Variables.{is_equals, value_of}
use Rattle.boot_vars.proofs.Listing.{has_equals}
use Rattle.boot_vars.proofs.find.value_in.Goals as goal

pub returns-in_err-line : goal.returns-in_err-line
unfolding value_of
returns-in_err-line c = ap (option_map {T = Bor (List ℕ)} {U = List ℕ} (λ value. value.now)) c.from_residual.ensures ∙ ap (option_map (after_first is_equals)) c.in_err-line.ensures

-- a line that was found has an `=`
pub returns-in_err-value : goal.returns-in_err-value
unfolding value_of
returns-in_err-value c =
    let line = c.in_ok-line.line.now in
    absurd (both_ways (list_any is_equals line) c.in_err-value.ensures.none (has_equals c.args.name.now (slice_split (λ b. b == 0) c.args.text.now) line c.in_ok-line.ensures))

pub returns : goal.returns
unfolding value_of
returns c = ap (λ (l : List ℕ). Some l) c.in_ok-value.ensures.cut.2 ∙ ap (option_map (after_first is_equals)) c.in_ok-line.ensures
