use Rattle.std.proofs.Common.{◌==◌, rules, tests}
use Rattle.std.proofs.lemmas.Iterator.Search.{find_from_yields_List}
use Rattle.std.proofs.lemmas.Iterator.Splits.{YieldsList-from_slice_split}
use Rattle.storage_model.specs.Variables.{is_line_of}
use Rattle.boot_vars.proofs.find.line_named.Goals as goal

pub returns : goal.returns
returns c =
    find_from_yields_List (is_line_of c.args.name.now) _ _ c.find.result c.find.ensures.ran
    (YieldsList-from_slice_split _ (λ b. b == 0) c.args.text.now c.split.ensures.rest c.split.ensures.done c.split.ensures.closure (λ x b q k. search (rules, tests)))
    (λ x b q k. search (rules, tests))
