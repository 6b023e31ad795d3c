use Rattle.std.proofs.Common.{◌≡◌, ℕ, ◌-◌, Option, Some, sym, ◌∙◌, ap}
use Rattle.std.specs.Prelude.{option_map}
use Rattle.std.specs.Option.{option_and_then}
use Rattle.gpt_copy.specs.declared.table.Entry.{Entry}
use Rattle.gpt_copy.specs.declared.table.Table.{Table}
use Rattle.gpt_table.specs.Alone.{alone_at}
use Rattle.gpt_table.specs.Edits.{emptied, with_entry}
use Rattle.gpt_table.proofs.alone.onie_is_kept_alone.Goals as goal

pub returns : goal.returns
returns c = λ t after number e one kept.
    ap (λ (o : Option ℕ). option_and_then (alone_at t) o) (c.choices_are_found.ensures.place t (number - 1) e one)
    ∙ ap (λ (o : Option Entry). option_map (with_entry (emptied t) (number - 1)) o) kept.has.is
    ∙ ap (λ (x : Table). Some x) (sym kept.is)
