-- The whole text, part by part.
use Rattle.std.proofs.Common.{ℕ, List, [], ◌++◌, Option, OnOk, Result, Ok, Err, sym, subst, append-nil}
use Rattle.bd_dev.specs.Sink.{Appends, AppendsFront}
use Rattle.bd_dev.proofs.Appending.{Appends-then, AppendsFront-then, AppendsFront-longer}
use Rattle.gpt_copy.specs.declared.table.Table.{Table}
use Rattle.gpt_copy.specs.declared.table.Which.{Which}
use Rattle.soundness.specs.declared.outcome.Boots.{Boots}
use Rattle.status_text.specs.StatusText.{boots_line, entry_lines, status_text, table_line}

module _ (copy : Which) (table : Table) (boots : Boots) (first second third last : Option (List ℕ)) where
  pub front_of_table : AppendsFront first second (table_line copy) → AppendsFront first second (status_text copy table boots)
  unfolding status_text
  front_of_table h = AppendsFront-longer first second (table_line copy) (entry_lines 1 table.entries ++ (boots_line boots ++ [])) h

  pub front_of_entries : Appends first second (table_line copy) → AppendsFront second third (entry_lines 1 table.entries) → AppendsFront first third (status_text copy table boots)
  unfolding status_text
  front_of_entries h k = AppendsFront-then first second third (table_line copy) (entry_lines 1 table.entries ++ (boots_line boots ++ [])) h
      (AppendsFront-longer second third (entry_lines 1 table.entries) (boots_line boots ++ []) k)

  pub front_of_boots : Appends first second (table_line copy) → Appends second third (entry_lines 1 table.entries) → AppendsFront third last (boots_line boots) → AppendsFront first last (status_text copy table boots)
  unfolding status_text
  front_of_boots h k f = AppendsFront-then first second last (table_line copy) (entry_lines 1 table.entries ++ (boots_line boots ++ [])) h
      (AppendsFront-then second third last (entry_lines 1 table.entries) (boots_line boots ++ []) k (AppendsFront-longer third last (boots_line boots) [] f))

  pub whole_text : Appends first second (table_line copy) → Appends second third (entry_lines 1 table.entries) → Appends third last (boots_line boots) → Appends first last (status_text copy table boots)
  unfolding status_text
  whole_text h k w = Appends-then first second last (table_line copy) (entry_lines 1 table.entries ++ (boots_line boots ++ [])) h
      (Appends-then second third last (entry_lines 1 table.entries) (boots_line boots ++ []) k (subst (Appends third last) (sym (append-nil (boots_line boots))) w))

pub on_ok : {T E P Q : Type 0} (r : Result T E) → (P → Q) → OnOk r P → OnOk r Q
on_ok (Ok x) f p = f p
on_ok (Err e) f p = p
