use Rattle.storage_model.proofs.ChoiceLemmas.{entry_found, onie_at, onie_found}
use Rattle.storage_model.proofs.choices.choices_are_found.Goals as goal

pub returns : goal.returns
returns c = record {
  place = λ t i e one. onie_at t i e one;
  onie = λ t i e one. onie_found t i e one;
  entry = λ t i e sane has. entry_found t i e sane has;
}
