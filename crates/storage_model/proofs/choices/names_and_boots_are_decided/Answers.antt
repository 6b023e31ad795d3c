use Rattle.storage_model.proofs.BootLemmas.{boots, boots_is, entry_is, is_entry, is_nos, is_onie, nos_is, onie_is}
use Rattle.storage_model.proofs.NamedLemmas.{is_named, named_is}
use Rattle.storage_model.proofs.choices.names_and_boots_are_decided.Goals as goal

pub returns : goal.returns
returns c = record {
  named = λ text g. (is_named text g, named_is text g);
  nos = λ t text g. (is_entry t text g, entry_is t text g);
  onie = λ t text mode. (is_onie t text mode, onie_is t text mode);
  boots_nos = λ t text g. (is_nos t text g, nos_is t text g);
  image = λ size c b. (boots size c b, boots_is size c b);
}
