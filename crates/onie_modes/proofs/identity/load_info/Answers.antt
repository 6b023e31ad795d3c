use Rattle.onie_modes.proofs.Boards.{few_fields}
use Rattle.onie_modes.proofs.identity.load_info.Goals as goal

pub returns-in-Ok-decode-clause-small : goal.returns-in-Ok-decode-clause-small
returns-in-Ok-decode-clause-small g c = few_fields _ _ c.in-Ok-decode.ensures.found
