use Rattle.std.proofs.Common.{Err, ap}
use Rattle.tlvinfo.specs.IdentityView.{board_of}
use Rattle.onie_modes.proofs.Boards.{only_board, unreadable_refused}
use Rattle.onie_modes.proofs.Outcomes.{reason_is}
use Rattle.onie_modes.proofs.identity.load_identity.Goals as goal

pub returns-in_err-info-clause-refused : goal.returns-in_err-info-clause-refused
returns-in_err-info-clause-refused g c = λ kind e bytes told.
    unreadable_refused bytes kind (c.in_err-info.ensures.refused kind (ap Err (reason_is c.from_residual.result c.in_err-info.field-0.0 _ c.from_residual.ensures.1 e)) bytes told)

pub returns-in-Ok-clause-only : goal.returns-in-Ok-clause-only
returns-in-Ok-clause-only g c = λ bytes told.
    only_board bytes _ (board_of c.in-Ok.identity) (c.in_ok-info.ensures.found bytes told) (λ other is. c.in-Ok.ensures.only other is)
