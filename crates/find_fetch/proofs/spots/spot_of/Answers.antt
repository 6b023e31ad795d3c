use Rattle.std.proofs.Common.{sym}
use Rattle.find_fetch.proofs.AimLemmas.{no_spot}
use Rattle.find_fetch.proofs.spots.spot_of.Goals as goal

pub returns-in_default : goal.returns-in_default
returns-in_default c = no_spot c.args.url.now.host (sym c.in_default.ensures)
