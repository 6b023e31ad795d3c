use Rattle.std.proofs.Common.{◌∙◌}
use Rattle.find_fetch.proofs.AimLemmas.{v4_read}
use Rattle.find_fetch.proofs.spots.is_v4.Goals as goal

pub returns : goal.returns
returns c = c.is_ok.ensures.value ∙ v4_read c.args.text.now c.parse_ascii.result c.parse_ascii.ensures
