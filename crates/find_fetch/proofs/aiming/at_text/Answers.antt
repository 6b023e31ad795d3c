use Rattle.find_fetch.proofs.SpotLemmas.{request_spots}
use Rattle.find_fetch.proofs.aiming.at_text.Goals as goal

pub returns-clause-spot : goal.returns-clause-spot
returns-clause-spot c = request_spots c.in-Some.url c.match-own.path c.at_url.result c.scheme.ensures.valid c.at_url.ensures
