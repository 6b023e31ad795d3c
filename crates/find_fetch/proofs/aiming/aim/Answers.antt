use Rattle.find_fetch.specs.Aim.{asked_by, url_of}
use Rattle.std.proofs.Common.{None}
use Rattle.find_fetch.proofs.SpotLemmas.{texts_askable}
use Rattle.find_fetch.proofs.aiming.aim.Goals as goal

pub returns-in-Url-clause-askable : goal.returns-in-Url-clause-askable
returns-in-Url-clause-askable c = texts_askable (url_of c.as_slice-shown.result.now) (asked_by None) c.at_text.result c.at_text.ensures.aimed
