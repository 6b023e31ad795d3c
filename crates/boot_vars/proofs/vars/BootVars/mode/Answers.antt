use Rattle.std.proofs.Common.{◌∙◌, ap}
use Rattle.std.specs.Option.{option_and_then}
use Rattle.bd_mode.specs.Modes.{mode_of}
use Rattle.boot_vars.proofs.vars.BootVars.mode.Goals as goal

pub returns-in_err-reason : goal.returns-in_err-reason
returns-in_err-reason c = c.from_residual.ensures ∙ ap (option_and_then mode_of) c.in_err-reason.ensures.found

pub returns : goal.returns
returns c = c.parse.ensures ∙ ap (option_and_then mode_of) c.in_ok-reason.ensures.found
