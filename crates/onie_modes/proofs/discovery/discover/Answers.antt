use Rattle.onie_modes.proofs.discovery.discover.Goals as goal

pub returns-clause-does : goal.returns-clause-does
returns-clause-does g c = λ plant. record { end = c.list-status.result; console = _; runs = c.list-status.ensures.runs plant; reported = c.report.ensures.reports }
