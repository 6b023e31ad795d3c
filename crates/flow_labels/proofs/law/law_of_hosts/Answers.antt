use Rattle.flow_labels.proofs.Dotted.{v4_host}
use Rattle.flow_labels.proofs.Groups.{v6_host}
use Rattle.flow_labels.proofs.law.law_of_hosts.Goals as goal

pub returns-clause-v4 : goal.returns-clause-v4
returns-clause-v4 c = v4_host

pub returns-clause-v6 : goal.returns-clause-v6
returns-clause-v6 c = v6_host
