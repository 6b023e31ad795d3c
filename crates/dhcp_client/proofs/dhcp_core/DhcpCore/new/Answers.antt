use Rattle.std.proofs.Common.{rules, refl, sym, subst, Option}
use Rattle.waits.specs.Waits.{ComesTo, Waiter, exchange_acts, found_of, outcome}
use Rattle.waits.proofs.Decided.{is_by_places}
use Rattle.waits.proofs.Found.{comes_to}
use Rattle.dhcp_lease.specs.Lease.{Terms}
use Rattle.dhcp_client.specs.Leasing.{Known, dhcp, dhcp_timely, none_offered}
use Rattle.dhcp_client.proofs.Decided.{leases_is}
use Rattle.dhcp_client.proofs.Steady.{dhcp_steady}
use Rattle.dhcp_client.proofs.dhcp_core.DhcpCore.new.Goals as goal

pub returns-clause-client : goal.returns-clause-client
returns-clause-client c = search rules

pub returns-clause-comes_to : goal.returns-clause-comes_to
returns-clause-comes_to c = λ arrivals.
    subst (λ (w : Waiter Known (Option Terms)). ComesTo (exchange_acts dhcp) found_of w arrivals (outcome dhcp (none_offered c.args.mac c.args.platform.now c.args.round) arrivals))
    (sym (returns-clause-client c)) (comes_to dhcp dhcp_timely (none_offered c.args.mac c.args.platform.now c.args.round) arrivals)

pub returns-clause-places : goal.returns-clause-places
returns-clause-places c = λ arrivals. leases_is {k = none_offered c.args.mac c.args.platform.now c.args.round} refl (is_by_places dhcp dhcp_timely dhcp_steady (none_offered c.args.mac c.args.platform.now c.args.round) arrivals)
