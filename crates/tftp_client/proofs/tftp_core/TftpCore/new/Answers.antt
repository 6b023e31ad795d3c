use Rattle.std.proofs.Common.{rules, sym, subst, List, ℕ, Result}
use Rattle.waits.specs.Waits.{ComesTo, Waiter, exchange_acts, found_of, outcome}
use Rattle.waits.proofs.Decided.{is_by_places}
use Rattle.waits.proofs.Found.{comes_to}
use Rattle.tftp_client.specs.declared.tftp_core.TftpMiss.{TftpMiss}
use Rattle.tftp_client.specs.Transfer.{Taken, none_taken, tftp, tftp_timely}
use Rattle.tftp_client.proofs.Bodies.{body_is}
use Rattle.tftp_client.proofs.Steady.{tftp_steady}
use Rattle.tftp_client.proofs.tftp_core.TftpCore.new.Goals as goal

pub returns-clause-client : goal.returns-clause-client
returns-clause-client c = search rules

pub returns-clause-comes_to : goal.returns-clause-comes_to
returns-clause-comes_to c = λ arrivals.
    subst (λ (w : Waiter Taken (Result (List ℕ) TftpMiss)). ComesTo (exchange_acts tftp) found_of w arrivals (outcome tftp (none_taken c.args.port c.args.path.now) arrivals))
    (sym (returns-clause-client c)) (comes_to tftp tftp_timely (none_taken c.args.port c.args.path.now) arrivals)

pub returns-clause-places : goal.returns-clause-places
returns-clause-places c = λ arrivals. body_is (is_by_places tftp tftp_timely tftp_steady (none_taken c.args.port c.args.path.now) arrivals)
