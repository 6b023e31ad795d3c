-- How a command's run and the report of its end make what the call does.
use Rattle.std.proofs.Common.{◌≡◌, inl, refl, sym, subst}
use Rattle.bd_dev.specs.Plant.{View}
use Rattle.bd_dev.proofs.Appending.{Appends-same}
use Rattle.onie_modes.specs.Course.{ends, no_device}
use Rattle.onie_modes.specs.Devices.{Devices, Seen, with_console}
use Rattle.onie_modes.specs.Running.{Does, Reports, Runs}
use Rattle.onie_modes.specs.declared.exit.Status.{Status}
use Rattle.onie_modes.specs.declared.exit.Status.TheVariants as statuses
use Rattle.onie_modes.proofs.Ends.{all_counted, still}
use Rattle.onie_cli.specs.Commands.{plan_of, refuses_words}
use Rattle.onie_cli.specs.Words.{Command}
use Rattle.std.specs.Prelude.{List, ℕ}

-- the words ask for this command, whose run came to this end, which was reported
pub does_of : (asked command : Command) (v w : View) (old new : Devices) (status : Status) → asked ≡ command → (end : Status) (console : Seen (List ℕ))
    → Runs (plan_of command v w) old (with_console new console) end → Reports console new.console end status → Does (plan_of asked v w) old new status
does_of asked command v w old new status is end console runs reported =
    subst (λ (k : Command). Does (plan_of k v w) old new status) (sym is) (record { end = end; console = console; runs = runs; reported = reported })

-- words that are no command
pub runs_usage : (d : Devices) → Runs refuses_words d d statuses.Usage
runs_usage d = record {
  counts = all_counted d d statuses.Usage (still _ _ _) (still _ _ _) (still _ _ _) (still _ _ _) (still _ _ _) (still _ _ _);
  ends = inl tt;
  went = λ answers told. record {
    course = ends no_device statuses.Usage;
    comes = refl;
    only = λ other comes. comes;
    took = record { is = refl; console = Appends-same _; trace = Appends-same _; eeprom = refl; plant = tt };
  };
  broken = λ breaks. absurd breaks;
  silent = λ e. refl;
  leaves = tt;
}
