use Rattle.std.proofs.Common.{List, ℕ, inl, inr, refl, sym, subst}
use Rattle.bd_dev.specs.Sink.{Appends}
use Rattle.bd_dev.proofs.Appending.{Appends-same}
use Rattle.onie_modes.proofs.refusal.report.Goals as goal

pub returns-then-is_silent : goal.returns-then-is_silent
returns-then-is_silent g c = record {
  reports = inl (record {
    is = refl;
    line = subst (λ (line : List ℕ). Appends (g.C.Sink.taken c.args.console.now) (g.C.Sink.taken c.args.console.now) line) (sym (c.is_silent.ensures.silent c.if-is_silent.true)) (Appends-same _);
    quiet = refl;
  });
}

pub returns-in-Ok : goal.returns-in-Ok
returns-in-Ok g c = record { reports = inl (record { is = refl; line = c.in-Ok.ensures.written; quiet = c.in-Ok.ensures.cause.quiet }) }

pub returns-in-Err : goal.returns-in-Err
returns-in-Err g c = record { reports = inr (record { is = refl; some = c.is_silent.ensures.loud c.if-is_silent.false; front = c.in-Err.ensures.front; fault = c.in-Err.ensures.cause.failed }) }
