use Rattle.std.proofs.Common.{◌≡◌, ℕ, take, drop}
use Rattle.bd_dev.specs.Sink.{Appends}
use Rattle.find_fetch.specs.declared.fetched.Fetched.{Fetched}
use Rattle.url_waterfall.specs.declared.candidate.Candidate.{Candidate}
use Rattle.onie_modes.specs.Asking.{AnswersAs, asked_all, lines_by, needs_all}
use Rattle.onie_modes.proofs.discovery.print_all.Given as goal

abbrev pub invariant-loop-candidate : goal.invariant-loop-candidate
invariant-loop-candidate g l =
    ((r : ℕ) (c : Candidate) → g.F.Fetcher.answer l.fetcher r c ≡ g.F.Fetcher.answer l.fn.fetcher r c)
    × g.F.Fetcher.Made l.fn.fetcher (asked_all (take l.candidate-index l.list)) l.fetcher
    × g.F.Fetcher.Left l.fetcher (needs_all (drop l.candidate-index l.list))
    × ((found : Candidate → Fetched) → AnswersAs (g.F.Fetcher.answer l.fn.fetcher) found
    → Appends (g.C.Sink.taken l.fn.console) (g.C.Sink.taken l.console) (lines_by found (take l.candidate-index l.list)))
    × (g.F.Fetcher.media_faults l.fetcher ≡ g.F.Fetcher.media_faults l.fn.fetcher)
    × (g.F.Fetcher.net_faults l.fetcher ≡ g.F.Fetcher.net_faults l.fn.fetcher)
    × (g.F.Fetcher.trace_faults l.fetcher ≡ g.F.Fetcher.trace_faults l.fn.fetcher)
    × (g.C.Sink.faults l.console ≡ g.C.Sink.faults l.fn.console)
