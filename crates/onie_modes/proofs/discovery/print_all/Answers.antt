use Rattle.std.proofs.Common.{◌∙◌, arith}
use Rattle.bd_dev.specs.Sink.{AppendsFront}
use Rattle.bd_dev.proofs.Lines.{OnErr-always, one_more_line, front_of_a_line}
use Rattle.fetch_text.specs.Lines.{line_of}
use Rattle.find_fetch.specs.declared.fetched.Fetched.{Fetched}
use Rattle.url_waterfall.specs.declared.candidate.Candidate.{Candidate}
use Rattle.onie_modes.specs.Asking.{AnswersAs, EndsAmong, asked_all, lines_by}
use Rattle.onie_modes.proofs.Asked.{ended, left_after, left_for, made_more}
use Rattle.onie_modes.proofs.Outcomes.{IfErr-of, two_since}
use Rattle.onie_modes.proofs.WholeLines.{candidate_ends, first_lines}
use Rattle.onie_modes.proofs.discovery.print_all.Goals as goal

pub print_one-requires : goal.print_one-requires
print_one-requires g c = record {
  left = λ other. left_for (g.F.Fetcher.Left c.loop-candidate.fetcher) c.args.list.now c.loop-candidate.candidate-index c.candidate-item.result
      (g.met.F.Fetcher.lawful.fewer c.loop-candidate.fetcher) c.loop-candidate-test.true c.candidate-item.is c.loop-candidate.invariant.2 other;
}

pub returns-in_err-print_one-clause-front : goal.returns-in_err-print_one-clause-front
returns-in_err-print_one-clause-front g c =
    let front : (found : Candidate → Fetched) → AnswersAs (g.F.Fetcher.answer c.args.fetcher.now) found
    → AppendsFront (g.C.Sink.taken c.args.console.now) (g.C.Sink.taken c.print_one.new.console) (lines_by found c.args.list.now) =
    λ found answers. front_of_a_line (λ (d : Candidate). line_of d.shown (found d)) _ _ _ c.args.list.now c.loop-candidate.candidate-index c.candidate-item.result c.loop-candidate-test.true c.candidate-item.is
    (c.loop-candidate.invariant.3 found answers)
    (c.in_err-print_one.ensures.front (found c.candidate-item.result) (c.loop-candidate.invariant.0 1 c.candidate-item.result ∙ answers c.candidate-item.result)) in
    OnErr-always _ front

pub returns-in_err-print_one-clause-whole : goal.returns-in_err-print_one-clause-whole
returns-in_err-print_one-clause-whole g c =
    IfErr-of _ c.from_residual.result c.in_err-print_one.field-0.0 c.from_residual.ensures.1 (λ other found answers.
    first_lines (λ (d : Candidate). line_of d.shown (found d)) _ _ _ c.args.list.now c.loop-candidate.candidate-index (λ (d : Candidate). candidate_ends d.shown (found d))
    (c.loop-candidate.invariant.3 found answers) (c.in_err-print_one.ensures.unprinted other))

pub returns-in_err-print_one-clause-ended : goal.returns-in_err-print_one-clause-ended
returns-in_err-print_one-clause-ended g c =
    let all : EndsAmong g.F.Fetcher.Made g.F.Fetcher.Broken c.args.fetcher.now (asked_all c.args.list.now) c.print_one.new.fetcher =
    ended g.F.Fetcher.Made g.F.Fetcher.Broken c.args.fetcher.now c.loop-candidate.fetcher c.print_one.new.fetcher c.args.list.now c.loop-candidate.candidate-index c.candidate-item.result
    (g.met.F.Fetcher.lawful.join c.args.fetcher.now c.loop-candidate.fetcher c.print_one.new.fetcher)
    (g.met.F.Fetcher.lawful.breaks c.args.fetcher.now c.loop-candidate.fetcher c.print_one.new.fetcher)
    c.loop-candidate-test.true c.candidate-item.is c.loop-candidate.invariant.1 c.in_err-print_one.ensures.ended in
    OnErr-always _ all

pub loop-candidate-preserved : goal.loop-candidate-preserved
loop-candidate-preserved g c =
    let before = c.loop-candidate.invariant in
    let trace_before = before.6 in
    let console_before = before.7 in (
      λ r d. c.print_one.ensures.same r d ∙ c.loop-candidate.invariant.0 r d,
      made_more g.F.Fetcher.Made c.args.fetcher.now c.loop-candidate.fetcher c.print_one.new.fetcher c.args.list.now c.loop-candidate.candidate-index c.candidate-item.result
          (g.met.F.Fetcher.lawful.join c.args.fetcher.now c.loop-candidate.fetcher c.print_one.new.fetcher)
          c.loop-candidate-test.true c.candidate-item.is c.loop-candidate.invariant.1 c.in_ok-print_one.ensures.made,
      c.print_one.ensures.left _ (left_after (g.F.Fetcher.Left c.loop-candidate.fetcher) c.args.list.now c.loop-candidate.candidate-index c.candidate-item.result c.loop-candidate-test.true c.candidate-item.is c.loop-candidate.invariant.2),
      λ found answers. one_more_line (λ (d : Candidate). line_of d.shown (found d)) _ _ _ c.args.list.now c.loop-candidate.candidate-index c.candidate-item.result c.loop-candidate-test.true c.candidate-item.is
          (c.loop-candidate.invariant.3 found answers)
          (c.in_ok-print_one.ensures.line (found c.candidate-item.result) (c.loop-candidate.invariant.0 1 c.candidate-item.result ∙ answers c.candidate-item.result)),
      c.in_ok-print_one.ensures.media.quiet (λ e. cc) ∙ before.4,
      c.in_ok-print_one.ensures.net.quiet (λ e. cc) ∙ before.5,
      (c.in_ok-print_one.ensures.sink.quiet (λ e. cc)).1 ∙ trace_before,
      (c.in_ok-print_one.ensures.sink.quiet (λ e. cc)).0 ∙ console_before,
    )

pub returns-in_err-print_one-clause-sink : goal.returns-in_err-print_one-clause-sink
returns-in_err-print_one-clause-sink g c =
    let trace_before = c.loop-candidate.invariant.6 in
    let console_before = c.loop-candidate.invariant.7 in
    let sink = c.in_err-print_one.ensures.sink in
    let console_later = sink.console_later in
    let trace_later = sink.trace_later in
    two_since c.from_residual.result c.in_err-print_one.field-0.0 _ c.from_residual.ensures.1 console_before trace_before sink
