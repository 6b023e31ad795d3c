use Rattle.std.proofs.Common.{◌≡◌, true, false, refl, ap, sym, ◌∙◌, arith}
use Rattle.find_fetch.specs.Fetching.{seen}
use Rattle.find_fetch.specs.declared.request.Spot.TheVariants.{At}
use Rattle.find_fetch.proofs.Asking.{at_answer, at_left, at_made, called_answer, is_remote, on_ok, only_local, refused_answer, refused_within}
use Rattle.find_fetch.proofs.plain.PlainFetcher.fetch.Goals as goal

pub returns-in_default : goal.returns-in_default
returns-in_default g c =
    absurd (only_local c.args.candidate.now c.in_ok-aim.field-0 c.in_ok-aim.ensures.aimed c.in-Local.is c.in_default.not-Local)

pub returns-in-Refused-clause-answer : goal.returns-in-Refused-clause-answer
returns-in-Refused-clause-answer g c =
    refused_answer (g.N.Net.rows c.args.self.now.net.now) (g.M.Media.content c.args.self.now.media.now) c.args.round c.args.candidate.now
    c.in_ok-aim.field-0 c.in-Refused.miss c.in_ok-aim.ensures.aimed c.in-Refused.is

pub seek-requires-clause-closed : goal.seek-requires-clause-closed
seek-requires-clause-closed g c =
    (c.requires (is_remote c.args.candidate.now c.in_ok-aim.field-0 c.in_ok-aim.ensures.aimed (λ e. cc (e, c.in-Aim.is)))).closed

pub seek-requires-clause-early : goal.seek-requires-clause-early
seek-requires-clause-early g c =
    let time = (c.requires (is_remote c.args.candidate.now c.in_ok-aim.field-0 c.in_ok-aim.ensures.aimed (λ e. cc (e, c.in-Aim.is)))).time in
    omega (arith, time)

pub seek-requires-clause-room : goal.seek-requires-clause-room
seek-requires-clause-room g c =
    let flows = (c.requires (is_remote c.args.candidate.now c.in_ok-aim.field-0 c.in_ok-aim.ensures.aimed (λ e. cc (e, c.in-Aim.is)))).flows in
    omega (arith, flows)

pub returns-in-At-clause-answer : goal.returns-in-At-clause-answer
returns-in-At-clause-answer g c =
    at_answer (g.N.Net.rows c.args.self.now.net.now) (g.M.Media.content c.args.self.now.media.now) c.args.round c.args.candidate.now
    c.in_ok-aim.field-0 c.in-Aim.aim c.as_slice-in-At.result.now c.seek.result c.in_ok-aim.ensures.aimed c.in-Aim.is
    (c.in-At.is ∙ ap At (sym c.as_slice-in-At.ensures)) c.seek.ensures.found

pub returns-in-At-clause-made : goal.returns-in-At-clause-made
returns-in-At-clause-made g c =
    on_ok c.seek.result _ _ (λ h. (
      refl,
      refl,
      refl,
      at_made (seen (g.N.Net.rows c.args.self.now.net.now) (g.M.Media.content c.args.self.now.media.now) (g.N.Net.time c.args.self.now.net.now) (g.N.Net.opened c.args.self.now.net.now) (g.N.Net.open_flow c.args.self.now.net.now) (g.T.Sink.taken c.args.self.now.trace.now))
          (seen (g.N.Net.rows c.seek.new.net) (g.M.Media.content c.args.self.now.media.now) (g.N.Net.time c.seek.new.net) (g.N.Net.opened c.seek.new.net) (g.N.Net.open_flow c.seek.new.net) (g.T.Sink.taken c.seek.new.trace))
          c.args.round c.args.candidate.now c.in_ok-aim.field-0 c.in-Aim.aim c.as_slice-in-At.result.now c.in_ok-aim.ensures.aimed c.in-Aim.is
          (c.in-At.is ∙ ap At (sym c.as_slice-in-At.ensures)) c.seek.ensures.rows refl h,
    )) c.seek.ensures.passed

pub returns-in-At-clause-left : goal.returns-in-At-clause-left
returns-in-At-clause-left g c = λ n h.
    at_left (seen (g.N.Net.rows c.args.self.now.net.now) (g.M.Media.content c.args.self.now.media.now) (g.N.Net.time c.args.self.now.net.now) (g.N.Net.opened c.args.self.now.net.now) (g.N.Net.open_flow c.args.self.now.net.now) (g.T.Sink.taken c.args.self.now.trace.now))
    (seen (g.N.Net.rows c.seek.new.net) (g.M.Media.content c.args.self.now.media.now) (g.N.Net.time c.seek.new.net) (g.N.Net.opened c.seek.new.net) (g.N.Net.open_flow c.seek.new.net) (g.T.Sink.taken c.seek.new.trace))
    c.args.candidate.now n (is_remote c.args.candidate.now c.in_ok-aim.field-0 c.in_ok-aim.ensures.aimed (λ e. cc (e, c.in-Aim.is)))
    c.seek.ensures.closed c.seek.ensures.most c.seek.ensures.soon h

pub returns-clause-answer : goal.returns-clause-answer
returns-clause-answer g c =
    called_answer (g.N.Net.rows c.args.self.now.net.now) (g.M.Media.content c.args.self.now.media.now) c.args.round c.args.candidate.now
    c.in_ok-aim.field-0 c.in-Aim.aim c.in-Called.field-0 c.in_ok-aim.ensures.aimed c.in-Aim.is c.in-Called.is

pub returns-in-At-clause-local : goal.returns-in-At-clause-local
returns-in-At-clause-local g c = λ local.
    let remote : true ≡ false = sym local ∙ is_remote c.args.candidate.now c.in_ok-aim.field-0 c.in_ok-aim.ensures.aimed (λ e. cc (e, c.in-Aim.is)) in
    absurd (cc remote)

pub returns-in-At-clause-offline : goal.returns-in-At-clause-offline
returns-in-At-clause-offline g c = λ local.
    let remote : true ≡ false = sym local ∙ is_remote c.args.candidate.now c.in_ok-aim.field-0 c.in_ok-aim.ensures.aimed (λ e. cc (e, c.in-Aim.is)) in
    absurd (cc remote)

pub returns-in-Refused-clause-within : goal.returns-in-Refused-clause-within
returns-in-Refused-clause-within g c =
    refused_within c.args.candidate.now c.in_ok-aim.field-0 c.in-Refused.miss c.in_ok-aim.ensures.aimed c.in-Refused.is
