use Rattle.std.proofs.Common.{refl, ap, sym, subst, ◌∙◌, Err, ℕ, ⊎_elim, inl, inr, arith}
use Rattle.bd_dev.specs.Faults.{Rose}
use Rattle.bd_dev.proofs.Lines.{Appends-front}
use Rattle.tlvinfo.specs.IdentityView.{board_of}
use Rattle.onie_modes.specs.Devices.{devices, seen}
use Rattle.onie_modes.specs.Discover.{discovers}
use Rattle.onie_modes.specs.Running.{Runs}
use Rattle.onie_modes.specs.declared.exit.Status.{Status}
use Rattle.onie_modes.proofs.Listing.{ends_printed, ends_unlisted, ends_unprinted, ends_unremembered, ends_without_board, ends_without_net}
use Rattle.onie_modes.proofs.discovery.list.Goals as goal

pub returns-in-Err-clause-runs : goal.returns-in-Err-clause-runs
returns-in-Err-clause-runs g c = λ plant.
    subst (λ (s : Status). Runs discovers (devices plant (seen (g.E.Eeprom.content c.args.eeprom.now) (g.E.Eeprom.faults c.args.eeprom.now)) (seen (g.M.Media.content c.args.media.now) (g.M.Media.faults c.args.media.now)) (seen (g.S.Source.left c.args.script.now) (g.S.Source.faults c.args.script.now)) (seen (g.C.Sink.taken c.args.console.now) (g.C.Sink.faults c.args.console.now)) (seen (g.T.Sink.taken c.args.trace.now) (g.T.Sink.faults c.args.trace.now))) (devices plant (seen (g.E.Eeprom.content c.load_identity.new.eeprom) (g.E.Eeprom.faults c.load_identity.new.eeprom)) (seen (g.M.Media.content c.args.media.now) (g.M.Media.faults c.args.media.now)) (seen (g.S.Source.left c.args.script.now) (g.S.Source.faults c.args.script.now)) (seen (g.C.Sink.taken c.args.console.now) (g.C.Sink.faults c.args.console.now)) (seen (g.T.Sink.taken c.args.trace.now) (g.T.Sink.faults c.args.trace.now))) s) (sym c.status.ensures)
    (ends_without_board (devices plant (seen (g.E.Eeprom.content c.args.eeprom.now) (g.E.Eeprom.faults c.args.eeprom.now)) (seen (g.M.Media.content c.args.media.now) (g.M.Media.faults c.args.media.now)) (seen (g.S.Source.left c.args.script.now) (g.S.Source.faults c.args.script.now)) (seen (g.C.Sink.taken c.args.console.now) (g.C.Sink.faults c.args.console.now)) (seen (g.T.Sink.taken c.args.trace.now) (g.T.Sink.faults c.args.trace.now))) (seen (g.E.Eeprom.content c.load_identity.new.eeprom) (g.E.Eeprom.faults c.load_identity.new.eeprom)) c.in-Err.fault c.in-Err.ensures.cause c.load_identity.ensures.kept (λ kind e. c.in-Err.ensures.refused kind (ap Err e)))

pub returns-in-Err-open_net-clause-runs : goal.returns-in-Err-open_net-clause-runs
returns-in-Err-open_net-clause-runs g c = λ plant.
    subst (λ (s : Status). Runs discovers (devices plant (seen (g.E.Eeprom.content c.args.eeprom.now) (g.E.Eeprom.faults c.args.eeprom.now)) (seen (g.M.Media.content c.args.media.now) (g.M.Media.faults c.args.media.now)) (seen (g.S.Source.left c.args.script.now) (g.S.Source.faults c.args.script.now)) (seen (g.C.Sink.taken c.args.console.now) (g.C.Sink.faults c.args.console.now)) (seen (g.T.Sink.taken c.args.trace.now) (g.T.Sink.faults c.args.trace.now))) (devices plant (seen (g.E.Eeprom.content c.load_identity.new.eeprom) (g.E.Eeprom.faults c.load_identity.new.eeprom)) (seen (g.M.Media.content c.open_net.new.media) (g.M.Media.faults c.open_net.new.media)) (seen (g.S.Source.left c.open_net.new.script) (g.S.Source.faults c.open_net.new.script)) (seen (g.C.Sink.taken c.args.console.now) (g.C.Sink.faults c.args.console.now)) (seen (g.T.Sink.taken c.args.trace.now) (g.T.Sink.faults c.args.trace.now))) s) (sym c.status-in-Err-open_net.ensures)
    (ends_without_net (devices plant (seen (g.E.Eeprom.content c.args.eeprom.now) (g.E.Eeprom.faults c.args.eeprom.now)) (seen (g.M.Media.content c.args.media.now) (g.M.Media.faults c.args.media.now)) (seen (g.S.Source.left c.args.script.now) (g.S.Source.faults c.args.script.now)) (seen (g.C.Sink.taken c.args.console.now) (g.C.Sink.faults c.args.console.now)) (seen (g.T.Sink.taken c.args.trace.now) (g.T.Sink.faults c.args.trace.now))) (seen (g.E.Eeprom.content c.load_identity.new.eeprom) (g.E.Eeprom.faults c.load_identity.new.eeprom)) (seen (g.M.Media.content c.open_net.new.media) (g.M.Media.faults c.open_net.new.media)) (seen (g.S.Source.left c.open_net.new.script) (g.S.Source.faults c.open_net.new.script)) (board_of c.in-Ok.identity) c.in-Err-open_net.fault (c.in-Ok.ensures.cause.quiet (λ e. cc)) c.load_identity.ensures.kept
    (λ bytes told. (c.in-Ok.ensures.found bytes told, c.in-Ok.ensures.only bytes told))
    c.in-Err-open_net.ensures.source c.in-Err-open_net.ensures.media (λ line kind e. c.in-Err-open_net.ensures.refused line kind (ap Err e)) (λ e. c.in-Err-open_net.ensures.asked (ap Err e)))

pub returns-in-Ok-print_candidates-clause-runs : goal.returns-in-Ok-print_candidates-clause-runs
returns-in-Ok-print_candidates-clause-runs g c = λ plant.
    ends_printed (devices plant (seen (g.E.Eeprom.content c.args.eeprom.now) (g.E.Eeprom.faults c.args.eeprom.now)) (seen (g.M.Media.content c.args.media.now) (g.M.Media.faults c.args.media.now)) (seen (g.S.Source.left c.args.script.now) (g.S.Source.faults c.args.script.now)) (seen (g.C.Sink.taken c.args.console.now) (g.C.Sink.faults c.args.console.now)) (seen (g.T.Sink.taken c.args.trace.now) (g.T.Sink.faults c.args.trace.now))) (devices plant (seen (g.E.Eeprom.content c.load_identity.new.eeprom) (g.E.Eeprom.faults c.load_identity.new.eeprom)) (seen (g.M.Media.content c.print_candidates.new.media) (g.M.Media.faults c.print_candidates.new.media)) (seen (g.S.Source.left c.open_net.new.script) (g.S.Source.faults c.open_net.new.script)) (seen (g.C.Sink.taken c.print_candidates.new.console) (g.C.Sink.faults c.print_candidates.new.console)) (seen (g.T.Sink.taken c.print_candidates.new.trace) (g.T.Sink.faults c.print_candidates.new.trace))) (board_of c.in-Ok.identity) _ (record {
      eeprom_same = c.in-Ok.ensures.cause.quiet (λ e. cc);
      eeprom = c.load_identity.ensures.kept;
      plant = refl;
      script_same = c.in-Ok-open_net.ensures.source.quiet (λ e. cc);
      loaded = λ bytes told. (c.in-Ok.ensures.found bytes told, c.in-Ok.ensures.only bytes told);
      net = c.in-Ok-open_net.ensures.plays;
      trace = c.print_candidates.ensures.untraced;
      read_out = c.in-Ok-open_net.ensures.read_out;
      front = λ volumes told. Appends-front _ _ _ (c.in-Ok-print_candidates.ensures.lines volumes (c.open_net.ensures.kept ∙ told));
    })
    (λ volumes told. c.in-Ok-print_candidates.ensures.lines volumes (c.open_net.ensures.kept ∙ told))
    (c.in-Ok-print_candidates.ensures.media.quiet (λ e. cc) ∙ c.in-Ok-open_net.ensures.media.quiet (λ e. cc))
    (c.in-Ok-print_candidates.ensures.sink.quiet (λ e. cc)).0 (c.in-Ok-print_candidates.ensures.sink.quiet (λ e. cc)).1

pub returns-in-Err-Media-clause-runs : goal.returns-in-Err-Media-clause-runs
returns-in-Err-Media-clause-runs g c = λ plant.
    let is = c.in-Err-Media.is ∙ ap Err c.in-Err-Media.field-0-is in
    let quiet = c.in-Ok-open_net.ensures.media.quiet (λ e. cc) in
    let later = c.print_candidates.ensures.media.later in
    ends_unlisted (devices plant (seen (g.E.Eeprom.content c.args.eeprom.now) (g.E.Eeprom.faults c.args.eeprom.now)) (seen (g.M.Media.content c.args.media.now) (g.M.Media.faults c.args.media.now)) (seen (g.S.Source.left c.args.script.now) (g.S.Source.faults c.args.script.now)) (seen (g.C.Sink.taken c.args.console.now) (g.C.Sink.faults c.args.console.now)) (seen (g.T.Sink.taken c.args.trace.now) (g.T.Sink.faults c.args.trace.now))) (devices plant (seen (g.E.Eeprom.content c.load_identity.new.eeprom) (g.E.Eeprom.faults c.load_identity.new.eeprom)) (seen (g.M.Media.content c.print_candidates.new.media) (g.M.Media.faults c.print_candidates.new.media)) (seen (g.S.Source.left c.open_net.new.script) (g.S.Source.faults c.open_net.new.script)) (seen (g.C.Sink.taken c.print_candidates.new.console) (g.C.Sink.faults c.print_candidates.new.console)) (seen (g.T.Sink.taken c.print_candidates.new.trace) (g.T.Sink.faults c.print_candidates.new.trace))) (board_of c.in-Ok.identity) _ (record {
      eeprom_same = c.in-Ok.ensures.cause.quiet (λ e. cc);
      eeprom = c.load_identity.ensures.kept;
      plant = refl;
      script_same = c.in-Ok-open_net.ensures.source.quiet (λ e. cc);
      loaded = λ bytes told. (c.in-Ok.ensures.found bytes told, c.in-Ok.ensures.only bytes told);
      net = c.in-Ok-open_net.ensures.plays;
      trace = c.print_candidates.ensures.untraced;
      read_out = c.in-Ok-open_net.ensures.read_out;
      front = (λ volumes told. c.in-Err-Media.ensures.front volumes (c.open_net.ensures.kept ∙ told));
    })
    (λ volumes told. c.in-Err-Media.ensures.whole (λ e. cc) volumes (c.open_net.ensures.kept ∙ told))
    (omega (arith, quiet, later)) (subst (λ (n : ℕ). Rose n (g.M.Media.faults c.print_candidates.new.media)) quiet (c.print_candidates.ensures.media.failed is))
    (c.print_candidates.ensures.sink.quiet (λ e. let same = sym is ∙ e in cc)).0 (c.print_candidates.ensures.sink.quiet (λ e. let same = sym is ∙ e in cc)).1

pub returns-in-Err-Sink-clause-runs : goal.returns-in-Err-Sink-clause-runs
returns-in-Err-Sink-clause-runs g c = λ plant.
    let is = c.in-Err-Sink.is ∙ ap Err c.in-Err-Sink.field-0-is in
    ends_unprinted (devices plant (seen (g.E.Eeprom.content c.args.eeprom.now) (g.E.Eeprom.faults c.args.eeprom.now)) (seen (g.M.Media.content c.args.media.now) (g.M.Media.faults c.args.media.now)) (seen (g.S.Source.left c.args.script.now) (g.S.Source.faults c.args.script.now)) (seen (g.C.Sink.taken c.args.console.now) (g.C.Sink.faults c.args.console.now)) (seen (g.T.Sink.taken c.args.trace.now) (g.T.Sink.faults c.args.trace.now))) (devices plant (seen (g.E.Eeprom.content c.load_identity.new.eeprom) (g.E.Eeprom.faults c.load_identity.new.eeprom)) (seen (g.M.Media.content c.print_candidates.new.media) (g.M.Media.faults c.print_candidates.new.media)) (seen (g.S.Source.left c.open_net.new.script) (g.S.Source.faults c.open_net.new.script)) (seen (g.C.Sink.taken c.print_candidates.new.console) (g.C.Sink.faults c.print_candidates.new.console)) (seen (g.T.Sink.taken c.print_candidates.new.trace) (g.T.Sink.faults c.print_candidates.new.trace))) (board_of c.in-Ok.identity) _ (record {
      eeprom_same = c.in-Ok.ensures.cause.quiet (λ e. cc);
      eeprom = c.load_identity.ensures.kept;
      plant = refl;
      script_same = c.in-Ok-open_net.ensures.source.quiet (λ e. cc);
      loaded = λ bytes told. (c.in-Ok.ensures.found bytes told, c.in-Ok.ensures.only bytes told);
      net = c.in-Ok-open_net.ensures.plays;
      trace = c.print_candidates.ensures.untraced;
      read_out = c.in-Ok-open_net.ensures.read_out;
      front = (λ volumes told. c.in-Err-Sink.ensures.front volumes (c.open_net.ensures.kept ∙ told));
    })
    (c.print_candidates.ensures.media.quiet (λ e. let same = sym is ∙ e in cc) ∙ c.in-Ok-open_net.ensures.media.quiet (λ e. cc))
    c.print_candidates.ensures.sink.console_later c.print_candidates.ensures.sink.trace_later (c.print_candidates.ensures.sink.failed is)

pub returns-clause-runs : goal.returns-clause-runs
returns-clause-runs g c = λ plant.
    let is = c.in-Err-Memory.is ∙ ap Err c.in-Err-Memory.field-0-is in
    ends_unremembered (devices plant (seen (g.E.Eeprom.content c.args.eeprom.now) (g.E.Eeprom.faults c.args.eeprom.now)) (seen (g.M.Media.content c.args.media.now) (g.M.Media.faults c.args.media.now)) (seen (g.S.Source.left c.args.script.now) (g.S.Source.faults c.args.script.now)) (seen (g.C.Sink.taken c.args.console.now) (g.C.Sink.faults c.args.console.now)) (seen (g.T.Sink.taken c.args.trace.now) (g.T.Sink.faults c.args.trace.now))) (devices plant (seen (g.E.Eeprom.content c.load_identity.new.eeprom) (g.E.Eeprom.faults c.load_identity.new.eeprom)) (seen (g.M.Media.content c.print_candidates.new.media) (g.M.Media.faults c.print_candidates.new.media)) (seen (g.S.Source.left c.open_net.new.script) (g.S.Source.faults c.open_net.new.script)) (seen (g.C.Sink.taken c.print_candidates.new.console) (g.C.Sink.faults c.print_candidates.new.console)) (seen (g.T.Sink.taken c.print_candidates.new.trace) (g.T.Sink.faults c.print_candidates.new.trace))) (board_of c.in-Ok.identity) _ (record {
      eeprom_same = c.in-Ok.ensures.cause.quiet (λ e. cc);
      eeprom = c.load_identity.ensures.kept;
      plant = refl;
      script_same = c.in-Ok-open_net.ensures.source.quiet (λ e. cc);
      loaded = λ bytes told. (c.in-Ok.ensures.found bytes told, c.in-Ok.ensures.only bytes told);
      net = c.in-Ok-open_net.ensures.plays;
      trace = c.print_candidates.ensures.untraced;
      read_out = c.in-Ok-open_net.ensures.read_out;
      front = (λ volumes told. c.in-Err-Memory.ensures.front volumes (c.open_net.ensures.kept ∙ told));
    })
    (λ volumes told. c.in-Err-Memory.ensures.whole (λ e. let same = sym c.in-Err-Memory.field-0-is ∙ e in cc) volumes (c.open_net.ensures.kept ∙ told))
    (c.print_candidates.ensures.media.quiet (λ e. let same = sym is ∙ e in cc) ∙ c.in-Ok-open_net.ensures.media.quiet (λ e. cc))
    (c.print_candidates.ensures.sink.quiet (λ e. let same = sym is ∙ e in cc)).0 (c.print_candidates.ensures.sink.quiet (λ e. let same = sym is ∙ e in cc)).1
