use Rattle.std.proofs.Common.{◌≡◌, ⊎_elim, length, refl, sym, ap, subst, ◌∙◌}
use Rattle.bd_dev.specs.Sink.{Appends, AppendsFront}
use Rattle.bd_mode.specs.declared.mode.Mode.TheVariants as modes
use Rattle.find_fetch.specs.Fetching.{fetched_over}
use Rattle.tlvinfo.specs.IdentityView.{board_of}
use Rattle.onie_modes.specs.Console.{AppendsLines}
use Rattle.onie_modes.proofs.Nearby.{all_answers, discover_text-is, fetched_untraced, left_for_none, listed_local, no_needs, some_broken_untraced, some_fetched_untraced}
use Rattle.onie_modes.proofs.Outcomes.{IfErr-map, OnOk-map, OnErr-map, either}
use Rattle.onie_modes.proofs.discovery.print_candidates.Goals as goal

pub print_all-requires : goal.print_all-requires
print_all-requires g c =
    let local = listed_local (board_of c.args.identity.now) modes.Install c.in-Ok.volumes c.deref.result.now (c.deref.ensures.value ∙ c.in_ok-list.ensures.listed) in
    record { left = left_for_none _ _ (no_needs c.deref.result.now local) c.requires.begins.0 (ap length c.requires.begins.1) (λ k. rw c.requires.begins.1 refl) }

pub returns-clause-lines : goal.returns-clause-lines
returns-clause-lines g c = OnOk-map c.print_all.result (λ lines. λ volumes told.
    subst (Appends (g.C.Sink.taken c.args.console.now) (g.C.Sink.taken c.print_all.new.console))
    (discover_text-is (board_of c.args.identity.now) c.args.net.now.rows volumes c.in-Ok.volumes c.deref.result.now (c.deref.ensures.value ∙ c.in_ok-list.ensures.listed) (c.in-Ok.ensures.named volumes told))
    (lines (fetched_over c.args.net.now.rows volumes 1) (all_answers c.args.net.now.rows _ volumes (c.in-Ok.ensures.kept ∙ told)))) c.print_all.ensures.lines

pub returns-clause-front : goal.returns-clause-front
returns-clause-front g c = OnErr-map c.print_all.result (λ front. λ volumes told.
    subst (AppendsFront (g.C.Sink.taken c.args.console.now) (g.C.Sink.taken c.print_all.new.console))
    (discover_text-is (board_of c.args.identity.now) c.args.net.now.rows volumes c.in-Ok.volumes c.deref.result.now (c.deref.ensures.value ∙ c.in_ok-list.ensures.listed) (c.in-Ok.ensures.named volumes told))
    (front (fetched_over c.args.net.now.rows volumes 1) (all_answers c.args.net.now.rows _ volumes (c.in-Ok.ensures.kept ∙ told)))) c.print_all.ensures.front

pub returns-clause-whole : goal.returns-clause-whole
returns-clause-whole g c = IfErr-map c.print_all.result (λ stop whole. λ other volumes told.
    subst (AppendsLines (g.C.Sink.taken c.args.console.now) (g.C.Sink.taken c.print_all.new.console))
    (discover_text-is (board_of c.args.identity.now) c.args.net.now.rows volumes c.in-Ok.volumes c.deref.result.now (c.deref.ensures.value ∙ c.in_ok-list.ensures.listed) (c.in-Ok.ensures.named volumes told))
    (whole other (fetched_over c.args.net.now.rows volumes 1) (all_answers c.args.net.now.rows _ volumes (c.in-Ok.ensures.kept ∙ told)))) c.print_all.ensures.whole

pub returns-clause-untraced : goal.returns-clause-untraced
returns-clause-untraced g c =
    let local = listed_local (board_of c.args.identity.now) modes.Install c.in-Ok.volumes c.deref.result.now (c.deref.ensures.value ∙ c.in_ok-list.ensures.listed) in
    let same : c.print_all.new.fetcher.trace.ghost_name ≡ _ = either c.print_all.result c.print_all.ensures.made c.print_all.ensures.ended
    (λ made. made.2) (λ some. ⊎_elim (λ made. made.2) (λ broken. broken.2) some.ends) in
    let untraced : g.T.Sink.taken c.print_all.new.fetcher.trace.now ≡ g.T.Sink.taken c.args.trace.now =
    either c.print_all.result c.print_all.ensures.made c.print_all.ensures.ended
    (λ made. fetched_untraced _ _ c.args.net.now.rows c.deref.result.now local refl made.3)
    (λ some. ⊎_elim
    (λ made. some_fetched_untraced _ _ c.args.net.now.rows c.deref.result.now some.count local refl made.3)
    (λ broken. some_broken_untraced _ _ c.args.net.now.rows c.deref.result.now some.count local refl broken.3) some.ends) in
    ap g.T.Sink.taken (c.trace-1.given.1 (sym same)) ∙ untraced
