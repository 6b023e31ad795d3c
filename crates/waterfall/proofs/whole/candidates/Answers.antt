use Rattle.std.proofs.Common.{◌≡◌, ◌≤◌, ◌*◌, ◌+◌, ℕ, List, Option, length, count_by, ap, sym, subst, ◌∙◌}
use Rattle.std.specs.List.{flat_map}
use Rattle.std.specs.Option.{option_copied}
use Rattle.tlvinfo.specs.IdentityView.{board_of}
use Rattle.url_waterfall.specs.Names.{installer_names}
use Rattle.waterfall.specs.Firsts.{firsts, KeepsFirsts}
use Rattle.waterfall.specs.Leases.{at_maybe}
use Rattle.waterfall.specs.Whole.{all_of, files_named, is_remote, port_tftps, port_urls, port_webs, waterfall}
use Rattle.waterfall.specs.declared.candidate.Candidate.{Candidate}
use Rattle.waterfall.proofs.Counting.{names_few, whole_few}
use Rattle.waterfall.proofs.Firsts.{KeepsFirsts-firsts}
use Rattle.waterfall.proofs.Parts.{five_parts}
use Rattle.waterfall.proofs.whole.candidates.Goals as goal

pub returns-clause-listed : goal.returns-clause-listed
returns-clause-listed c =
    let board = board_of c.args.identity.now in
    let mode = c.args.mode in
    let ports = c.args.ports.now in
    let names : c.as_slice-names.result.now ≡ installer_names board c.args.fixed.now.silicon mode =
    c.as_slice-names.ensures ∙ c.in_ok-names.ensures ∙ ap (λ (s : Option (List ℕ)). installer_names board s mode) c.borrowed.ensures in
    c.into_items.ensures
    ∙ five_parts (at_maybe (option_copied c.borrowed-2.result)) (files_named c.as_slice-names.result.now c.as_slice.result.now) (flat_map (port_urls mode) ports)
    (flat_map (port_webs c.as_slice-names.result.now) ports) (flat_map (port_tftps c.as_slice-names.result.now) ports)
    c.new-list.ensures c.in_ok-push_url.ensures c.in_ok-push_volumes.ensures c.in_ok-push_all_urls.ensures c.in_ok-push_all_webs.ensures.pushed c.in_ok-push_all_tftps.ensures
    ∙ ap (λ (ns : List (List ℕ)). firsts (all_of ns mode (option_copied c.borrowed-2.result) c.as_slice.result.now ports)) names
    ∙ ap (λ (u : Option (List ℕ)). firsts (all_of (installer_names board c.args.fixed.now.silicon mode) mode u c.as_slice.result.now ports)) c.borrowed-2.ensures
    ∙ ap (λ (vs : List (List ℕ)). firsts (all_of (installer_names board c.args.fixed.now.silicon mode) mode c.args.fixed.now.url vs ports)) c.as_slice.ensures

pub returns-clause-law : goal.returns-clause-law
returns-clause-law c =
    let all = waterfall (board_of c.args.identity.now) c.args.mode c.args.fixed.now c.args.volumes.now c.args.ports.now in
    subst (KeepsFirsts all) (sym (returns-clause-listed c)) (KeepsFirsts-firsts all)

pub returns-clause-few : goal.returns-clause-few
returns-clause-few c =
    let board = board_of c.args.identity.now in
    let mode = c.args.mode in
    let ports = c.args.ports.now in
    let silicon = c.args.fixed.now.silicon in
    let names : c.as_slice-names.result.now ≡ installer_names board silicon mode =
    c.as_slice-names.ensures ∙ c.in_ok-names.ensures ∙ ap (λ (s : Option (List ℕ)). installer_names board s mode) c.borrowed.ensures in
    let webs = subst (λ (ns : List (List ℕ)). length (flat_map (port_webs ns) ports) ≤ 216 * length ports) names c.in_ok-push_all_webs.ensures.few in
    subst (λ (cs : List Candidate). count_by is_remote cs ≤ 1 + 339 * length ports) (sym (returns-clause-listed c))
    (whole_few (installer_names board silicon mode) mode c.args.fixed.now.url c.args.volumes.now ports (names_few board silicon mode) webs)
