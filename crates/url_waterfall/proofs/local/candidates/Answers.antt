use Rattle.std.proofs.Common.{◌≡◌, sym, subst, rules}
use Rattle.tlvinfo.specs.IdentityView.{board_of}
use Rattle.url_waterfall.specs.Candidates.{local_files}
use Rattle.url_waterfall.specs.Firsts.{firsts, KeepsFirsts}
use Rattle.url_waterfall.proofs.Files.{all_files, few_files}
use Rattle.url_waterfall.proofs.Firsts.{KeepsFirsts-firsts}
use Rattle.url_waterfall.proofs.local.candidates.Goals as goal

pub returns-clause-law : goal.returns-clause-law
returns-clause-law c =
    let all = local_files (board_of c.args.identity.now) c.args.mode c.args.volumes.now in
    let listed : c.in_ok-list.list.items ≡ firsts all = search rules in
    subst (KeepsFirsts all) (sym listed) (KeepsFirsts-firsts all)

pub returns-clause-nearby : goal.returns-clause-nearby
returns-clause-nearby c =
    let all = local_files (board_of c.args.identity.now) c.args.mode c.args.volumes.now in
    let listed : c.in_ok-list.list.items ≡ firsts all = search rules in
    all_files (board_of c.args.identity.now) c.args.mode c.args.volumes.now c.in_ok-list.list.items listed

pub returns-clause-few : goal.returns-clause-few
returns-clause-few c =
    let all = local_files (board_of c.args.identity.now) c.args.mode c.args.volumes.now in
    let listed : c.in_ok-list.list.items ≡ firsts all = search rules in
    few_files (board_of c.args.identity.now) c.args.mode c.args.volumes.now c.in_ok-list.list.items listed
