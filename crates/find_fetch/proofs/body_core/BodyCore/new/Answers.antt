use Rattle.std.proofs.Common.{rules, ◌≡◌, List, ℕ, subst, sym}
use Rattle.waits.specs.Waits.{ComesTo}
use Rattle.tftp_client.specs.Packets.{IsPath}
use Rattle.find_fetch.specs.Bodies.{body_acts, body_result, outcome_of}
use Rattle.find_fetch.specs.declared.body_core.BodyCore.{BodyCore}
use Rattle.find_fetch.proofs.Clients.{aim_comes_to, askable_path, path_in}
use Rattle.find_fetch.proofs.body_core.BodyCore.new.Goals as goal

pub new-requires : goal.new-requires
new-requires c =
    let same : c.as_slice.result.now ≡ path_in c.args.aim.now.way = search rules in
    subst (λ (path : List ℕ). IsPath path) (sym same) (askable_path c.args.aim.now.way c.requires)

pub returns-clause-client : goal.returns-clause-client
returns-clause-client c = search rules

pub returns-clause-comes_to : goal.returns-clause-comes_to
returns-clause-comes_to c = λ comes.
    subst (λ (core : BodyCore). ComesTo body_acts body_result core comes (outcome_of c.args.aim.now comes)) (sym (returns-clause-client c))
    (aim_comes_to c.args.aim.now comes)
