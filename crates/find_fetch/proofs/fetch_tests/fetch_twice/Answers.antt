use Rattle.std.proofs.Common.{rules, ◌≡◌}
use Rattle.find_fetch.proofs.Asking.{enough_for_one}
use Rattle.find_fetch.proofs.fetch_tests.fetch_twice.Goals as goal

pub fetch-second-requires : goal.fetch-second-requires
fetch-second-requires c = λ remote. c.fetch-first.ensures.left 1 (enough_for_one _ c.args.candidate.now remote (search rules))
