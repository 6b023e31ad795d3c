use Rattle.std.proofs.Common.{◌∙◌, Some}
use Rattle.bd_text.proofs.GroupLemmas.{length-v6_groups, v6_groups-same}
use Rattle.bd_text.proofs.v6.V6.parse.Goals as goal

pub returns-in_err-groups-clause-only : goal.returns-in_err-groups-clause-only
returns-in_err-groups-clause-only c = λ bytes spelled. absurd (c.in_err-groups.ensures.only _ (length-v6_groups 8 bytes spelled.sixteen.size) spelled.groups)

pub returns-clause-only : goal.returns-clause-only
returns-clause-only c = λ bytes spelled.
    let read = c.in_ok-groups.ensures.only _ (length-v6_groups 8 bytes spelled.sixteen.size) spelled.groups in
    let made = c.bytes_of.ensures.bytes in
    let same = v6_groups-same 8 c.bytes_of.result bytes made.size spelled.sixteen.size made.small spelled.sixteen.small (c.bytes_of.ensures.groups ∙ read) in
    λ i. Some (record { bytes = same i })
