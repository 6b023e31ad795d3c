use Rattle.std.proofs.Common.{sym, ◌∙◌}
use Rattle.net_script.proofs.Keeping.{known_body, read_body}
use Rattle.net_script.proofs.serving.body_of.Goals as goal

pub returns-in-Some-clause-told : goal.returns-in-Some-clause-told
returns-in-Some-clause-told g c = λ volumes told.
    known_body volumes c.args.known.now c.in_ok-key.key c.args.name.now c.in-Some.body.now c.in_ok-again.field-0 (c.requires volumes told) c.in_ok-key.ensures.items (sym c.in-Some.ensures.value) c.in_ok-again.ensures

pub returns-in_ok-keep-in-Some-2-clause-known : goal.returns-in_ok-keep-in-Some-2-clause-known
returns-in_ok-keep-in-Some-2-clause-known g c = λ volumes told.
    let found = sym c.in-Some-2.is ∙ c.in_ok-size.ensures.found volumes told in
    let whole = c.in_ok-bytes-in-Some-2.ensures.whole volumes (c.in_ok-size.ensures.kept ∙ told) in
    let read = read_body volumes c.args.name.now c.in_ok-key.key.items c.in_ok-bytes-in-Some-2.bytes c.in_ok-body-in-Some-2.body c.in-Some-2.size found c.if-size-le-LONGEST.true whole c.in_ok-body-in-Some-2.ensures c.in_ok-key.ensures.items in
    c.in_ok-keep-in-Some-2.ensures volumes (c.requires volumes told) read
