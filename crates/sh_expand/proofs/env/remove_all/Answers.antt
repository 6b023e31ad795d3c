use Rattle.std.proofs.Common.{◌≡◌, ◌<◌, length, ap, sym, ◌∙◌, arith}
use Rattle.std.specs.List.{prefix_len}
use Rattle.std.proofs.lemmas.List.Sums.{prefix_len-le-length}
use Rattle.sh_expand.specs.Environment.{without}
use Rattle.sh_expand.proofs.Variables.{differs, without_none, without_remove}
use Rattle.sh_expand.proofs.env.remove_all.Goals as goal

pub returns-then-at-len : goal.returns-then-at-len
returns-then-at-len c =
    let items = c.pairs.variables.items in
    let e = c.place_of-at.ensures ∙ ap (prefix_len (differs c.args.name.now)) c.as_slice.ensures.value in
    let m = prefix_len-le-length (differs c.args.name.now) items in
    let l : prefix_len (differs c.args.name.now) items ≡ length items = omega (arith, e, m, c.if-at-len.true, c.len.ensures, c.pairs.variables.ok.0) in
    sym (without_none c.args.name.now items l) ∙ c.pairs.invariant

pub pairs-preserved : goal.pairs-preserved
pairs-preserved c =
    let items = c.pairs.variables.items in
    let e = c.place_of-at.ensures ∙ ap (prefix_len (differs c.args.name.now)) c.as_slice.ensures.value in
    let l : c.place_of-at.result < length items = omega (arith, c.if-at-len.false, c.len.ensures, c.pairs.variables.ok.0) in
    ap (without c.args.name.now) c.remove-pair.ensures.items ∙ without_remove c.args.name.now items c.place_of-at.result e l ∙ c.pairs.invariant
