use Rattle.std.proofs.Common.{sym, ◌∙◌, ap, arith, ◌++◌, ◌∷◌, [], length, set, ◌≡◌, ◌<◌}
use Rattle.std.specs.List.{prefix_len}
use Rattle.std.proofs.lemmas.List.Sums.{prefix_len-le-length}
use Rattle.sh_expand.proofs.Variables.{differs, put_new, put_set}
use Rattle.sh_expand.proofs.env.put.Goals as goal

pub returns-then-at-len-clause-done : goal.returns-then-at-len-clause-done
returns-then-at-len-clause-done c =
    let items = c.args.variables.now.items in
    let e = c.place_of-at.ensures ∙ ap (prefix_len (differs c.args.name.now)) c.as_slice.ensures.value in
    let l : c.place_of-at.result < length items = omega (arith, c.if-at-len.true, c.len.ensures, c.args.variables.now.ok.0) in
    ap (λ v. set items c.place_of-at.result (c.index_mut-pair.result.now.0, v)) c.in_ok-value.ensures
    ∙ sym (put_set c.args.name.now c.args.value.now items c.place_of-at.result c.index_mut-pair.result.now e l c.index_mut-pair.ensures.value)

pub returns-in_ok-push-clause-done : goal.returns-in_ok-push-clause-done
returns-in_ok-push-clause-done c =
    let items = c.args.variables.now.items in
    let e = c.place_of-at.ensures ∙ ap (prefix_len (differs c.args.name.now)) c.as_slice.ensures.value in
    let m = prefix_len-le-length (differs c.args.name.now) items in
    let l : prefix_len (differs c.args.name.now) items ≡ length items = omega (arith, e, m, c.if-at-len.false, c.len.ensures, c.args.variables.now.ok.0) in
    c.in_ok-push.ensures.items ∙ ap (λ n. items ++ (n, c.in_ok-value.value) ∷ []) c.in_ok-name.ensures ∙ ap (λ v. items ++ (c.args.name.now, v) ∷ []) c.in_ok-value.ensures
    ∙ sym (put_new c.args.name.now c.args.value.now items l)
