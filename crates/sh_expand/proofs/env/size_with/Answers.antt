use Rattle.std.proofs.Common.{ap, arith, ◌∙◌, drop, take}
use Rattle.std.proofs.lemmas.List.Sums.{prefix_len-le-length}
use Rattle.sh_expand.specs.Environment.{size}
use Rattle.sh_expand.proofs.Variables.{differs, size_put}
use Rattle.sh_expand.proofs.env.size_with.Goals as goal

pub split_at-requires : goal.split_at-requires
split_at-requires c = omega (arith, c.place_of.ensures, prefix_len-le-length (differs c.args.name.now) c.args.variables.now)

pub returns : goal.returns
returns c =
    let h = size_put c.args.name.now c.args.value.now c.args.variables.now in
    let a = ap size (c.split_at.ensures.front ∙ ap (λ k. take k c.args.variables.now) c.place_of.ensures) in
    let b = ap size (c.after_first.ensures ∙ ap (drop 1) (c.split_at.ensures.back ∙ ap (λ k. drop k c.args.variables.now) c.place_of.ensures)) in
    omega (arith, h, a, b, c.size_of.ensures, c.size_of-2.ensures, c.saturating_add.ensures, c.saturating_add-2.ensures, c.saturating_add-3.ensures)
