use Rattle.std.proofs.Common.{arith}
use Rattle.std.proofs.lemmas.List.Sums.{prefix_len-le-length}
use Rattle.sh_arith.specs.Text.{is_name_byte}
use Rattle.sh_arith.proofs.text.split_name.Goals as goal

pub split_at-requires : goal.split_at-requires
split_at-requires c = omega (arith, prefix_len-le-length is_name_byte c.args.text.now)
