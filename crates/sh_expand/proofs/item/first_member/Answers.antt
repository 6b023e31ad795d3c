use Rattle.std.proofs.Common.{◌∙◌, ap, sym}
use Rattle.sh_expand.specs.Pattern.{has}
use Rattle.sh_expand.proofs.Items.{has_one, has_range}
use Rattle.sh_expand.proofs.item.first_member.Goals as goal

pub returns-in-None-clause-found : goal.returns-in-None-clause-found
returns-in-None-clause-found c = λ b. ap (λ t. has t b) c.in_ok-low.ensures ∙ has_one c.in_ok-low.low c.in_ok-low.rest.now (sym c.in-None.ensures) b

pub returns-in-Some-clause-found : goal.returns-in-Some-clause-found
returns-in-Some-clause-found c = λ b. ap (λ t. has t b) c.in_ok-low.ensures ∙ has_range c.in_ok-low.low c.in_ok-low.rest.now _ _ (sym c.in-Some.ensures) b
