use Rattle.std.proofs.Common.{[], refl}
use Rattle.std.proofs.lemmas.Bool.{eq-eqb, ne_eqb}
use Rattle.dhcp_lease.specs.Vendor.{block_options}
use Rattle.dhcp_lease.proofs.vendor.in_block.Goals as goal

pub returns-then-enterprise-eq-ONIE : goal.returns-then-enterprise-eq-ONIE
unfolding block_options
returns-then-enterprise-eq-ONIE c = rw (eq-eqb _ _ c.if-enterprise-eq-ONIE.true) c.first_suboption.ensures

pub returns : goal.returns
unfolding block_options
returns c = ([], rw (ne_eqb _ _ c.if-enterprise-eq-ONIE.false) refl, refl)
