use Rattle.bd_codes.proofs.TlvLengths.{allows-mac}
use Rattle.tlvinfo.proofs.PlatformLemmas.{platform-short}
use Rattle.tlvinfo.proofs.identifying.identity.Goals as goal

pub kept-requires-2-clause-ascii : goal.kept-requires-2-clause-ascii
kept-requires-2-clause-ascii c = (platform-short _ _ (rw c.in_ok-parts.ensures.ok_part at c.platform.ensures.found)).arch.ascii

pub kept-requires-3-clause-ascii : goal.kept-requires-3-clause-ascii
kept-requires-3-clause-ascii c = (platform-short _ _ (rw c.in_ok-parts.ensures.ok_part at c.platform.ensures.found)).machine.ascii

pub kept-requires-4-clause-ascii : goal.kept-requires-4-clause-ascii
kept-requires-4-clause-ascii c = (platform-short _ _ (rw c.in_ok-parts.ensures.ok_part at c.platform.ensures.found)).revision.ascii

pub six-requires : goal.six-requires
six-requires c = allows-mac _ (rw c.in_ok-address.ensures.ok_part at c.get-2.ensures.allowed)
