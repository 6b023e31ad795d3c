use Rattle.std.proofs.Common.{subst, arith}
use Rattle.tlvinfo.specs.Reading.{Gives}
use Rattle.tlvinfo.proofs.Completeness.{is_complete}
use Rattle.tlvinfo.proofs.Soundness.{is_found}
use Rattle.tlvinfo.proofs.decoding.decode.Goals as goal

pub returns-clause-found : goal.returns-clause-found
returns-clause-found c = is_found c.args.bytes.now c.read.result (λ i. omega (arith, c.type_inv.bytes i)) c.read.ensures

pub returns-clause-only : goal.returns-clause-only
returns-clause-only c = λ fields tlv. subst (Gives c.read.result) (is_complete c.args.bytes.now fields tlv) c.read.ensures
