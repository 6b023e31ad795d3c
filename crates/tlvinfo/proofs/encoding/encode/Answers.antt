use Rattle.std.proofs.Common.{◌≡◌, ◌+◌, ◌≤◌, List, length, subst, ap, ◌∙◌, arith}
use Rattle.tlvinfo.specs.TlvInfo.{Field, joined, spelling, AreFields}
use Rattle.tlvinfo.specs.Encoding.{overwritten}
use Rattle.tlvinfo.specs.View.{fields_of}
use Rattle.tlvinfo.proofs.Joined.{length-spelling}
use Rattle.tlvinfo.proofs.Writes.{Tlv-written, Tlv-same}
use Rattle.tlvinfo.proofs.encoding.encode.Goals as goal

is_written : (c : goal.After-write) → c.write.new.out ≡ overwritten (spelling c.args.info.now) c.args.out.now
is_written c =
    subst (λ (fs : List Field). c.write.new.out ≡ overwritten (spelling fs) c.args.out.now) (ap fields_of c.deref-2.ensures.value ∙ c.info.view_is) c.write.ensures

sum : (c : goal.After-write) → (6 + length (joined c.args.info.now) ≤ 2037) × (c.in-Some.total ≡ 6 + length (joined c.args.info.now))
sum c =
    subst (λ (fs : List Field). (6 + length (joined fs) ≤ 2037) × (c.in-Some.total ≡ 6 + length (joined fs))) (ap fields_of c.deref.ensures.value ∙ c.info.view_is) (rw c.in-Some.is at c.total_with.ensures)

size : (c : goal.After-write) → 11 + c.in-Some.total ≡ length (spelling c.args.info.now)
size c = omega (arith, (sum c).1, length-spelling c.args.info.now)

pub returns-clause-written : goal.returns-clause-written
returns-clause-written c = is_written c

pub returns-clause-reads : goal.returns-clause-reads
returns-clause-reads c =
    Tlv-written c.args.info.now _ _ _ (subst AreFields c.info.view_is c.info.invariant) (omega (arith, (sum c).0)) (size c) (is_written c)

pub returns-clause-same : goal.returns-clause-same
returns-clause-same c = λ bytes tlv. Tlv-same c.args.info.now _ _ _ bytes (size c) (is_written c) tlv
