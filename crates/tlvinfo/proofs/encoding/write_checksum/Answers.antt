use Rattle.std.proofs.Common.{◌+◌, set, arith}
use Rattle.std.proofs.lemmas.List.{length-set}
use Rattle.tlvinfo.proofs.Writes.{overwritten-two, overwritten-ending}
use Rattle.tlvinfo.proofs.encoding.write_checksum.Goals as goal

pub returns : goal.returns
returns c =
    let out = c.args.out.now in
    let at = c.args.at in
    let one = set out at 254 in
    let two = set one (at + 1) 4 in
    overwritten-ending at _ c.crc32-checksum.result two c.write_u32.new.buf out c.requires (overwritten-two at 254 4 out (omega arith)) (omega (arith, length-set out at 254, length-set one (at + 1) 4)) c.crc32-checksum.ensures c.write_u32.ensures
