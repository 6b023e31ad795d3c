use Rattle.std.proofs.Common.{◌≡◌, ◌-◌, length, drop, ap, ◌∙◌, arith, length-append, length-drop}
use Rattle.tlvinfo.specs.TlvInfo.{joined, header}
use Rattle.tlvinfo.specs.View.{fields_of}
use Rattle.tlvinfo.proofs.Writes.{overwritten-next, overwritten-spelling}
use Rattle.tlvinfo.proofs.encoding.write.Goals as goal

pub returns : goal.returns
returns c =
    let out = c.args.out.now in
    let headed = c.write_header.new.out in
    let first = header c.args.total in
    let second = joined (fields_of c.args.entries.now) in
    let long : length headed ≡ length out = ap length c.write_header.ensures ∙ omega (arith, length-append first (drop 11 out), length-drop 11 out, c.requires.room) in
    let both = overwritten-next 11 (length headed - 11) headed c.write_fields.new.out first second out c.write_header.ensures (omega arith) (omega (arith, long, c.requires.room)) (omega (arith, long, c.requires.room, c.requires.fits)) c.write_fields.ensures in
    overwritten-spelling (fields_of c.args.entries.now) c.args.total _ _ c.write_checksum.new.out out c.requires.fits (omega (arith, c.requires.fits)) both c.write_checksum.ensures
