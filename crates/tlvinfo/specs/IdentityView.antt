-- An identity without where it lies in memory.
use Rattle.tlvinfo.specs.declared.board.Identity.{Identity}
use Rattle.tlvinfo.specs.Identity.{Board}

abbrev pub board_of : Identity → Board
board_of i = record {
  platform = i.platform.bytes;
  parts = record { arch = i.arch.bytes; machine = i.machine.bytes; revision = i.revision.bytes };
  mac = i.mac.bytes;
}
