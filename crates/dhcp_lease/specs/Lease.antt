-- What a message of a server gives.
use Rattle.std.specs.Prelude.{ℕ, List, Option}
use Rattle.bd_text.specs.declared.v4.V4.{V4}
use Rattle.dhcp_msg.specs.declared.message.Message.{Message}
use Rattle.dhcp_msg.specs.Options.{value_of}
use Rattle.dhcp_lease.specs.Texts.{text_of, text_or}
use Rattle.dhcp_lease.specs.Values.{addresses_of}
use Rattle.dhcp_lease.specs.Vendor.{suboption_of}

-- what a lease says
pub record Terms : Type 0 where
  pub address : V4
  pub server : V4
  pub siaddr : V4
  pub dns : List V4
  pub www : List V4
  pub tftps : List V4
  pub tftp_name : Option (List ℕ)
  pub file : Option (List ℕ)
  pub url : Option (List ℕ)
  pub onie_install : Option (List ℕ)
  pub onie_update : Option (List ℕ)

-- what the message gives, where it is of this server
abbrev pub lease_of : Message → V4 → Terms
lease_of message server = let os = message.options in record {
  address = message.yiaddr;
  server = server;
  siaddr = message.siaddr;
  dns = addresses_of (value_of 6 os);
  www = addresses_of (value_of 72 os);
  tftps = addresses_of (value_of 150 os);
  tftp_name = text_or (value_of 66 os) message.sname;
  file = text_or (value_of 67 os) message.file;
  url = text_of (value_of 114 os);
  onie_install = text_of (suboption_of 1 (value_of 125 os));
  onie_update = text_of (suboption_of 2 (value_of 125 os));
}
