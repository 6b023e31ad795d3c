-- A lease without where its lists lie in memory.
use Rattle.dhcp_lease.specs.declared.lease.Lease.{Lease}
use Rattle.dhcp_lease.specs.Lease.{Terms}

abbrev pub terms_of : Lease → Terms
terms_of l = record {
  address = l.address;
  server = l.server;
  siaddr = l.siaddr;
  dns = l.dns.items;
  www = l.www.items;
  tftps = l.tftps.items;
  tftp_name = l.tftp_name;
  file = l.file;
  url = l.url;
  onie_install = l.onie_install;
  onie_update = l.onie_update;
}
