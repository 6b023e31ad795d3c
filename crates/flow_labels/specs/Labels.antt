-- The labels of flows.
use Rattle.std.specs.Prelude.{ℕ, List, ◌++◌, codes}

-- leases on an interface
abbrev pub dhcp_label : List ℕ → List ℕ
dhcp_label iface = codes "dhcp " ++ iface

-- neighbours on an interface
abbrev pub nbr_label : List ℕ → List ℕ
nbr_label iface = codes "nbr " ++ iface

-- the addresses of a host, asked of a name server
abbrev pub dns_label : List ℕ → List ℕ → List ℕ
dns_label server host = codes "dns " ++ server ++ codes " " ++ host

-- a file over TFTP, by its path at a server
abbrev pub tftp_label : List ℕ → List ℕ → List ℕ
tftp_label server path = codes "tftp " ++ server ++ codes " " ++ path

-- a body over HTTP, by its target at a server
abbrev pub http_label : List ℕ → List ℕ → List ℕ
http_label server target = codes "http " ++ server ++ codes " " ++ target
