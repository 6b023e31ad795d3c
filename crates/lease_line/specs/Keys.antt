-- The keys of a line.
use Rattle.std.specs.Prelude.{ℕ, List, codes, if◌then◌else◌, Option, Some, None}
use Rattle.std.specs.Str.{bytes_eq}
use Rattle.lease_line.specs.declared.key.Key.{Key}
use Rattle.lease_line.specs.declared.key.Key.TheVariants.{Mask, Router, Dns, Www, Tftps, Tftp, File, Url, Onie, Update, Siaddr}

-- the key of a name
abbrev pub key_of : List ℕ → Option Key
key_of name =
    if bytes_eq name (codes "mask") then Some Mask
    else if bytes_eq name (codes "router") then Some Router
    else if bytes_eq name (codes "dns") then Some Dns
    else if bytes_eq name (codes "www") then Some Www
    else if bytes_eq name (codes "tftps") then Some Tftps
    else if bytes_eq name (codes "tftp") then Some Tftp
    else if bytes_eq name (codes "file") then Some File
    else if bytes_eq name (codes "url") then Some Url
    else if bytes_eq name (codes "onie") then Some Onie
    else if bytes_eq name (codes "update") then Some Update
    else if bytes_eq name (codes "siaddr") then Some Siaddr
    else None
