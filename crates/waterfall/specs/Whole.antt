-- The whole list of candidates.
use Rattle.std.specs.Prelude.{ℕ, Bool, true, false, not, List, [], ◌++◌, map, filter, codes, Option, Some, None, option_map}
use Rattle.std.specs.List.{flat_map}
use Rattle.std.specs.Str.{bytes_eq}
use Rattle.bd_mode.specs.declared.mode.Mode.{Mode}
use Rattle.dhcp_lease.specs.Lease.{Terms}
use Rattle.dhcp_lease.specs.LeaseView.{terms_of}
use Rattle.dhcp_lease.specs.declared.lease.Lease.{Lease}
use Rattle.tlvinfo.specs.Identity.{Board}
use Rattle.url_waterfall.specs.Names.{installer_names}
use Rattle.waterfall.specs.Leases.{at_maybe, tftps_of, urls_of, webs_of}
use Rattle.waterfall.specs.Places.{local_file}
use Rattle.waterfall.specs.declared.candidate.Candidate.{Candidate}
use Rattle.waterfall.specs.declared.candidate.Place.{Place}
use Rattle.waterfall.specs.declared.candidate.Place.TheVariants as places
use Rattle.waterfall.specs.declared.port.Fixed.{Fixed}
use Rattle.waterfall.specs.declared.port.Port.{Port}

-- a volume other than the one of the files that the network serves
abbrev pub is_local : List ℕ → Bool
is_local volume = not (bytes_eq volume (codes "net"))

-- for each local volume, each of the names
abbrev pub files_named : List (List ℕ) → List (List ℕ) → List Candidate
files_named names volumes = flat_map (λ volume. map (local_file volume) names) (filter is_local volumes)

-- what a lease gives, where there is one
abbrev pub of_lease : (Terms → List Candidate) → Option Lease → List Candidate
of_lease f None = []
of_lease f (Some lease) = f (terms_of lease)

abbrev pub port_urls : Mode → Port → List Candidate
port_urls mode p = of_lease (urls_of mode) p.lease

abbrev pub port_webs : List (List ℕ) → Port → List Candidate
port_webs names p = of_lease (webs_of names) p.lease

abbrev pub port_tftps : List (List ℕ) → Port → List Candidate
port_tftps names p = of_lease (tftps_of names p.mac) p.lease

-- in the order of these parts: the fixed URL, the files of local media, and of all leases the URLs, the files of web
-- servers and those of TFTP servers
abbrev pub all_of : List (List ℕ) → Mode → Option (List ℕ) → List (List ℕ) → List Port → List Candidate
all_of names mode url volumes ports =
    at_maybe url
    ++ files_named names volumes
    ++ flat_map (port_urls mode) ports
    ++ flat_map (port_webs names) ports
    ++ flat_map (port_tftps names) ports

abbrev pub waterfall : Board → Mode → Fixed → List (List ℕ) → List Port → List Candidate
waterfall board mode fixed volumes ports = all_of (installer_names board fixed.silicon mode) mode fixed.url volumes ports

-- it is not on a local medium
abbrev pub is_remote_place : Place → Bool
is_remote_place places.Url = true
is_remote_place (places.Local volume name) = false
is_remote_place (places.Web server name) = true
is_remote_place (places.Tftp server path) = true

abbrev pub is_remote : Candidate → Bool
is_remote c = is_remote_place c.place
