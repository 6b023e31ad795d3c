-- Where a request for a candidate goes, and what it asks for.
use Rattle.std.specs.Prelude.{IsTrue, ℕ, Bool, not, ◌&&◌, ◌||◌, ◌==◌, nat_le, nat_eq, if◌then◌else◌, List, [], ◌++◌, length, drop, slice_index, codes, Option, Some, None, is_some, unwrap_or, option_and_then, Result, Ok, Err}
use Rattle.std.specs.Char.{is_ascii}
use Rattle.std.specs.List.{list_all}
use Rattle.std.specs.Net.Reader.{read_ipv4, whole_value}
use Rattle.std.specs.Option.{option_eq}
use Rattle.std.specs.Str.{bytes_eq}
use Rattle.flow_labels.specs.Hosts.{IsHost, server_text}
use Rattle.flow_labels.specs.Labels.{tftp_label}
use Rattle.host_name.specs.HostName.{is_host_name, without_last_dot}
use Rattle.url.specs.Host.{host_text}
use Rattle.url.specs.Parser.{parse_url}
use Rattle.url.specs.Parts.{Parts, has_credentials}
use Rattle.url.specs.declared.error.ParseError.{ParseError}
use Rattle.url.specs.declared.host.Host.{Host}
use Rattle.url.specs.declared.host.Host.TheVariants.{Domain, Ipv4, Ipv6}
use Rattle.url_waterfall.specs.declared.candidate.Candidate.{Candidate}
use Rattle.url_waterfall.specs.declared.candidate.Place.{Place}
use Rattle.url_waterfall.specs.declared.candidate.Place.TheVariants as places
use Rattle.find_fetch.specs.declared.request.Aim.{Aim}
use Rattle.find_fetch.specs.declared.request.Aimed.{Aimed}
use Rattle.find_fetch.specs.declared.request.Aimed.TheVariants as aimeds
use Rattle.find_fetch.specs.declared.request.Spot.{Spot}
use Rattle.find_fetch.specs.declared.request.Spot.TheVariants.{At, Called}
use Rattle.find_fetch.specs.declared.request.Way.{Way}
use Rattle.find_fetch.specs.declared.request.Way.TheVariants as ways
use Rattle.find_fetch.specs.declared.fetched.Miss.TheVariants.{BadUrl, Scheme}

-- the URL that was read, if the text is one
abbrev pub read_of : Result Parts ParseError → Option Parts
read_of (Ok url) = Some url
read_of (Err e) = None

-- The URL that a text is, if it is one (URL Standard, section 4.4). The text of every URL is ASCII.
unfoldable pub url_of : List ℕ → Option Parts
url_of text = if list_all is_ascii text then read_of (parse_url None text) else None

-- the text is an IPv4 address (RFC 3986, section 3.2.2)
unfoldable pub is_v4 : List ℕ → Bool
is_v4 text = is_some (whole_value (read_ipv4 text))

-- a host that is no address by its form: an IPv4 address, or a name, whose last dot is dropped, or none of the two
abbrev pub named_spot : List ℕ → Option Spot
named_spot text =
    if is_v4 text then Some (At text)
    else (if is_host_name (without_last_dot text) then Some (Called (without_last_dot text)) else None)

-- where a host is: an address as it is written, or a name
abbrev pub spot_of : Host (List ℕ) → Option Spot
spot_of (Domain text) = named_spot text
spot_of (Ipv4 address) = Some (At (host_text (Ipv4 address)))
spot_of (Ipv6 address) = Some (At (host_text (Ipv6 address)))

-- `?` and the query, if there is one
abbrev pub query_text : Option (List ℕ) → List ℕ
query_text None = []
query_text (Some query) = codes "?" ++ query

-- the text without a `/` at its front
abbrev pub without_slash : List ℕ → List ℕ
without_slash text = if slice_index text 0 == 0x2F then drop 1 text else text

-- what is asked for over TFTP: the path and the query, without the first `/`
abbrev pub path_of : Parts → List ℕ
path_of url = without_slash (url.path ++ query_text url.query)

-- printable ASCII
abbrev pub is_printable : ℕ → Bool
is_printable b = nat_le 0x20 b && nat_le b 0x7E

-- what a server can be asked for over TFTP: 1 to 400 bytes of printable ASCII
unfoldable pub is_path : List ℕ → Bool
is_path path = nat_le 1 (length path) && nat_le (length path) 400 && list_all is_printable path

-- a URL that no request is made for: it has a user name or a password, port 0, or no path that can be asked for
abbrev pub is_unfit : Parts → List ℕ → Bool
is_unfit url path = has_credentials url || option_eq nat_eq url.port (Some 0) || not (is_path path)

-- a request over TFTP, to port 69 where none is given
abbrev pub at_spot : Parts → List ℕ → Option Spot → Aimed
at_spot url path None = aimeds.Refused BadUrl
at_spot url path (Some spot) =
    aimeds.Aim (record { spot = spot; port = unwrap_or url.port 69; way = ways.Tftp path })

-- what is asked for: the path that a candidate has of its own, or the URL's
abbrev pub asked_by : Option (List ℕ) → Parts → List ℕ
asked_by None url = path_of url
asked_by (Some path) url = path

-- The tests in their order: the text is a URL, its scheme is fetched over, and the rest.
abbrev pub aimed_by : Option Parts → (Parts → List ℕ) → Aimed
aimed_by None path = aimeds.Refused BadUrl
aimed_by (Some url) path =
    if not (bytes_eq url.scheme (codes "tftp")) then aimeds.Refused Scheme
    else (if is_unfit url (path url) then aimeds.Refused BadUrl
    else at_spot url (path url) (option_and_then spot_of url.host))

-- a candidate's place, with the text that is shown for it
abbrev pub aimed_for : Place → List ℕ → Aimed
aimed_for (places.Local volume name) shown = aimeds.Local
aimed_for places.Url shown = aimed_by (url_of shown) (asked_by None)
aimed_for (places.Tftp server path) shown = aimed_by (url_of shown) (asked_by (Some path))

-- where a request for a candidate goes
unfoldable pub aim_of : Candidate → Aimed
aim_of c = aimed_for c.place c.shown

-- what a request asks for can be asked for
abbrev pub IsAskable : Way → Type 0
IsAskable (ways.Tftp path) = IsTrue (is_path path)

-- an address is as labels show it, and a name is one of a host
abbrev pub IsSpot : Spot → Type 0
IsSpot (At host) = IsHost host
IsSpot (Called name) = IsTrue (is_host_name name)

-- the label of the flow of a request to this host: what it asks for, and of whom
abbrev pub way_label : ℕ → List ℕ → Way → List ℕ
way_label port host (ways.Tftp path) = tftp_label (server_text host port) path

abbrev pub label_of : Aim → List ℕ → List ℕ
label_of aim host = way_label aim.port host aim.way
