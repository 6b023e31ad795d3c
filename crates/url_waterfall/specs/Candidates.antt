-- The candidates on local media, in their order.
use Rattle.std.specs.Prelude.{ℕ, Bool, true, false, not, List, ◌++◌, map, filter, None, codes}
use Rattle.std.specs.List.{flat_map}
use Rattle.std.specs.Str.{bytes_eq}
use Rattle.tlvinfo.specs.Identity.{Board}
use Rattle.bd_mode.specs.declared.mode.Mode.{Mode}
use Rattle.url_waterfall.specs.declared.candidate.Place.{Place}
use Rattle.url_waterfall.specs.declared.candidate.Place.TheVariants as places
use Rattle.url_waterfall.specs.declared.candidate.Candidate.{Candidate}
use Rattle.url_waterfall.specs.Names.{installer_names}

-- a file of a volume, shown as `file://VOLUME/NAME`
abbrev pub local_file : List ℕ → List ℕ → Candidate
local_file volume name = record {
  place = places.Local volume name;
  shown = codes "file://" ++ volume ++ codes "/" ++ name;
}

-- a file of a local medium, which is fetched without the network
abbrev pub is_file : Candidate → Bool
is_file c = is_file_place c.place
  where
    is_file_place : Place → Bool
    is_file_place (places.Local volume name) = true
    is_file_place _ = false

-- a volume other than the one of the files that the network serves
abbrev pub is_local : List ℕ → Bool
is_local volume = not (bytes_eq volume (codes "net"))

-- for each local volume, each of the names
abbrev pub files_named : List (List ℕ) → List (List ℕ) → List Candidate
files_named names volumes = flat_map (λ volume. map (local_file volume) names) (filter is_local volumes)

-- for each local volume, each name that an installer may have on the board, without silicon
abbrev pub local_files : Board → Mode → List (List ℕ) → List Candidate
local_files board mode volumes = files_named (installer_names board None mode) volumes
