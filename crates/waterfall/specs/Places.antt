-- Candidates, and the texts that are shown for them.
use Rattle.std.specs.Prelude.{ℕ, List, ◌++◌, codes}
use Rattle.bd_text.specs.V4.{v4_text}
use Rattle.bd_text.specs.declared.v4.V4.{V4}
use Rattle.waterfall.specs.Shown.{shown_url}
use Rattle.waterfall.specs.declared.candidate.Place.TheVariants as places
use Rattle.waterfall.specs.declared.candidate.Candidate.{Candidate}

-- what is at a URL
abbrev pub at_url : List ℕ → Candidate
at_url text = record { place = places.Url; shown = shown_url text }

-- a file of a volume, shown as `file://VOLUME/NAME`
abbrev pub local_file : List ℕ → List ℕ → Candidate
local_file volume name = record {
  place = places.Local volume name;
  shown = codes "file://" ++ volume ++ codes "/" ++ name;
}

-- a file of a web server, shown as `http://A.B.C.D/NAME`
abbrev pub web_file : V4 → List ℕ → Candidate
web_file server name = record {
  place = places.Web server name;
  shown = codes "http://" ++ v4_text server.bytes ++ codes "/" ++ name;
}

-- a file of a TFTP server, shown as `tftp://SERVER/PATH`
abbrev pub tftp_file : List ℕ → List ℕ → Candidate
tftp_file server path = record {
  place = places.Tftp server path;
  shown = codes "tftp://" ++ server ++ codes "/" ++ path;
}
