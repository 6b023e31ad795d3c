-- How a URL is shown.
use Rattle.std.specs.Prelude.{ℕ, List, if◌then◌else◌, Option, Some, None}
use Rattle.std.specs.Char.{is_ascii}
use Rattle.std.specs.List.{list_all}
use Rattle.std.specs.Result.{result_ok}
use Rattle.url.specs.Parser.{parse_url}
use Rattle.url.specs.Parts.{Parts, serialize}

-- The URL that a text is, if it is one (URL Standard, section 4.4). The text of every URL is ASCII.
unfoldable pub url_of : List ℕ → Option Parts
url_of text = if list_all is_ascii text then result_ok (parse_url None text) else None

-- as the URL Standard writes it (section 4.5), or as it stands where it is none
abbrev pub written : List ℕ → Option Parts → List ℕ
written text None = text
written text (Some url) = serialize url

abbrev pub shown_url : List ℕ → List ℕ
shown_url text = written text (url_of text)
