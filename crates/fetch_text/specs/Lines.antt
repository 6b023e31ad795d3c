-- The console's line of a candidate.
use Rattle.std.specs.Prelude.{ℕ, List, ◌++◌, length, codes}
use Rattle.std.specs.Fmt.{decimal}
use Rattle.find_fetch.specs.declared.fetched.Fetched.{Fetched}
use Rattle.find_fetch.specs.declared.fetched.Fetched.TheVariants as fetched
use Rattle.find_fetch.specs.declared.fetched.Miss.{Miss}
use Rattle.find_fetch.specs.declared.fetched.Miss.TheVariants as misses
use Rattle.tftp_client.specs.declared.tftp_core.TftpMiss.{TftpMiss}
use Rattle.tftp_client.specs.declared.tftp_core.TftpMiss.TheVariants.{Refused, Silent, TooLarge, Flooded}

-- why a transfer over TFTP gives no body
abbrev pub tftp_cause_of : TftpMiss → List ℕ
tftp_cause_of (Refused code) = codes "refused " ++ decimal code
tftp_cause_of Silent = codes "silent"
tftp_cause_of TooLarge = codes "too large"
tftp_cause_of Flooded = codes "flooded"

-- why there is no body
abbrev pub cause_of : Miss → List ℕ
cause_of misses.NoFile = codes "no file"
cause_of (misses.Short want got) = codes "short " ++ decimal want ++ codes " " ++ decimal got
cause_of misses.BadUrl = codes "bad url"
cause_of misses.Scheme = codes "scheme"
cause_of misses.NoServer = codes "no name server"
cause_of (misses.Tftp miss) = tftp_cause_of miss
cause_of misses.TooLarge = codes "too large"

-- the line of a candidate that is shown so, of which there is no body
abbrev pub miss_line_of : List ℕ → Miss → List ℕ
miss_line_of shown miss = codes "miss " ++ shown ++ codes ": " ++ cause_of miss ++ codes "\n"

-- that of one whose body has this length
abbrev pub found_line_of : List ℕ → ℕ → List ℕ
found_line_of shown size = codes "found " ++ shown ++ codes ": " ++ decimal size ++ codes " bytes\n"

-- the line of a candidate, by what a fetch gives of it
unfoldable pub line_of : List ℕ → Fetched → List ℕ
line_of shown (fetched.Body body) = found_line_of shown (length body)
line_of shown (fetched.Miss miss) = miss_line_of shown miss
