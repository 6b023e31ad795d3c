-- The files that a script serves.
use Rattle.std.specs.Prelude.{◌≡◌, ℕ, Bool, true, false, not, nat_le, List, [], ◌∷◌, length, codes, Option, Some, None, option_map, find}
use Rattle.std.specs.List.{flat_map}
use Rattle.std.specs.BTreeMap.{BTreeMap, get}
use Rattle.std.specs.Cmp.Lexicographic.{slice_cmp}
use Rattle.std.specs.Ordering.{nat_cmp}
use Rattle.std.specs.declared.vec.Vec.{Vec}
use Rattle.bd_dev.specs.declared.faults.DevFault.{DevFault}
use Rattle.bd_dev.specs.declared.faults.DevFault.TheVariants.{Failed, Memory as OutOfMemory}
use Rattle.bd_dev.specs.Volumes.{Volume, bytes_of, file_of}
use Rattle.net_script.specs.declared.fault.ScriptFault.{ScriptFault}
use Rattle.net_script.specs.declared.fault.ScriptFault.TheVariants.{Media, Memory}
use Rattle.net_script.specs.declared.feed.Feed.{Feed}
use Rattle.net_script.specs.declared.feed.Feed.TheVariants as feeds
use Rattle.net_script.specs.declared.feed.What.TheVariants.{Blocks}
use Rattle.net_script.specs.declared.line.Line.{Line}
use Rattle.net_script.specs.declared.line.Line.TheVariants.{Iface, Flow, At, Tftp}
use Rattle.net_script.specs.declared.line.Numbered.{Numbered}

-- how the media's fault ends the reading of files
abbrev pub media_fault : DevFault → ScriptFault
media_fault Failed = Media
media_fault OutOfMemory = Memory

-- the volume of the files
abbrev pub net_volume : List ℕ
net_volume = codes "net"

-- there is a file, and it is not too long
abbrev pub is_body : Option (List ℕ) → Bool
is_body None = false
is_body (Some bytes) = nat_le (length bytes) 268435456

-- what a line gives to flows
abbrev pub feeds_of : List Volume → Line → List Feed
feeds_of volumes (Iface name) = []
feeds_of volumes (Flow rounds label) = feeds.Flow rounds label ∷ []
feeds_of volumes (At at arrival) = feeds.At at arrival ∷ []
feeds_of volumes (Tftp rounds label file every) =
    feeds.Serves rounds label (Blocks every (bytes_of volumes net_volume file)) ∷ []

-- what lines give to flows, in order
abbrev pub served : List Volume → List Numbered → List Feed
served volumes lines = flat_map (λ n. feeds_of volumes n.line) lines

-- the line serves a file that is not there, or too long
abbrev pub lacks_body : List Volume → Line → Bool
lacks_body volumes (Tftp rounds label file every) = not (is_body (file_of volumes net_volume file))
lacks_body volumes _ = false

-- the number of the first such line
abbrev pub first_lacking : List Volume → List Numbered → Option ℕ
first_lacking volumes lines = option_map (λ n. n.number) (find (λ n. lacks_body volumes n.line) lines)

-- the file's bytes were found, or it is not there or too long
abbrev pub IsBodyOf : Option (List ℕ) → Option (List ℕ) → Type 0
IsBodyOf file None = is_body file ≡ false
IsBodyOf file (Some body) = (is_body file ≡ true) × (file ≡ Some body)

-- what is known by each name is the body of its file
abbrev pub AreBodies : {Y : Type 0} → List Volume → BTreeMap (Vec ℕ Y) (List ℕ) → Type 0
AreBodies {Y} volumes known = (name : Vec ℕ Y) (body : List ℕ)
    → get (λ x y. slice_cmp nat_cmp x.items y.items) known name ≡ Some body
    → IsBodyOf (file_of volumes net_volume name.items) (Some body)
