-- Volumes of named files, as removable media hold them.
use Rattle.std.specs.Prelude.{◌≡◌, ◌≢◌, ℕ, ◌-◌, ◌<◌, ◌≤◌, List, [], ◌∷◌, ◌++◌, map, length, take, drop, Option, Some, unwrap_or, option_map, find, Contains}
use Rattle.std.specs.Option.{ForSome, option_and_then}
use Rattle.std.specs.Str.{bytes_eq}
use Rattle.bd_dev.specs.Calls.{Calls}

-- a file, by its name and its bytes
pub record File : Type 0 where
  pub name : List ℕ
  pub bytes : List ℕ

-- a volume, by its name and its files
pub record Volume : Type 0 where
  pub name : List ℕ
  pub files : List File

-- the volume of this name
abbrev pub volume_of : List Volume → List ℕ → Option Volume
volume_of volumes name = find (λ v. bytes_eq v.name name) volumes

-- the bytes of the file of this name among a volume's files
abbrev pub file_in : List File → List ℕ → Option (List ℕ)
file_in files name = option_map (λ f. f.bytes) (find (λ f. bytes_eq f.name name) files)

-- the bytes of the file of this name in the volume of this name
abbrev pub file_of : List Volume → List ℕ → List ℕ → Option (List ℕ)
file_of volumes volume name = option_and_then (λ v. file_in v.files name) (volume_of volumes volume)

-- the same, where an absent file has no bytes
abbrev pub bytes_of : List Volume → List ℕ → List ℕ → List ℕ
bytes_of volumes volume name = unwrap_or (file_of volumes volume name) []

-- the names of the volumes, in their order
abbrev pub volume_names : List Volume → List (List ℕ)
volume_names volumes = map (λ v. v.name) volumes

-- the names are those of the volumes, where these are told
abbrev pub ListsVolumes : Option (List Volume) → List (List ℕ) → Type 0
ListsVolumes content names = ForSome content (λ volumes. names ≡ volume_names volumes)

-- the file's length, or none where there is no such file, where the volumes are told
abbrev pub FindsFile : Option (List Volume) → List ℕ → List ℕ → Option ℕ → Type 0
FindsFile content volume name found =
    ForSome content (λ volumes. found ≡ option_map length (file_of volumes volume name))

-- out begins with n bytes of the file, those from at on, and has none only where the file ends
pub record IsPiece (file : List ℕ) (at n : ℕ) (out : List ℕ) : Type 0 where
  pub bytes : take n out ≡ take n (drop at file)
  pub within : n ≤ length file - at
  pub moves : 0 < length out → at < length file → 0 < n

-- a read of n bytes into out, which are the file's where the volumes are told
pub record GivesBytes
    (content : Option (List Volume)) (volume name : List ℕ) (at n : ℕ) (out : List ℕ) : Type 0 where
  pub fits : n ≤ length out
  pub told : ForSome content (λ volumes. IsPiece (bytes_of volumes volume name) at n out)

-- the file of this name has these bytes now, and every other file of the volume is as before
pub record PutsFile (old new : List File) (name bytes : List ℕ) : Type 0 where
  pub put : file_in new name ≡ Some bytes
  pub others : (f : List ℕ) → f ≢ name → file_in new f ≡ file_in old f

-- this file has these bytes now, every other file is as before, and a volume that is new comes last
pub record AddsFile (old new : List Volume) (volume name bytes : List ℕ) : Type 0 where
  pub added : file_of new volume name ≡ Some bytes
  pub others : (v f : List ℕ) → ¬ ((v ≡ volume) × (f ≡ name)) → file_of new v f ≡ file_of old v f
  pub known : Contains (volume_names old) volume → volume_names new ≡ volume_names old
  pub first : ¬ (Contains (volume_names old) volume)
      → volume_names new ≡ volume_names old ++ volume ∷ []

-- media in memory
pub record MediaInMemory : Type 0 where
  pub volumes : List Volume
  pub calls : Calls
