-- The names that an installer may have (ONIE design specification, image discovery, default file name search order).
use Rattle.std.specs.Prelude.{ℕ, List, [], ◌∷◌, ◌++◌, Option, option_map, codes}
use Rattle.std.specs.List.{flat_map}
use Rattle.std.specs.Option.{option_to_list}
use Rattle.tlvinfo.specs.Platform.{Parts}
use Rattle.tlvinfo.specs.Identity.{Board}
use Rattle.bd_mode.specs.declared.mode.Mode.{Mode}
use Rattle.bd_mode.specs.declared.mode.Mode.TheVariants as modes

-- what each name begins with
abbrev pub base_of : Mode → List ℕ
base_of modes.Install = codes "onie-installer"
base_of modes.Rescue = codes "onie-installer"
base_of modes.Uninstall = codes "onie-installer"
base_of modes.Update = codes "onie-updater"
base_of modes.Embed = codes "onie-updater"

-- the names over a base without `.bin`, the narrowest first; one speaks of the silicon, where that is known
abbrev pub stems : List ℕ → Parts → Option (List ℕ) → List (List ℕ)
stems base p silicon =
    (base ++ codes "-" ++ p.arch ++ codes "-" ++ p.machine ++ codes "-r" ++ p.revision)
    ∷ (base ++ codes "-" ++ p.arch ++ codes "-" ++ p.machine)
    ∷ (base ++ codes "-" ++ p.machine)
    ∷ option_to_list (option_map (λ s. base ++ codes "-" ++ p.arch ++ codes "-" ++ s) silicon)
    ++ (base ++ codes "-" ++ p.arch) ∷ base ∷ []

-- a stem, and at once the same with `.bin`
abbrev pub both_names : List ℕ → List (List ℕ)
both_names stem = stem ∷ (stem ++ codes ".bin") ∷ []

-- the names on a board, in the order in which they are tried
abbrev pub installer_names : Board → Option (List ℕ) → Mode → List (List ℕ)
installer_names board silicon mode = flat_map both_names (stems (base_of mode) board.parts silicon)
