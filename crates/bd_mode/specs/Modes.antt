-- How modes are written.
use Rattle.std.specs.Prelude.{ℕ, List, [], ◌∷◌, codes, Option, find}
use Rattle.std.specs.Str.{bytes_eq}
use Rattle.bd_mode.specs.declared.mode.Mode.{Mode}
use Rattle.bd_mode.specs.declared.mode.Mode.TheVariants.{Install, Rescue, Uninstall, Update, Embed}

-- the mode's name
abbrev pub text_of : Mode → List ℕ
text_of Install = codes "install"
text_of Rescue = codes "rescue"
text_of Uninstall = codes "uninstall"
text_of Update = codes "update"
text_of Embed = codes "embed"

-- all modes
abbrev pub modes : List Mode
modes = Install ∷ Rescue ∷ Uninstall ∷ Update ∷ Embed ∷ []

-- the mode whose name the text is, or none
abbrev pub mode_of : List ℕ → Option Mode
mode_of text = find (λ mode. bytes_eq (text_of mode) text) modes
