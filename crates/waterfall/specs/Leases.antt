-- What a lease says of where an installer may be.
use Rattle.std.specs.Prelude.{ℕ, Bool, false, not, ◌||◌, ◌==◌, nat_eq, if◌then◌else◌, List, [], ◌∷◌, ◌++◌, map, take, codes, Option, Some, None, option_map}
use Rattle.std.specs.List.{flat_map, starts_with}
use Rattle.std.specs.Option.{option_to_list}
use Rattle.std.specs.Str.{bytes_eq}
use Rattle.bd_mode.specs.declared.mode.Mode.{Mode}
use Rattle.bd_mode.specs.declared.mode.Mode.TheVariants as modes
use Rattle.bd_text.specs.Mac.{mac_text}
use Rattle.bd_text.specs.V4.{v4_text}
use Rattle.bd_text.specs.declared.mac.Mac.{Mac}
use Rattle.bd_text.specs.declared.v4.V4.{V4}
use Rattle.dhcp_lease.specs.Lease.{Terms}
use Rattle.hex.specs.Hex.{encode_upper}
use Rattle.waterfall.specs.Places.{at_url, tftp_file, web_file}
use Rattle.waterfall.specs.declared.candidate.Candidate.{Candidate}

-- 0.0.0.0 stands where there is no address
abbrev pub is_given : V4 → Bool
is_given address = not (bytes_eq address.bytes (0 ∷ 0 ∷ 0 ∷ 0 ∷ []))

-- the address, where it is one
abbrev pub given : V4 → List V4
given address = if is_given address then address ∷ [] else []

-- ---- URLs

-- the first address, or else this one
abbrev pub first_given : List V4 → V4 → Option V4
first_given [] other = if is_given other then Some other else None
first_given (address ∷ more) other = Some address

-- the name, where there is one, or else the address
abbrev pub named_or : Option (List ℕ) → Option V4 → Option (List ℕ)
named_or (Some name) address = Some name
named_or None address = option_map (λ a. v4_text a.bytes) address

-- the TFTP server: its name, else the first of option 150, else the next server of the boot
abbrev pub tftp_server : Terms → Option (List ℕ)
tftp_server t = named_or t.tftp_name (first_given t.tftps t.siaddr)

-- `://` stands in the text
abbrev pub holds_mark : List ℕ → Bool
holds_mark [] = false
holds_mark (b ∷ bs) = starts_with nat_eq (b ∷ bs) (codes "://") || holds_mark bs

-- a text without the `/` at its front
abbrev pub without_slash : List ℕ → List ℕ
without_slash [] = []
without_slash (b ∷ bs) = if b == 0x2F then bs else b ∷ bs

-- the boot file: a URL where it has that mark, else a file of the TFTP server, where there is one
abbrev pub boot_file : Option (List ℕ) → Option (List ℕ) → List Candidate
boot_file None server = []
boot_file (Some file) server =
    if holds_mark file then at_url file ∷ []
    else option_to_list (option_map (λ s. tftp_file s (without_slash file)) server)

-- ONIE's own URL: the installer's, or the updater's where one is looked for
abbrev pub own_url : Mode → Terms → Option (List ℕ)
own_url modes.Install t = t.onie_install
own_url modes.Rescue t = t.onie_install
own_url modes.Uninstall t = t.onie_install
own_url modes.Update t = t.onie_update
own_url modes.Embed t = t.onie_update

-- what is at a URL, where there is one
abbrev pub at_maybe : Option (List ℕ) → List Candidate
at_maybe url = map at_url (option_to_list url)

-- ONIE's own URL, the one of option 114, and the boot file
abbrev pub urls_of : Mode → Terms → List Candidate
urls_of mode t = at_maybe (own_url mode t) ++ at_maybe t.url ++ boot_file t.file (tftp_server t)

-- ---- web servers

-- those of options 72 and 150, the next server of the boot, and the server of the lease
abbrev pub web_servers : Terms → List V4
web_servers t = t.www ++ t.tftps ++ given t.siaddr ++ t.server ∷ []

-- each name on one of them
abbrev pub on_server : List (List ℕ) → V4 → List Candidate
on_server names server = map (web_file server) names

abbrev pub webs_of : List (List ℕ) → Terms → List Candidate
webs_of names t = flat_map (on_server names) (web_servers t)

-- ---- folders of a TFTP server

abbrev pub dashed : ℕ → ℕ
dashed b = if b == 0x3A then 0x2D else b

-- The interface's address with dashes for colons, then the leased address as eight hexadecimal digits, and with one
-- digit less each time.
abbrev pub folders : Mac → V4 → List (List ℕ)
folders mac address =
    map dashed (mac_text mac.bytes)
    ∷ map (λ size. take size (encode_upper address.bytes)) (8 ∷ 7 ∷ 6 ∷ 5 ∷ 4 ∷ 3 ∷ 2 ∷ 1 ∷ [])

-- what stands before a name in each of them, and in the root
abbrev pub fronts : Mac → V4 → List (List ℕ)
fronts mac address = map (λ folder. folder ++ codes "/") (folders mac address) ++ [] ∷ []

-- each name behind a front
abbrev pub in_folder : List (List ℕ) → List ℕ → List ℕ → List Candidate
in_folder names server front = map (λ name. tftp_file server (front ++ name)) names

abbrev pub on_tftp : List (List ℕ) → List (List ℕ) → Option (List ℕ) → List Candidate
on_tftp names places None = []
on_tftp names places (Some server) = flat_map (in_folder names server) places

abbrev pub tftps_of : List (List ℕ) → Mac → Terms → List Candidate
tftps_of names mac t = on_tftp names (fronts mac t.address) (tftp_server t)
