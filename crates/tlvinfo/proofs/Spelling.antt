-- How the bytes before the checksum, and the checksum's field, make the spelling.
use Rattle.std.proofs.Common.{◌≡◌, ℕ, List, [], ◌∷◌, ◌++◌, length, refl, sym, ap, ◌∙◌, append_assoc}
use Rattle.byteorder.specs.Endian.{big_bytes}
use Rattle.bd_bytes.specs.Crc.{crc32_of}
use Rattle.tlvinfo.specs.Encoding.{ending}
use Rattle.tlvinfo.specs.TlvInfo.{Field, joined, header, total_of, before_checksum, spelling}

pub length-ending : (front : List ℕ) → length (ending front) ≡ 6
length-ending front = refl

pub join : {xs ys zs ws : List ℕ} → xs ≡ ys → zs ≡ ws → xs ++ zs ≡ ys ++ ws
join e h = cc

regroup : (h j c : List ℕ) → h ++ (j ++ (0xfe ∷ 4 ∷ c)) ≡ (h ++ (j ++ 0xfe ∷ 4 ∷ [])) ++ c
regroup h j c = sym (append_assoc h (j ++ 0xfe ∷ 4 ∷ []) c ∙ ap (λ (l : List ℕ). h ++ l) (append_assoc j (0xfe ∷ 4 ∷ []) c))

-- the spelling is the header, the fields and the checksum's field
pub header-joined-ending : (fs : List Field) (total : ℕ) → total ≡ total_of fs → header total ++ (joined fs ++ ending (header total ++ joined fs)) ≡ spelling fs
header-joined-ending fs total e =
    let front : (header total ++ joined fs) ++ 0xfe ∷ 4 ∷ [] ≡ before_checksum fs = append_assoc (header total) (joined fs) (0xfe ∷ 4 ∷ []) ∙ ap (λ (n : ℕ). header n ++ (joined fs ++ 0xfe ∷ 4 ∷ [])) e in
    regroup (header total) (joined fs) (big_bytes 4 (crc32_of ((header total ++ joined fs) ++ 0xfe ∷ 4 ∷ [])))
    ∙ join (ap (λ (n : ℕ). header n ++ (joined fs ++ 0xfe ∷ 4 ∷ [])) e) (ap (λ (l : List ℕ). big_bytes 4 (crc32_of l)) front)
