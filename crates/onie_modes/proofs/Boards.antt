-- Bytes hold one board, or are refused for one fault.
use Rattle.std.proofs.Common.{◌≡◌, ◌≤◌, ℕ, List, [], ◌∷◌, length, Option, Some, refl, sym, ap, subst, ◌∙◌, length-append, arith}
use Rattle.std.specs.Option.{ForSome}
use Rattle.tlvinfo.specs.Identity.{Board, Identifies, Lacks}
use Rattle.tlvinfo.specs.TlvInfo.{Field, Tlv, joined, field_bytes}
use Rattle.tlvinfo.proofs.Uniqueness.{Tlv-unique, Tlv-or_fault, Identifies-or_lacks, Lacks-unique}
use Rattle.onie_modes.specs.Identity.{HoldsBoard, IsRefused, IsTlv, IsUnreadable}
use Rattle.onie_modes.specs.declared.exit.EepromKind.{EepromKind}
use Rattle.onie_modes.specs.declared.exit.EepromKind.TheVariants as eeproms

pub refused-or_board : (bytes : List ℕ) (kind : EepromKind) (board : Board) → IsRefused bytes kind → HoldsBoard bytes board → ⊥
refused-or_board bytes (eeproms.Tlv kind) board refused holds = Tlv-or_fault bytes holds.fields kind holds.tlv refused
refused-or_board bytes (eeproms.Ident fault) board refused holds =
    let same = Tlv-unique bytes holds.fields refused.0 holds.tlv refused.1 in
    Identifies-or_lacks refused.0 board fault (subst (λ fs. Identifies fs board) same holds.identifies) refused.2

pub refused-unique : (bytes : List ℕ) (j k : EepromKind) → IsRefused bytes j → IsRefused bytes k → j ≡ k
refused-unique bytes (eeproms.Tlv j) (eeproms.Tlv k) h i = let e = sym h ∙ i in cc
refused-unique bytes (eeproms.Tlv j) (eeproms.Ident k) h i = absurd (Tlv-or_fault bytes i.0 j i.1 h)
refused-unique bytes (eeproms.Ident j) (eeproms.Tlv k) h i = absurd (Tlv-or_fault bytes h.0 k h.1 i)
refused-unique bytes (eeproms.Ident j) (eeproms.Ident k) h i =
    let same = Tlv-unique bytes h.0 i.0 h.1 i.1 in
    ap (λ fault. eeproms.Ident fault) (Lacks-unique i.0 j k (subst (Lacks j) same h.2) i.2)

-- what is no TlvInfo data holds no board
pub unreadable_refused : (bytes : List ℕ) (kind : EepromKind) → IsUnreadable bytes kind → IsRefused bytes kind
unreadable_refused bytes (eeproms.Tlv kind) h = h
unreadable_refused bytes (eeproms.Ident fault) h = absurd h

-- bytes hold fields, or are refused for one fault
pub unreadable-or_fields : (bytes : List ℕ) (kind : EepromKind) (fields : List Field) → IsUnreadable bytes kind → Tlv bytes fields → ⊥
unreadable-or_fields bytes (eeproms.Tlv kind) fields h k = Tlv-or_fault bytes fields kind k h
unreadable-or_fields bytes (eeproms.Ident fault) fields h k = h

pub unreadable-unique : (bytes : List ℕ) (j k : EepromKind) → IsUnreadable bytes j → IsUnreadable bytes k → j ≡ k
unreadable-unique bytes (eeproms.Tlv j) (eeproms.Tlv k) h i = let e = sym h ∙ i in cc
unreadable-unique bytes (eeproms.Tlv j) (eeproms.Ident k) h i = absurd i
unreadable-unique bytes (eeproms.Ident j) k h i = absurd h

-- the board of these fields is the only one of these bytes
pub only_board : (bytes : List ℕ) (fields : List Field) (board : Board) → Tlv bytes fields → ((other : Board) → Identifies fields other → board ≡ other)
    → (other : Board) → HoldsBoard bytes other → board ≡ other
only_board bytes fields board tlv only other holds =
    only other (subst (λ (fs : List Field). Identifies fs other) (Tlv-unique bytes holds.fields fields holds.tlv tlv) holds.identifies)

fields-le-joined : (fs : List Field) → length fs ≤ length (joined fs)
fields-le-joined [] = omega arith
fields-le-joined (f ∷ fs) = omega (arith, fields-le-joined fs, length-append (field_bytes f) (joined fs))

-- fields are no more than their bytes, which are bounded
pub few_fields : (bytes : List ℕ) (fs : List Field) → Tlv bytes fs → length fs ≤ 2048
few_fields bytes fs h = omega (arith, fields-le-joined fs, h.fits)
