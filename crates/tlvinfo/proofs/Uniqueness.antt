-- Bytes have one list of fields, and fields one board or one fault.
use Rattle.std.proofs.Common.{◌≡◌, ℕ, List, Some, Err, refl, sym, subst, ◌∙◌}
use Rattle.tlvinfo.specs.declared.fault.IdentFault.{IdentFault}
use Rattle.tlvinfo.specs.declared.fault.IdentFault.TheVariants as faults
use Rattle.tlvinfo.specs.declared.fault.TlvKind.{TlvKind}
use Rattle.tlvinfo.specs.TlvInfo.{Field, Tlv}
use Rattle.tlvinfo.specs.Reading.{reading}
use Rattle.tlvinfo.specs.Platform.{Parts, IsPlatform}
use Rattle.tlvinfo.specs.Identity.{Board, HasPlatform, Identifies, Lacks, value_of}
use Rattle.tlvinfo.proofs.Completeness.{is_complete}

pub Tlv-unique : (bytes : List ℕ) (fs gs : List Field) → Tlv bytes fs → Tlv bytes gs → fs ≡ gs
Tlv-unique bytes fs gs h k = let e = sym (is_complete bytes fs h) ∙ is_complete bytes gs k in cc

pub Tlv-or_fault : (bytes : List ℕ) (fs : List Field) (kind : TlvKind) → Tlv bytes fs → reading bytes ≡ Err kind → ⊥
Tlv-or_fault bytes fs kind h e = let f = sym (is_complete bytes fs h) ∙ e in cc

same_value : (fs : List Field) (code : ℕ) (v w : List ℕ) → value_of code fs ≡ Some v → value_of code fs ≡ Some w → v ≡ w
same_value fs code v w e f = let g = sym e ∙ f in cc

-- fields that identify a board lack nothing
pub Identifies-or_lacks : (fs : List Field) (board : Board) (fault : IdentFault) → Identifies fs board → Lacks fault fs → ⊥
Identifies-or_lacks fs board faults.NoPlatform is lacks = let e = sym is.platform ∙ lacks in cc
Identifies-or_lacks fs board faults.Platform is lacks =
    let same = same_value fs 0x28 board.platform lacks.0 is.platform lacks.1 in
    lacks.2 board.parts (subst (λ text. IsPlatform text board.parts) same is.parts)
Identifies-or_lacks fs board faults.NoMac is lacks = let e = sym is.mac ∙ lacks.1 in cc

platform-or_not : (fs : List Field) → HasPlatform fs → (text : List ℕ) × (value_of 0x28 fs ≡ Some text) × ((p : Parts) → IsPlatform text p → ⊥) → ⊥
platform-or_not fs has lacks =
    let same = same_value fs 0x28 has.platform lacks.0 has.stands lacks.1 in
    lacks.2 has.parts (subst (λ text. IsPlatform text has.parts) same has.right)

-- fields lack one thing first
pub Lacks-unique : (fs : List Field) (a b : IdentFault) → Lacks a fs → Lacks b fs → a ≡ b
Lacks-unique fs faults.NoPlatform faults.NoPlatform h k = refl
Lacks-unique fs faults.NoPlatform faults.Platform h k = absurd (let e = sym h ∙ k.1 in cc)
Lacks-unique fs faults.NoPlatform faults.NoMac h k = absurd (let e = sym h ∙ k.0.stands in cc)
Lacks-unique fs faults.Platform faults.NoPlatform h k = absurd (let e = sym k ∙ h.1 in cc)
Lacks-unique fs faults.Platform faults.Platform h k = refl
Lacks-unique fs faults.Platform faults.NoMac h k = absurd (platform-or_not fs k.0 h)
Lacks-unique fs faults.NoMac faults.NoPlatform h k = absurd (let e = sym k ∙ h.0.stands in cc)
Lacks-unique fs faults.NoMac faults.Platform h k = absurd (platform-or_not fs h.0 k)
Lacks-unique fs faults.NoMac faults.NoMac h k = refl
