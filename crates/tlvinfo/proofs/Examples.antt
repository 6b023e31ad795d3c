-- Worked values of setting a field and of writing over bytes.
use Rattle.std.proofs.Common.{◌≡◌, true, false, [], ◌∷◌, refl}
use Rattle.std.specs.Prelude.{codes}
use Rattle.bd_codes.specs.TlvTable.{tlv_rows}
use Rattle.tlvinfo.specs.TlvInfo.{header, total_of}
use Rattle.tlvinfo.specs.Encoding.{overwritten}
use Rattle.tlvinfo.specs.Editing.{with_value, can_hold}
use Rattle.tlvinfo.proofs.Edits.{field}

-- an unknown code stands twice: the first is replaced
first_replaced : with_value 0 (codes "new") (field 0 (codes "a") ∷ field 0x30 [] ∷ field 0 (codes "b") ∷ []) ≡ field 0 (codes "new") ∷ field 0x30 [] ∷ field 0 (codes "b") ∷ []
first_replaced = refl

added : with_value 0x2a (1 ∷ 0 ∷ []) (field 0x28 (codes "a-b-r1") ∷ []) ≡ field 0x28 (codes "a-b-r1") ∷ field 0x2a (1 ∷ 0 ∷ []) ∷ []
added = refl

second_extension : with_value 0xfd (codes "two") (field 0xfd (codes "one") ∷ field 0x30 [] ∷ []) ≡ field 0xfd (codes "one") ∷ field 0x30 [] ∷ field 0xfd (codes "two") ∷ []
second_extension = refl

unknown_of_255 : can_hold 0x30 255 ≡ true
unfolding tlv_rows
unknown_of_255 = refl

unknown_of_256 : can_hold 0x30 256 ≡ false
unfolding tlv_rows
unknown_of_256 = refl

address_of_5 : can_hold 0x24 5 ≡ false
unfolding tlv_rows
address_of_5 = refl

-- a platform name of 20 bytes, an address and a number of addresses: the header says 0028
total_of_40 : header (total_of (field 0x28 (codes "x86_64-kvm_x86_64-r0") ∷ field 0x24 (0 ∷ 0x11 ∷ 0x22 ∷ 0x33 ∷ 0x44 ∷ 0x55 ∷ []) ∷ field 0x2a (1 ∷ 0 ∷ []) ∷ [])) ≡ 84 ∷ 108 ∷ 118 ∷ 73 ∷ 110 ∷ 102 ∷ 111 ∷ 0 ∷ 1 ∷ 0 ∷ 0x28 ∷ []
total_of_40 = refl

front_overwritten : overwritten (codes "ab") (codes "wxyz") ≡ codes "abyz"
front_overwritten = refl
