-- Worked values of the TlvInfo format's words.
use Rattle.std.proofs.Common.{◌≡◌, true, false, Some, None, refl}
use Rattle.bd_codes.specs.declared.row.Kind.TheVariants.{Date}
use Rattle.bd_codes.specs.TlvTable.{tlv_rows, row_of, allows, is_single}

-- a manufacture date is a text of 19 bytes, as "01/31/2014 12:01:30"
date_row : row_of 0x25 ≡ Some (record { code = 0x25; kind = Date; least = 19; greatest = 19 })
unfolding tlv_rows
date_row = refl

no_row : row_of 0x30 ≡ None
unfolding tlv_rows
no_row = refl

date_of_18 : allows 0x25 18 ≡ false
unfolding tlv_rows
date_of_18 = refl

date_of_19 : allows 0x25 19 ≡ true
unfolding tlv_rows
date_of_19 = refl

-- a text may fill its field
longest_text : allows 0x21 255 ≡ true
unfolding tlv_rows
longest_text = refl

-- a code that is not known may have any value
unknown_code : allows 0x30 7 ≡ true
unfolding tlv_rows
unknown_code = refl

single_checksum : is_single 0xfe ≡ true
unfolding tlv_rows
single_checksum = refl

-- a vendor may add as many extensions as it likes
many_extensions : is_single 0xfd ≡ false
unfolding tlv_rows
many_extensions = refl

many_unknown : is_single 0x30 ≡ false
unfolding tlv_rows
many_unknown = refl
