-- Worked values of the definitions.
use Rattle.std.proofs.Common.{◌≡◌, [], ◌∷◌, refl, lit<, lit≤}
use Rattle.std.specs.Prelude.{codes}
use Rattle.std.specs.Fmt.{digits}
use Rattle.hex.specs.Hex.{encode_with}
use Rattle.bd_codes.specs.declared.row.Kind.TheVariants.{Text, Mac, Byte, Word, Raw, Sum}
use Rattle.bd_codes.specs.TlvTable.{tlv_rows}
use Rattle.bd_text.specs.Digits.{numeral}
use Rattle.tlv_text.specs.Printed.{printed_value}
use Rattle.tlv_text.specs.Values.{IsDate, kind_of}
use Rattle.tlv_text.specs.Spelled.{SpellsHexadecimal, SpellsNumber}
use Rattle.tlv_text.proofs.Dates.{Decides-stand}

kind_of_count : kind_of 0x2a ≡ Word
unfolding tlv_rows
kind_of_count = refl

-- a code with no row
kind_of_other : kind_of 0x30 ≡ Raw
unfolding tlv_rows
kind_of_other = refl

-- "a", two bytes of UTF-8, a tab, "~"
printed_text : printed_value Text (97 ∷ 0xc3 ∷ 0xa9 ∷ 9 ∷ 126 ∷ []) ≡ codes "a???~"
printed_text = refl

printed_mac : printed_value Mac (0x80 ∷ 0xa2 ∷ 0x35 ∷ 0x81 ∷ 0xca ∷ 0xae ∷ []) ≡ codes "80:A2:35:81:CA:AE"
unfolding numeral
printed_mac = refl

printed_byte : printed_value Byte (255 ∷ []) ≡ codes "255"
unfolding digits
printed_byte = refl

-- the high byte stands first
printed_word : printed_value Word (1 ∷ 0 ∷ []) ≡ codes "256"
unfolding digits
printed_word = refl

printed_sum : printed_value Sum (0xde ∷ 0xad ∷ 0x00 ∷ 0x0f ∷ []) ≡ codes "dead000f"
unfolding encode_with
printed_sum = refl

date : IsDate (codes "01/31/2014 12:01:30")
date = (Decides-stand (codes "01/31/2014 12:01:30") (codes "MM/DD/YYYY HH:MM:SS") refl).0 refl

no_date : ¬ IsDate (codes "01-31-2014 12:01:30")
no_date = λ h. cc h.1.1.0

short_date : ¬ IsDate (codes "1/31/2014 12:01:30")
short_date = λ h. cc h.1.0

spelled_count : SpellsNumber 2 (1 ∷ 0 ∷ []) (codes "256")
unfolding digits
spelled_count = record { number = 256; written = record { fits = lit< tt; digits = refl }; bytes = refl }

spelled_bytes : SpellsHexadecimal (0xde ∷ 0xad ∷ []) (codes "dEaD")
spelled_bytes = record {
  short = lit≤ tt;
  paired = record {
    pairs = codes "dE" ∷ codes "aD" ∷ [];
    each = (record { width = refl; hex = record { digits = (lit< tt, (lit< tt, tt)); value = refl } }, (record { width = refl; hex = record { digits = (lit< tt, (lit< tt, tt)); value = refl } }, tt));
    joined = refl;
  };
}
