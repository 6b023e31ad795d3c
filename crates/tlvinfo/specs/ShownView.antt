-- A code and a value that are shown, without where the value lies in memory.
use Rattle.std.specs.Prelude.{ℕ, List}
use Rattle.std.specs.Borrow.{Bor}
use Rattle.tlvinfo.specs.TlvInfo.{Field}

abbrev pub shown_field : ℕ × Bor (List ℕ) → Field
shown_field p = record { code = p.0; value = p.1.now }
