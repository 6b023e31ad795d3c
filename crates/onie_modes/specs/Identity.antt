-- Which fields an EEPROM holds and which board they identify, or why it holds none.
use Rattle.std.specs.Prelude.{◌≡◌, ℕ, List, Option, Some, None, Err}
use Rattle.tlvinfo.specs.TlvInfo.{Field, Tlv}
use Rattle.tlvinfo.specs.Reading.{reading}
use Rattle.tlvinfo.specs.Identity.{Board, Identifies, Lacks}
use Rattle.onie_modes.specs.declared.exit.EepromKind.{EepromKind}
use Rattle.onie_modes.specs.declared.exit.EepromKind.TheVariants as eeproms
use Rattle.onie_modes.specs.declared.exit.Status.{Status}
use Rattle.onie_modes.specs.declared.exit.Status.TheVariants as statuses
use Rattle.onie_modes.specs.declared.identity.LoadFault.{LoadFault}
use Rattle.onie_modes.specs.declared.identity.LoadFault.TheVariants as faults

-- the bytes are no TlvInfo data, and this is the first fault in them
abbrev pub IsUnreadable : List ℕ → EepromKind → Type 0
IsUnreadable bytes (eeproms.Tlv kind) = reading bytes ≡ Err kind
IsUnreadable bytes (eeproms.Ident fault) = ⊥

-- the bytes are TlvInfo data of fields that identify the board
pub record HoldsBoard (bytes : List ℕ) (board : Board) : Type 0 where
  pub fields : List Field
  pub tlv : Tlv bytes fields
  pub identifies : Identifies fields board

-- the bytes hold no board, and this is the first fault in them
abbrev pub IsRefused : List ℕ → EepromKind → Type 0
IsRefused bytes (eeproms.Tlv kind) = reading bytes ≡ Err kind
IsRefused bytes (eeproms.Ident fault) = (fields : List Field) × Tlv bytes fields × Lacks fault fields

-- the fault is one of TlvInfo data
abbrev pub IsTlv : EepromKind → Type 0
IsTlv (eeproms.Tlv kind) = Unit {0}
IsTlv (eeproms.Ident fault) = ⊥

-- the status of a call that ends for want of fields or of an identity
abbrev pub load_status : LoadFault → Status
load_status faults.Failed = statuses.EepromFault
load_status faults.Memory = statuses.Memory
load_status (faults.Bad kind) = statuses.BadEeprom kind
