-- What each command is: the devices that it uses, its own ends, and its course.
use Rattle.std.specs.Prelude.{◌≡◌, true, false}
use Rattle.bd_dev.specs.Plant.{View}
use Rattle.onie_modes.specs.Course.{Plan, ends, no_device}
use Rattle.onie_modes.specs.Devices.{Device, Use, Unused, Written, TheConsole}
use Rattle.onie_modes.specs.Discover.{discover_uses, discovers}
use Rattle.onie_modes.specs.declared.exit.Status.{Status}
use Rattle.onie_modes.specs.declared.exit.Status.TheVariants as statuses
use Rattle.onie_cli.specs.Words.{Command, ShowStatus, Discover, PrintFields, SetField, SetVariable, UnsetVariable, Usage}
use Rattle.onie_cli.specs.Status.{shows_board, status_uses}
use Rattle.onie_cli.specs.Eeprom.{eeprom_uses, prints_fields}
use Rattle.onie_cli.specs.EepromSet.{set_field_uses, sets_field}
use Rattle.onie_cli.specs.Set.{changes_flash, set_change, set_uses, unset_change}

-- words that are no command call the console alone
abbrev pub usage_uses : Device → Use
usage_uses TheConsole = Written
usage_uses device = Unused

abbrev pub IsUsageEnd : Status → Type 0
IsUsageEnd statuses.Usage = Unit {0}
IsUsageEnd status = ⊥

abbrev pub refuses_words : Plan
refuses_words = record {
  uses = usage_uses;
  memory = false;
  answers = IsUsageEnd;
  silent = λ end. true;
  told = λ d end. Unit {0};
  comes = λ d c. c ≡ ends no_device statuses.Usage;
  follows = λ c end. Unit {0};
  leaves = λ old new end. Unit {0};
}

-- Which command uses which device, and how.
abbrev pub uses : Command → Device → Use
uses ShowStatus = status_uses
uses Discover = discover_uses
uses PrintFields = eeprom_uses
uses (SetField code text) = set_field_uses
uses (SetVariable name value) = set_uses
uses (UnsetVariable name) = set_uses
uses Usage = usage_uses

-- What each command is, by what the plant tells before and after.
abbrev pub plan_of : Command → View → View → Plan
plan_of ShowStatus v w = shows_board v
plan_of Discover v w = discovers
plan_of PrintFields v w = prints_fields
plan_of (SetField code text) v w = sets_field code text
plan_of (SetVariable name value) v w = changes_flash (set_change (record { name = name; value = value })) v w
plan_of (UnsetVariable name) v w = changes_flash (unset_change name) v w
plan_of Usage v w = refuses_words
