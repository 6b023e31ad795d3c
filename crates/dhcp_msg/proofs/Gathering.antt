-- The options after each field that was read.
use Rattle.std.proofs.Common.{◌≡◌, ℕ, List, [], ◌++◌, Option, Result, Bor, sym, ap, ◌∙◌}
use Rattle.std.specs.Option.{option_copied}
use Rattle.dhcp_msg.specs.declared.fault.DhcpFault.{DhcpFault}
use Rattle.dhcp_msg.specs.declared.overload.Overload.{Overload}
use Rattle.dhcp_msg.specs.declared.dhcp_option.DhcpOption.{DhcpOption}
use Rattle.dhcp_msg.specs.Adding.{added_all}
use Rattle.dhcp_msg.specs.Options.{value_of, joined}
use Rattle.dhcp_msg.specs.Layout.{message_at}
use Rattle.dhcp_msg.specs.Reading.{overload_of}
use Rattle.dhcp_msg.proofs.Joining.{joined-added_all}

pub joined-first : (own none now : List DhcpOption) → none ≡ [] → now ≡ added_all own none → now ≡ joined own
joined-first own none now empty e = e ∙ ap (added_all own) empty ∙ joined-added_all own []

pub joined-next : (before os old now : List DhcpOption) → old ≡ joined before → now ≡ added_all os old → now ≡ joined (before ++ os)
joined-next before os old now is e = e ∙ ap (added_all os) is ∙ joined-added_all os before

-- what the overload says of the options that were read
pub overload-read : (own now : List DhcpOption) (got : Option (Bor (List ℕ))) (r : Result Overload DhcpFault) → now ≡ joined own → option_copied got ≡ value_of 52 now → r ≡ overload_of (option_copied got)
    → overload_of (value_of 52 (joined own)) ≡ r
overload-read own now got r is e said = sym (said ∙ ap overload_of (e ∙ ap (value_of 52) is))

pub message_at-same : (bytes sname sname' file file' : List ℕ) (options options' : List DhcpOption) → sname ≡ sname' → file ≡ file' → options ≡ options' → message_at bytes sname file options ≡ message_at bytes sname' file' options'
message_at-same bytes sname sname' file file' options options' e f g = cc
