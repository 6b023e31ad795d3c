use Rattle.std.proofs.Common.{◌≡◌, ℕ, ◌+◌, ◌<◌, List, [], ◌∷◌, length, drop, get_or, Some, None, sym, ap, subst, ◌∙◌, arith}
use Rattle.std.specs.Option.{option_copied, option_or}
use Rattle.std.proofs.lemmas.Result.{err_from_is_err_and}
use Rattle.bd_bytes.specs.Cursor.{At, passed}
use Rattle.dhcp_msg.specs.Reading.{value_at}
use Rattle.dhcp_lease.specs.Vendor.{suboptions_at, suboptions_in}
use Rattle.dhcp_lease.proofs.Blocks.{Along, Along-first, Along-more, Along-none, Along-end, first_byte, suboptions-end, suboptions-none, suboptions-step}
use Rattle.dhcp_lease.proofs.vendor.first_suboption.Goals as goal

pub each-init : goal.each-init
unfolding suboptions_in
each-init c =
    subst (λ (at : At). Along c.args.code (suboptions_in c.args.inner.now) (suboptions_at (length at.left) at.left) None) (sym c.new-cursor.ensures) (Along-first c.args.code (suboptions_in c.args.inner.now))

pub returns-in_err-value : goal.returns-in_err-value
returns-in_err-value c =
    let p = err_from_is_err_and c.from_residual.result c.from_residual.ensures.1 in
    let left = c.each.cursor.left in
    let some : 0 < length left = omega (arith, c.left.ensures) in
    let moved = rw c.unwrap.ensures at c.take.ensures.moved in
    let none : value_at (drop 1 left) ≡ None = ap (λ (at : At). value_at at.left) (sym moved) ∙ c.in_err-value.ensures in
    rw p.1 (Along-none _ _ _ _ c.each.invariant (suboptions-none left some none))

pub each-preserved : goal.each-preserved
each-preserved c =
    let left = c.each.cursor.left in
    let value = c.in_ok-value.value.now in
    let sub = get_or c.unwrap.result.now 0 0 in
    let after = c.counted_bytes.new.cursor.left in
    let some : 0 < length left = omega (arith, c.left.ensures) in
    let moved = rw c.unwrap.ensures at c.take.ensures.moved in
    let front = rw c.unwrap.ensures at c.take.ensures.front in
    let is : sub ≡ get_or left 0 0 = ap (λ (l : List ℕ). get_or l 0 0) front ∙ first_byte left in
    let found : value_at (drop 1 left) ≡ Some value = ap (λ (at : At). value_at at.left) (sym moved) ∙ c.in_ok-value.ensures.0 in
    let behind : after ≡ drop (1 + length value) (drop 1 left) = ap (λ (at : At). at.left) (c.in_ok-value.ensures.2 ∙ ap (passed (1 + length value)) moved) in
    Along-more c.args.code (suboptions_in c.args.inner.now) _ (suboptions_at (length after) after) (option_copied c.each.found) (option_copied c.or_now-found.result) (record { code = sub; value = value } ∷ []) c.each.invariant
    (suboptions-step left sub value after some is found behind)
    (c.or_now-found.ensures ∙ ap (option_or (option_copied c.each.found)) c.if_wanted.ensures)

pub returns : goal.returns
returns c = Along-end _ _ _ _ c.each.invariant (suboptions-end c.each.cursor.left (omega (arith, c.left.ensures)))
