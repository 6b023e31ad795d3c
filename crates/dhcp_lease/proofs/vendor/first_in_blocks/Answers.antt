use Rattle.std.proofs.Common.{◌≡◌, ℕ, ◌+◌, ◌<◌, ◌≤◌, length, drop, refl, Some, None, sym, ap, subst, ◌∙◌, arith}
use Rattle.std.specs.Option.{option_copied, option_or}
use Rattle.std.proofs.lemmas.Result.{err_from_is_err_and}
use Rattle.bd_bytes.specs.Cursor.{At, passed}
use Rattle.dhcp_msg.specs.Reading.{value_at}
use Rattle.dhcp_lease.specs.Vendor.{block_options, vendor_at, vendor_options}
use Rattle.dhcp_lease.proofs.Blocks.{Along, Along-first, Along-more, Along-none, Along-end, four_left, vendor-end, vendor-short, vendor-none, vendor-refused, vendor-step}
use Rattle.dhcp_lease.proofs.vendor.first_in_blocks.Goals as goal

pub each-init : goal.each-init
unfolding vendor_options
each-init c =
    subst (λ (at : At). Along c.args.code (vendor_options c.args.value.now) (vendor_at (length at.left) at.left) None) (sym c.new-cursor.ensures) (Along-first c.args.code (vendor_options c.args.value.now))

pub returns-in_err-enterprise : goal.returns-in_err-enterprise
returns-in_err-enterprise c =
    let p = err_from_is_err_and c.from_residual.result c.from_residual.ensures.1 in
    let left = c.each.cursor.left in
    let some : 0 < length left = omega (arith, c.left.ensures) in
    rw p.1 (Along-none _ _ _ _ c.each.invariant (vendor-short left some (c.in_err-enterprise.ensures.short.0 refl)))

pub returns-in_err-inner : goal.returns-in_err-inner
returns-in_err-inner c =
    let p = err_from_is_err_and c.from_residual-in_err-inner.result c.from_residual-in_err-inner.ensures.1 in
    let left = c.each.cursor.left in
    let long : 4 ≤ length left = four_left (length left) c.in_ok-enterprise.ensures.short.1 in
    let none : value_at (drop 4 left) ≡ None = ap (λ (at : At). value_at at.left) (sym c.in_ok-enterprise.ensures.moved) ∙ c.in_err-inner.ensures in
    rw p.1 (Along-none _ _ _ _ c.each.invariant (vendor-none left long none))

pub returns-in_err-in_block : goal.returns-in_err-in_block
returns-in_err-in_block c =
    let p = err_from_is_err_and c.from_residual-in_err-in_block.result c.from_residual-in_err-in_block.ensures.1 in
    let left = c.each.cursor.left in
    let inner = c.in_ok-inner.inner.now in
    let long : 4 ≤ length left = four_left (length left) c.in_ok-enterprise.ensures.short.1 in
    let found : value_at (drop 4 left) ≡ Some inner = ap (λ (at : At). value_at at.left) (sym c.in_ok-enterprise.ensures.moved) ∙ c.in_ok-inner.ensures.0 in
    let none = ap (λ (n : ℕ). block_options n inner) (sym c.in_ok-enterprise.ensures.value) ∙ c.in_err-in_block.ensures in
    rw p.1 (Along-none _ _ _ _ c.each.invariant (vendor-refused left inner long found none))

pub each-preserved : goal.each-preserved
each-preserved c =
    let left = c.each.cursor.left in
    let inner = c.in_ok-inner.inner.now in
    let after = c.counted_bytes.new.cursor.left in
    let block = c.in_ok-in_block.ensures in
    let long : 4 ≤ length left = four_left (length left) c.in_ok-enterprise.ensures.short.1 in
    let found : value_at (drop 4 left) ≡ Some inner = ap (λ (at : At). value_at at.left) (sym c.in_ok-enterprise.ensures.moved) ∙ c.in_ok-inner.ensures.0 in
    let some = ap (λ (n : ℕ). block_options n inner) (sym c.in_ok-enterprise.ensures.value) ∙ block.1 in
    let behind : after ≡ drop (1 + length inner) (drop 4 left) = ap (λ (at : At). at.left) (c.in_ok-inner.ensures.2 ∙ ap (passed (1 + length inner)) c.in_ok-enterprise.ensures.moved) in
    Along-more c.args.code (vendor_options c.args.value.now) _ (vendor_at (length after) after) (option_copied c.each.found) (option_copied c.or_now-found.result) block.0 c.each.invariant
    (vendor-step left inner after block.0 long found some behind)
    (c.or_now-found.ensures ∙ ap (option_or (option_copied c.each.found)) block.2)

pub returns : goal.returns
returns c = Along-end _ _ _ _ c.each.invariant (vendor-end c.each.cursor.left (omega (arith, c.left.ensures)))
