use Rattle.std.proofs.Common.{◌≡◌, ◌≤◌, length, ap, arith}
use Rattle.dhcp_lease.specs.LeaseView.{terms_of}
use Rattle.waterfall.proofs.Counting.{webs_few}
use Rattle.waterfall.proofs.file_lists.push_webs.Goals as goal

pub returns-clause-few : goal.returns-clause-few
returns-clause-few c =
    let www : length c.as_slice.result.now ≤ 8 = c.as_slice.ensures.fits in
    let tftps : length c.as_slice-2.result.now ≤ 8 = c.as_slice-2.ensures.fits in
    let same = ap length c.as_slice.ensures.value in
    let same_2 = ap length c.as_slice-2.ensures.value in
    webs_few c.args.names.now (terms_of c.args.lease.now) (omega (arith, www, same)) (omega (arith, tftps, same_2))
