use Rattle.bd_dev.proofs.Touch.{touch_any, touch_then}
use Rattle.bd_dev.proofs.writing.write_through.Goals as goal

pub returns-in_err-sync_area-clause-touches : goal.returns-in_err-sync_area-clause-touches
returns-in_err-sync_area-clause-touches g c =
    touch_then _ _ _ _ _ _ c.write_sectors.ensures.touches (touch_any _ _ _ _ _ _ c.sync_area.ensures.touches)

pub returns-clause-touches : goal.returns-clause-touches
returns-clause-touches g c =
    touch_then _ _ _ _ _ _ c.write_sectors.ensures.touches (touch_any _ _ _ _ _ _ c.sync_area.ensures.touches)
