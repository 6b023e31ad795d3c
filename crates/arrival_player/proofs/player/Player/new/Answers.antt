use Rattle.arrival_player.proofs.Holding.{sound_new}
use Rattle.arrival_player.proofs.player.Player.new.Goals as goal

pub invariant_of-result : goal.invariant_of-result
invariant_of-result g c = sound_new (g.F.Feeds.arrival c.args.feeds) (g.F.Feeds.rows c.args.feeds) c.new.result.items c.new.ensures.items
