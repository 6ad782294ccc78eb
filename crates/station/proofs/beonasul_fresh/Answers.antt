-- `station::beonasul_fresh` meets its contract: what is kept of a fresh context.
use Rattle.station.proofs.Back.{fresh_kept}
use Rattle.station.proofs.beonasul_fresh.Goals as goal

pub returns : goal.returns
returns c = fresh_kept c.new-c.ensures c.fresh_settings.ensures
