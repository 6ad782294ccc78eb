-- `station::fresh_settings` meets its contract: the enumerants are those of the fresh pipeline.
use mathlib.Core.Path.{refl}
use Rattle.station.specs.Kept.{kept_settings}
use Rattle.station.proofs.fresh_settings.Goals as goal

pub returns : goal.returns
unfolding kept_settings
returns c = refl
