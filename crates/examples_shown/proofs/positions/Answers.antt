-- `shown::positions` meets its contract: the vertex array of a fresh context.
use Rattle.examples_shown.proofs.InARow.{from_fresh}
use Rattle.examples_shown.proofs.positions.Goals as goal

pub returns : goal.returns
returns c = from_fresh c.new.ensures c.vertices.ensures
