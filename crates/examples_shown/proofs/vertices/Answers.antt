-- `shown::vertices` meets its contract, from those of the two calls.
use Rattle.examples_shown.proofs.InARow.{made}
use Rattle.examples_shown.proofs.vertices.Goals as goal

pub returns : goal.returns
returns c = made c.set_vertex_pointer-a.ensures c.set_client_state-b.ensures
