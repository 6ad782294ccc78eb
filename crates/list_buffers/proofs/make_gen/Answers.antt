-- `list_buffers::make_gen` meets its contract.
use Rattle.list_buffers.proofs.make_gen.Goals as goal

pub returns-clause-did : goal.returns-clause-did
returns-clause-did c = rw c.into.ensures c.gen_buffers.ensures.does
