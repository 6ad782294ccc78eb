-- `list_records::make_take_error` meets its contract.
use Rattle.list_records.proofs.make_take_error.Goals as goal

pub returns-clause-does : goal.returns-clause-does
returns-clause-does c = rw c.into.ensures c.take_error.ensures.does
