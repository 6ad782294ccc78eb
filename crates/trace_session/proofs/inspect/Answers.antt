-- `inspect` meets its contract.
use Rattle.trace_session.proofs.Done.{made_fresh, made_unsound, kept}
use Rattle.trace_session.proofs.inspect.Goals as goal

pub returns-in-2 : goal.returns-in-2
returns-in-2 c = made_fresh _ _ c.in-2.is c.new.ensures

pub returns-in-126 : goal.returns-in-126
returns-in-126 c = rw c.word-a.ensures at (made_unsound _ _ c.in-126.is c.unsound.ensures)
