-- `make_call` meets its contract.
use Rattle.std.proofs.Common.{refl, Some, None}
use Rattle.trace_session.proofs.make_call.Goals as goal

pub returns-in-Some : goal.returns-in-Some
returns-in-Some c = record { reply = Some c.in-Some.r; made = c.in-Some.ensures; context = refl }

pub returns-in-None : goal.returns-in-None
returns-in-None c = record { reply = None; made = c.in-None.ensures; context = refl }
