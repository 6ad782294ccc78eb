-- `make_draw` meets its contract.
use Rattle.std.proofs.Common.{refl}
use Rattle.trace_session.proofs.make_draw.Goals as goal

pub returns : goal.returns
returns c = record { reply = _; did = rw c.mark.ensures at c.draw-r.ensures; context = refl }
