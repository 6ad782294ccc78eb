-- `unsound::unsound` meets its contract: each arm is its row.
use Rattle.number.proofs.Tables.{last_row}
use Rattle.trace_unsound.specs.Kinds.{context_rows, context_made}
use Rattle.trace_unsound.proofs.unsound.Goals as goal

pub returns-in-1 : goal.returns-in-1
unfolding context_made
returns-in-1 c = record { buffers = _; made = c.unsound_buffers-b.ensures; result = rw c.in-1.is }

pub returns-in-2 : goal.returns-in-2
unfolding context_made
returns-in-2 c = record { buffers = _; made = c.unsound_buffers-b.ensures; result = rw c.in-2.is }

pub returns-in-3 : goal.returns-in-3
unfolding context_made
returns-in-3 c = record { buffers = _; made = c.unsound_buffers-b.ensures; result = rw c.in-3.is }

pub returns-in-4 : goal.returns-in-4
unfolding context_made
returns-in-4 c = record { buffers = _; made = c.unsound_buffers-b.ensures; result = rw c.in-4.is }

pub returns-in-5 : goal.returns-in-5
unfolding context_made
returns-in-5 c = record { buffers = _; made = c.unsound_buffers-b.ensures; result = rw c.in-5.is }

pub returns-in_default : goal.returns-in_default
unfolding context_made
returns-in_default c = record { buffers = _; made = c.unsound_buffers-b.ensures; result = last_row (context_rows c.args.c) _ _ c.in_default.in_default-own.rest }
