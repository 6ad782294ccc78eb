-- `trace::byte_start` meets its contract: each arm is its row.
use Rattle.number.proofs.Tables.{last_row}
use Rattle.trace_format.specs.Trace.{byte_starts, byte_start}
use Rattle.trace_format.proofs.byte_start.Goals as goal

pub returns-in-4 : goal.returns-in-4
unfolding byte_start
returns-in-4 c = rw c.in-4.is

pub returns-in-6 : goal.returns-in-6
unfolding byte_start
returns-in-6 c = rw c.in-6.is

pub returns-in-35 : goal.returns-in-35
unfolding byte_start
returns-in-35 c = rw c.in-35.is

pub returns-in-36 : goal.returns-in-36
unfolding byte_start
returns-in-36 c = rw c.in-36.is

pub returns-in_default : goal.returns-in_default
unfolding byte_start
returns-in_default c = last_row byte_starts _ 0 c.in_default.in_default-own.rest
