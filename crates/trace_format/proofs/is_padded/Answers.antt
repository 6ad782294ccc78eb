-- `trace::is_padded` meets its contract: by the bytes of the last word.
use Rattle.trace_format.proofs.Records.{whole_words}
use Rattle.trace_format.specs.Trace.{is_padded}
use Rattle.trace_format.proofs.is_padded.Goals as goal

pub returns-in-1 : goal.returns-in-1
unfolding is_padded
returns-in-1 c = rw c.in-1.is

pub returns-in-2 : goal.returns-in-2
unfolding is_padded
returns-in-2 c = rw c.in-2.is

pub returns-in-3 : goal.returns-in-3
unfolding is_padded
returns-in-3 c = rw c.in-3.is

pub returns-in_default : goal.returns-in_default
returns-in_default c = whole_words _ _ c.in_default.in_default-own.rest.0.0.1 c.in_default.in_default-own.rest.0.1 c.in_default.in_default-own.rest.1
