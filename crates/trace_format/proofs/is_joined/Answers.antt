-- `trace::is_joined` meets its contract: each arm is its row.
use borrow.Author.Tests.{eq-eqb, ne_eqb}
use mathlib.Core.Bool.{true}
use Rattle.number.proofs.Tables.{last_row}
use Rattle.trace_format.specs.Trace.{joined, is_joined}
use Rattle.trace_format.proofs.is_joined.Goals as goal

pub returns-in-4 : goal.returns-in-4
unfolding is_joined
returns-in-4 c = rw (c.in-4.is, c.and_more.ensures)

pub returns-then-h-ne0 : goal.returns-then-h-ne0
unfolding is_joined
returns-then-h-ne0 c = rw (c.in-35.is, ne_eqb _ _ c.if-h-ne0.true)

pub returns-else-h-ne0 : goal.returns-else-h-ne0
unfolding is_joined
returns-else-h-ne0 c = rw (c.in-35.is, eq-eqb _ _ c.if-h-ne0.false)

pub returns-in-126 : goal.returns-in-126
unfolding is_joined
returns-in-126 c = rw c.in-126.is

pub returns-in_default : goal.returns-in_default
unfolding is_joined
returns-in_default c = last_row (joined c.args.h) _ true c.in_default.in_default-own.rest
