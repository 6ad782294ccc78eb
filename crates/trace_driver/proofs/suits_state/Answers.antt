-- `driver::suits_state` meets its contract: each arm is its row.
use Rattle.std.proofs.Common.{true, sym}
use Rattle.number.proofs.Tables.{last_row}
use Rattle.trace_driver.specs.Permitted.{state_rows, suits}
use Rattle.trace_driver.proofs.suits_state.Goals as goal

pub returns-in-3 : goal.returns-in-3
unfolding suits
returns-in-3 c = rw c.in-3.is

pub returns-in-4 : goal.returns-in-4
unfolding suits
returns-in-4 c = rw c.in-4.is

pub returns-in-97 : goal.returns-in-97
unfolding suits
returns-in-97 c = rw (c.in-97.is, sym c.word-a.ensures, sym c.word-b.ensures) c.is_short.ensures

pub returns-in-98 : goal.returns-in-98
unfolding suits
returns-in-98 c = rw (c.in-98.is, sym c.word-a.ensures, sym c.word-b.ensures, sym c.word.ensures) c.is_few.ensures

pub returns-in-126 : goal.returns-in-126
unfolding suits
returns-in-126 c = rw c.in-126.is

pub returns-in_default : goal.returns-in_default
unfolding suits
returns-in_default c = let a = c.args in last_row (state_rows a.live a.enabled a.element a.v a.«record».words.now) _ true c.in_default.in_default-own.rest
