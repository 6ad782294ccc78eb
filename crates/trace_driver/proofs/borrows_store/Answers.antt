-- `driver::borrows_store` meets its contract: each arm is its row.
use mathlib.Core.Bool.{false}
use Rattle.number.proofs.Tables.{last_row}
use Rattle.trace_driver.specs.Permitted.{store_calls, code_borrows_store}
use Rattle.trace_driver.proofs.borrows_store.Goals as goal

pub returns-in-35 : goal.returns-in-35
unfolding code_borrows_store
returns-in-35 c = rw c.in-35.is

pub returns-in-36 : goal.returns-in-36
unfolding code_borrows_store
returns-in-36 c = rw c.in-36.is

pub returns-in-96 : goal.returns-in-96
unfolding code_borrows_store
returns-in-96 c = rw c.in-96.is

pub returns-in-97 : goal.returns-in-97
unfolding code_borrows_store
returns-in-97 c = rw c.in-97.is

pub returns-in-98 : goal.returns-in-98
unfolding code_borrows_store
returns-in-98 c = rw c.in-98.is

pub returns-in_default : goal.returns-in_default
unfolding code_borrows_store
returns-in_default c = last_row store_calls _ false c.in_default.in_default-own.rest
