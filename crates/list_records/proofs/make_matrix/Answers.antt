-- `list_records::make_matrix` meets its contract: push, pop, or the call of `make_update`.
use mathlib.Core.Path.{ap}
use Rattle.context.specs.Calls.{matrix}
use Rattle.list_records.specs.Encoding.{stack_rows, matrix_of}
use Rattle.number.proofs.Tables.{last_row}
use Rattle.list_records.proofs.Records.{does_is}
use Rattle.list_records.proofs.make_matrix.Goals as goal

pub returns-in-20 : goal.returns-in-20
unfolding matrix_of
returns-in-20 c = rw c.in-20.is c.push_matrix.ensures

pub returns-in-21 : goal.returns-in-21
unfolding matrix_of
returns-in-21 c = rw c.in-21.is c.pop_matrix.ensures

pub returns-in_default : goal.returns-in_default
unfolding matrix_of
returns-in_default c = does_is (ap matrix (last_row stack_rows _ _ c.in_default.in_default-own.rest)) c.make_update.ensures
