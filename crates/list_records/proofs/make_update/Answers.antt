-- `list_records::make_update` meets its contract: each arm makes the call of its row.
use mathlib.Core.Path.{ap}
use Rattle.stack.specs.Stack.{MatrixUpdate, update}
use Rattle.context.specs.Calls.{matrix}
use Rattle.list_records.specs.Encoding.{update_rows, update_of}
use Rattle.number.proofs.Tables.{last_row}
use Rattle.list_records.proofs.Records.{does_is}
use Rattle.list_records.proofs.make_update.Goals as goal

pub returns-in-17 : goal.returns-in-17
unfolding update_of
returns-in-17 c = rw c.in-17.is c.load_identity.ensures

pub returns-in-18 : goal.returns-in-18
unfolding update_of
returns-in-18 c = rw c.in-18.is c.load_matrix.ensures

pub returns-in-19 : goal.returns-in-19
unfolding update_of
returns-in-19 c = rw c.in-19.is c.mult_matrix.ensures

pub returns-in-22 : goal.returns-in-22
unfolding update_of
returns-in-22 c = rw c.in-22.is c.translate.ensures

pub returns-in-23 : goal.returns-in-23
unfolding update_of
returns-in-23 c = rw c.in-23.is c.scale.ensures

pub returns-in-24 : goal.returns-in-24
unfolding update_of
returns-in-24 c = rw c.in-24.is c.rotate.ensures

pub returns-in-26 : goal.returns-in-26
unfolding update_of
returns-in-26 c = rw c.in-26.is c.frustum.ensures

pub returns-in_default : goal.returns-in_default
unfolding update_of
returns-in_default c = does_is (ap (λ (u : MatrixUpdate). matrix (update u)) (last_row (update_rows c.args.f) _ _ c.in_default.in_default-own.rest)) c.ortho.ensures
