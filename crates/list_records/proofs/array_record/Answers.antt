-- `list_records::array_record` meets its contract: each arm makes the call of its row.
use mathlib.Core.Path.{ap}
use Rattle.context.specs.Calls.{object, array}
use Rattle.list_records.specs.Encoding.{array_call_of, array_rows}
use Rattle.number.proofs.Tables.{last_row}
use Rattle.list_records.proofs.Records.{does_is, array_words}
use Rattle.list_records.proofs.array_record.Goals as goal

pub returns-in-48 : goal.returns-in-48
unfolding array_call_of
returns-in-48 c =
    array_words c.args.record.code c.word-a.ensures c.word-b.ensures c.word-d.ensures c.word-e.ensures
    (rw c.in-48.is c.set_vertex_pointer.ensures)

pub returns-in-49 : goal.returns-in-49
unfolding array_call_of
returns-in-49 c =
    array_words c.args.record.code c.word-a.ensures c.word-b.ensures c.word-d.ensures c.word-e.ensures
    (rw c.in-49.is c.set_color_pointer.ensures)

pub returns-in-50 : goal.returns-in-50
unfolding array_call_of
returns-in-50 c =
    array_words c.args.record.code c.word-a.ensures c.word-b.ensures c.word-d.ensures c.word-e.ensures
    (rw c.in-50.is c.set_normal_pointer.ensures)

pub returns-in-51 : goal.returns-in-51
unfolding array_call_of
returns-in-51 c =
    array_words c.args.record.code c.word-a.ensures c.word-b.ensures c.word-d.ensures c.word-e.ensures
    (rw c.in-51.is c.set_texcoord_pointer.ensures)

pub returns-in-52 : goal.returns-in-52
unfolding array_call_of
returns-in-52 c =
    array_words c.args.record.code c.word-a.ensures c.word-b.ensures c.word-d.ensures c.word-e.ensures
    (rw c.in-52.is c.set_client_state.ensures)

pub returns-in_default : goal.returns-in_default
unfolding array_call_of
returns-in_default c =
    let rows = array_rows c.word-a.result c.word-b.result c.word-d.result c.word-e.result in
    array_words c.args.record.code c.word-a.ensures c.word-b.ensures c.word-d.ensures c.word-e.ensures
    (does_is (ap (λ k. object (array k)) (last_row rows _ _ c.in_default.in_default-own.rest)) c.set_client_active_texture.ensures)
