-- `list_runner::perform` meets its contract: each group makes its calls.
use mathlib.Core.Path.{refl, ap, ◌∙◌}
use mathlib.Core.List.{List}
use native.Mathlib.Omega.{arith}
use lib.Ieee.{Float}
use Rattle.context.specs.Calls.{matrix, mode}
use Rattle.list_records.specs.Encoding.{matrix_of}
use Rattle.list_runner.proofs.Calls.{is_mode, is_matrix, is_buffer, is_array, is_attribute, is_pipeline, is_take_error, is_draw_law, performed, performed_draw}
use Rattle.list_runner.proofs.perform.Goals as goal

pub returns-in-16 : goal.returns-in-16
returns-in-16 c =
    let r = c.args.record in
    rw c.into.ensures (performed (ap mode c.word.ensures ∙ is_mode r.bytes.now _ r.code r.words.now c.in-16.is) (c.set_matrix_mode.ensures _) refl refl)

pub returns-in-80 : goal.returns-in-80
returns-in-80 c =
    let r = c.args.record in
    performed (is_take_error r.bytes.now _ r.code r.words.now c.in-80.is) (c.make_take_error.ensures.does _) refl c.make_take_error.ensures.value

pub returns-in-0-to-31 : goal.returns-in-0-to-31
returns-in-0-to-31 c =
    let r = c.args.record in
    let floats = ap (λ (f : List Float). matrix (matrix_of r.code f)) c.matrix_floats.ensures in
    rw c.into-in-0-to-31.ensures
    (performed (floats ∙ is_matrix r.bytes.now _ r.code r.words.now (λ e. absurd (omega arith)) (omega arith)) (c.make_matrix.ensures _) refl refl)

pub returns-in-32-to-47 : goal.returns-in-32-to-47
returns-in-32-to-47 c =
    let r = c.args.record in
    performed (is_buffer r.bytes.now _ r.code r.words.now (omega arith) (omega arith)) c.make_buffer.ensures.did refl c.make_buffer.ensures.value

pub returns-in-48-to-53 : goal.returns-in-48-to-53
returns-in-48-to-53 c =
    let r = c.args.record in
    rw c.into-in-48-to-53.ensures (performed (is_array r.bytes.now _ r.code r.words.now (omega arith) (omega arith)) (c.array_record.ensures _) refl refl)

pub returns-in-54-to-63 : goal.returns-in-54-to-63
returns-in-54-to-63 c =
    let r = c.args.record in
    rw c.into-in-54-to-63.ensures (performed (is_attribute r.bytes.now _ r.code r.words.now (omega arith) (omega arith)) (c.attribute_record.ensures _) refl refl)

pub returns-in-64-to-79 : goal.returns-in-64-to-79
returns-in-64-to-79 c =
    let r = c.args.record in
    rw c.into-in-64-to-79.ensures (performed (is_pipeline r.bytes.now _ r.code r.words.now (omega arith) (omega arith)) (c.pipeline_record.ensures _) refl refl)

pub returns-in_default : goal.returns-in_default
returns-in_default c =
    let r = c.args.record in
    rw c.into-in_default.ensures (performed_draw (is_draw_law r.bytes.now _ r.code r.words.now (omega arith)) c.make_draw.ensures)
