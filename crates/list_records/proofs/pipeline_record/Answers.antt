-- `list_records::pipeline_record` meets its contract: each arm makes the call of its row.
use mathlib.Core.Path.{ap}
use Rattle.context.specs.Calls.{pipeline}
use Rattle.list_records.specs.Encoding.{pipeline_of, pipeline_rows}
use Rattle.number.proofs.Tables.{last_row}
use Rattle.list_records.proofs.Records.{does_is, pipeline_words}
use Rattle.list_records.proofs.pipeline_record.Goals as goal

pub returns-in-64 : goal.returns-in-64
unfolding pipeline_of
returns-in-64 c =
    pipeline_words c.args.record.code c.word-a.ensures c.word-b.ensures c.four_floats-f.ensures
    (rw c.in-64.is c.set_active_texture.ensures)

pub returns-in-65 : goal.returns-in-65
unfolding pipeline_of
returns-in-65 c =
    pipeline_words c.args.record.code c.word-a.ensures c.word-b.ensures c.four_floats-f.ensures
    (rw c.in-65.is c.set_capability.ensures)

pub returns-in-66 : goal.returns-in-66
unfolding pipeline_of
returns-in-66 c =
    pipeline_words c.args.record.code c.word-a.ensures c.word-b.ensures c.four_floats-f.ensures
    (rw c.in-66.is c.tex_env.ensures)

pub returns-in-67 : goal.returns-in-67
unfolding pipeline_of
returns-in-67 c =
    pipeline_words c.args.record.code c.word-a.ensures c.word-b.ensures c.four_floats-f.ensures
    (rw c.in-67.is c.set_tex_env_color.ensures)

pub returns-in-68 : goal.returns-in-68
unfolding pipeline_of
returns-in-68 c =
    pipeline_words c.args.record.code c.word-a.ensures c.word-b.ensures c.four_floats-f.ensures
    (rw c.in-68.is c.set_depth_func.ensures)

pub returns-in-69 : goal.returns-in-69
unfolding pipeline_of
returns-in-69 c =
    pipeline_words c.args.record.code c.word-a.ensures c.word-b.ensures c.four_floats-f.ensures
    (rw c.in-69.is c.set_alpha_func.ensures)

pub returns-in-70 : goal.returns-in-70
unfolding pipeline_of
returns-in-70 c =
    pipeline_words c.args.record.code c.word-a.ensures c.word-b.ensures c.four_floats-f.ensures
    (rw c.in-70.is c.set_blend_func.ensures)

pub returns-in-71 : goal.returns-in-71
unfolding pipeline_of
returns-in-71 c =
    pipeline_words c.args.record.code c.word-a.ensures c.word-b.ensures c.four_floats-f.ensures
    (rw c.in-71.is c.set_cull_face.ensures)

pub returns-in-72 : goal.returns-in-72
unfolding pipeline_of
returns-in-72 c =
    pipeline_words c.args.record.code c.word-a.ensures c.word-b.ensures c.four_floats-f.ensures
    (rw c.in-72.is c.set_front_face.ensures)

pub returns-in-73 : goal.returns-in-73
unfolding pipeline_of
returns-in-73 c =
    pipeline_words c.args.record.code c.word-a.ensures c.word-b.ensures c.four_floats-f.ensures
    (rw c.in-73.is c.set_fog.ensures)

pub returns-in_default : goal.returns-in_default
unfolding pipeline_of
returns-in_default c =
    let rows = pipeline_rows c.word-a.result c.word-b.result c.four_floats-f.result in
    pipeline_words c.args.record.code c.word-a.ensures c.word-b.ensures c.four_floats-f.ensures
    (does_is (ap pipeline (last_row rows _ _ c.in_default.in_default-own.rest)) c.set_depth_range.ensures)
