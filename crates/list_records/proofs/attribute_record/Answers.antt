-- `list_records::attribute_record` meets its contract: each arm makes the call of its row.
use mathlib.Core.Path.{ap}
use Rattle.context.specs.Calls.{attribute}
use Rattle.list_records.specs.Encoding.{attribute_of, attribute_rows}
use Rattle.number.proofs.Tables.{last_row}
use Rattle.list_records.proofs.Records.{does_is, attribute_words}
use Rattle.list_records.proofs.attribute_record.Goals as goal

pub returns-in-54 : goal.returns-in-54
unfolding attribute_of
returns-in-54 c = rw (← c.four_floats-f.ensures, c.in-54.is) c.set_color.ensures

pub returns-in_default : goal.returns-in_default
unfolding attribute_of
returns-in_default c =
    let rows = attribute_rows c.word.result c.four_floats-f.result in
    attribute_words c.args.record.code c.word.ensures c.four_floats-f.ensures
    (does_is (ap attribute (last_row rows _ _ c.in_default.in_default-own.rest)) c.set_multi_texcoord.ensures)
