-- `list_runner::make_call` meets its contract: it asks whether the words are a record's.
use mathlib.Core.Path.{sym, ◌∙◌}
use Rattle.list_runner.proofs.Calls.{no_record_call, a_record_call}
use Rattle.list_runner.proofs.make_call.Goals as goal

pub returns-then-is_record : goal.returns-then-is_record
returns-then-is_record c =
    let r = c.args.record in
    a_record_call r.bytes.now _ r.code r.words.now (sym c.is_record.ensures ∙ c.if-is_record.true) c.perform.ensures

pub returns-else-is_record : goal.returns-else-is_record
returns-else-is_record c =
    let r = c.args.record in
    no_record_call r.bytes.now _ r.code r.words.now (sym c.is_record.ensures ∙ c.if-is_record.false)
