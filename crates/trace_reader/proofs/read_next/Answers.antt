-- `reader::read_next` meets its contract.
use Rattle.std.proofs.Common.{sym, ◌∙◌}
use Rattle.trace_reader.proofs.Going.{read_from}
use Rattle.trace_reader.proofs.Reading.{words_read_law}
use Rattle.trace_reader.proofs.read_next.Goals as goal

pub returns : goal.returns
returns c =
    let o = c.opening_of-opening.result in
    let bytes = c.read_body.new.body in
    let w = c.args.w.now in
    let fits = c.in_ok-read_body.ensures in
    read_from o.code o.n bytes w _ fits (words_read_law bytes w o.n fits c.bytes_at.ensures c.read_words.ensures) c.first_words.ensures
    (sym c.fault_of.ensures ∙ c.in_ok-fault_of.was)
