-- `list_buffers::make_data` meets its contract.
use Rattle.context.specs.Calls.{object, buffer, buffer_data}
use Rattle.list_buffers.proofs.Answers.{did_is}
use Rattle.list_buffers.proofs.make_data.Goals as goal

pub returns : goal.returns
returns c =
    let word_at = c.word_at-target.ensures in
    let long-at = c.long_at-size.ensures in
    let word-at2 = c.word_at-usage.ensures in
    let part_at = c.part_at-part.ensures in
    did_is (λ i. object (buffer (buffer_data (word_at i) (long-at i) (part_at i) (word-at2 i)))) c.buffer_data.ensures
