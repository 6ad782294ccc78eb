-- `list_buffers::make_sub_data` meets its contract.
use Rattle.context.specs.Calls.{object, buffer, buffer_sub_data}
use Rattle.list_buffers.proofs.Answers.{did_is}
use Rattle.list_buffers.proofs.make_sub_data.Goals as goal

pub returns : goal.returns
returns c =
    let word_at = c.word_at-target.ensures in
    let word-at2 = c.word_at-offset.ensures in
    let part_at = c.part_at-part.ensures in
    did_is (λ i. object (buffer (buffer_sub_data (word_at i) (word-at2 i) (part_at i)))) c.buffer_sub_data.ensures
