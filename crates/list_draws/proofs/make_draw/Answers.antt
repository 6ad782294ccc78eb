-- `list_draws::make_draw` meets its contract: each arm makes the draw of its row.
use mathlib.Core.Path.{ap}
use Rattle.number.proofs.Tables.{last_row}
use Rattle.vertex.specs.Scene.{list, range, elements}
use Rattle.list_records.proofs.Records.{drew_is}
use Rattle.list_records.specs.Encoding.{source_rows, source_of}
use Rattle.list_draws.proofs.Draws.{drew_in}
use Rattle.list_draws.proofs.make_draw.Goals as goal

pub returns-in-96 : goal.returns-in-96
unfolding source_of
returns-in-96 c =
    let a = c.args in
    rw c.in-96.is
    (drew_in a.record.words.now a.out.now _ c.draw_words-d.ensures a.record.bytes.now _ c.part_at-guest.ensures _ _
    (ap list c.words_from-indices.ensures) (c.draw_elements.ensures.did, c.draw_elements.ensures.drew))

pub returns-in-97 : goal.returns-in-97
unfolding source_of
returns-in-97 c =
    let a = c.args in
    rw c.in-97.is
    (drew_in a.record.words.now a.out.now _ c.draw_words-d.ensures a.record.bytes.now _ c.part_at-guest.ensures _ _
    (λ i. range (c.word-first.ensures i) (c.word-count.ensures i)) (c.draw_arrays.ensures.did, c.draw_arrays.ensures.drew))

pub returns-in_default : goal.returns-in_default
unfolding source_of
returns-in_default c =
    let a = c.args in
    let w = a.record.words.now in
    drew_is a.record.bytes.now w _ (last_row (source_rows w) _ _ c.in_default.in_default-own.rest)
    (drew_in w a.out.now _ c.draw_words-d.ensures a.record.bytes.now _ c.part_at-guest.ensures _ _
    (λ i. elements (c.word-count-in_default.ensures i) (c.word-ty.ensures i) (c.word-pointer.ensures i))
    (c.draw_elements_from_guest.ensures.did, c.draw_elements_from_guest.ensures.drew))
