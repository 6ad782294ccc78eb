-- `driver::draw` meets its contract: each arm is its row, from the draw on a view.
use Rattle.std.proofs.Common.{ap, length, ◌∙◌}
use Rattle.number.proofs.Tables.{last_row}
use Rattle.vertex.specs.Scene.{list, range, elements}
use Rattle.trace_driver.specs.Draws.{trace_source_rows, trace_source}
use Rattle.trace_driver.proofs.Drawing.{did_as}
use Rattle.trace_driver.proofs.draw.Goals as goal

pub returns-in-96 : goal.returns-in-96
unfolding trace_source
returns-in-96 c =
    let a = c.args in
    let d = c.draw_elements in
    rw c.in-96.is
    (did_as {base = a.view.base} {room = length a.out.now} {guest = a.view.bytes.now} {s = a.store.now} {c = a.c} {out = a.out.now} {out1 = d.new.out} {r = d.result}
    (ap list c.words_from-indices.ensures) c.word-mode.ensures c.word-stages.ensures (d.ensures.did, d.ensures.drew))

pub returns-in-97 : goal.returns-in-97
unfolding trace_source
returns-in-97 c =
    let a = c.args in
    let d = c.draw_arrays in
    rw c.in-97.is
    (did_as {base = a.view.base} {room = length a.out.now} {guest = a.view.bytes.now} {s = a.store.now} {c = a.c} {out = a.out.now} {out1 = d.new.out} {r = d.result}
    (λ i. range (c.word-a.ensures i) (c.word-b.ensures i)) c.word-mode.ensures c.word-stages.ensures (d.ensures.did, d.ensures.drew))

pub returns-in_default : goal.returns-in_default
unfolding trace_source
returns-in_default c =
    let a = c.args in
    let d = c.draw_elements_from_guest in
    did_as {base = a.view.base} {room = length a.out.now} {guest = a.view.bytes.now} {s = a.store.now} {c = a.c} {out = a.out.now} {out1 = d.new.out} {r = d.result}
    ((λ i. elements (c.word-a.ensures i) (c.word-b.ensures i) (c.word-pointer.ensures i)) ∙ last_row (trace_source_rows a.«record».words.now) _ _ c.in_default.in_default-own.rest)
    c.word-mode.ensures c.word-stages.ensures (d.ensures.did, d.ensures.drew)
