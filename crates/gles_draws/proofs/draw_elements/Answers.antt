-- `gles_draws::draw_elements` meets its contract, from the inner draw.
use lib.ListN.{length}
use Rattle.vertex.specs.Scene.{list}
use Rattle.context.specs.Contract.{draw_call}
use Rattle.context.proofs.Entries.{draw_unready, draw_from_law}
use Rattle.gles_draws.proofs.draw_elements.Goals as goal

pub returns-then-not-is_ready : goal.returns-then-not-is_ready
returns-then-not-is_ready c =
    let a = c.args in
    let d = draw_call (list a.indices.now) a.mode a.stages a.base a.guest.now (length a.out.now) in
    let h = draw_unready d a.c a.store.now a.out.now (c.is_ready.ensures.no c.if-not-is_ready.true) in
    rw c.refuse.ensures (record { did = h.0; drew = h.1 })

pub returns : goal.returns
returns c =
    let a = c.args in
    let h =
    draw_from_law (list a.indices.now) a.mode a.stages a.base a.guest.now a.c a.store.now _ _ a.out.now _
    c.draw_inputs-s.ensures (c.is_ready.ensures.yes c.if-not-is_ready.false) (c.draw_list.ensures _)
    in
    rw c.answer_draw.ensures (record { did = h.0; drew = h.1 })
