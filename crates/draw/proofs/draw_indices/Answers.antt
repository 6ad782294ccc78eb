-- `draw::draw_indices` meets its contract: each way out is a law on plain values.
use mathlib.Core.Path.{sym, ap, ◌∙◌}
use native.Mathlib.Omega.{arith}
use lib.ListN.{length}
use lib.Seq.{sets}
use Rattle.vertex.specs.SceneCode.{scene_in, index_list}
use Rattle.assembly.specs.Triangles.{words_of}
use Rattle.draw.specs.Draw.{triangles_of}
use Rattle.draw.proofs.Drawing.{triangles_are, refused_draw, no_room, drawn, positive, handed_on}
use Rattle.assembly.proofs.Triangles.{count_triangles}
use Rattle.draw.proofs.draw_indices.Goals as goal

pub returns-in_err-validate : goal.returns-in_err-validate
returns-in_err-validate c =
    let args = c.args in
    rw (handed_on c.from_residual.result _ c.from_residual.ensures.1, ← c.in_err-validate.ensures)
    (refused_draw (triangles_of (scene_in args.s args.store.now args.guest.now) args.mode (index_list args.list)) args.out.now _ (positive _))

pub returns-then-out-count : goal.returns-then-out-count
returns-then-out-count c =
    let args = c.args in
    let s = scene_in args.s args.store.now args.guest.now in
    let are = triangles_are s args.mode (index_list args.list) _ _ _ c.of_mode-p.ensures c.len-n.ensures c.triangle_count-count.ensures in
    let many = sym (ap length are) ∙ count_triangles _ _ _ in
    rw (← c.in_ok-validate.ensures) (no_room (triangles_of s args.mode (index_list args.list)) args.out.now (omega (arith, many, c.if-out-count.true)))

pub returns : goal.returns
returns c =
    let args = c.args in
    let s = scene_in args.s args.store.now args.guest.now in
    let are = triangles_are s args.mode (index_list args.list) _ _ _ c.of_mode-p.ensures c.len-n.ensures c.triangle_count-count.ensures in
    let many = sym (ap length are) ∙ count_triangles _ _ _ in
    rw (← c.in_ok-validate.ensures) (drawn _ args.out.now _ _ (sym many) (omega (arith, many, c.if-out-count.false))
    (c.write_triangles.ensures ∙ ap (λ ts. sets args.out.now 0 (words_of ts)) are))
