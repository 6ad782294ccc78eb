-- `assembly::write_planned` meets its contract: the first c corners are stored.
use Prim.Native.Nat.{ℕ, ◌*◌}
use mathlib.Core.Path.{refl, ap, ◌∙◌}
use native.Mathlib.Omega.{arith}
use lib.Seq.{sets}
use Rattle.vertex.specs.Vertex.{vertex_words, vertex_of}
use Rattle.vertex.specs.SceneCode.{scene_in, index_list}
use Rattle.vertex.specs.declared.Vertex.{Vertex}
use Rattle.assembly.specs.CornersCode.{corner_words}
use Rattle.assembly.proofs.Written.{sets_then, length_corners, corners_more}
use Rattle.assembly.proofs.write_planned.Goals as goal
use Rattle.assembly.proofs.write_planned.Invariants.{corner}

pub loop-c-init : goal.loop-c-init
unfolding corner_words
loop-c-init c = refl

pub loop-c-preserved : goal.loop-c-preserved
loop-c-preserved c =
    let s = scene_in c.args.s c.args.store.now c.args.guest.now in
    let vertex : ℕ → Vertex = corner s c.args.p (index_list c.args.list) in
    let k = c.loop-c.c in
    let e = c.write_vertex.ensures ∙ ap (λ (v : Vertex). sets c.loop-c.out (17 * k) (vertex_words v))
    (c.assemble-v.ensures ∙ ap (vertex_of s) c.corner_index-index.ensures) in
    sets_then c.args.out.now 0 (corner_words vertex k) (vertex_words (vertex k)) c.loop-c.invariant e (omega (arith, length_corners vertex k))
    ∙ rw (corners_more vertex k)
