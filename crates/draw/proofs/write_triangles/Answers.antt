-- `draw::write_triangles` meets its contract: three corners to a triangle.
use mathlib.Core.Path.{ap, ◌∙◌}
use native.Mathlib.Omega.{arith}
use lib.Seq.{sets}
use Rattle.vertex.specs.SceneCode.{scene_in, index_list}
use Rattle.assembly.specs.Triangles.{vertex_at}
use Rattle.assembly.proofs.CornerLists.{triangles_front}
use Rattle.draw.proofs.write_triangles.Goals as goal

pub returns : goal.returns
returns c =
    let args = c.args in
    c.write_corners.ensures.0 (omega (arith, c.requires))
    ∙ ap (sets args.out.now 0)
    (triangles_front (vertex_at (scene_in args.s args.store.now args.guest.now) (index_list args.list))
    args.p args.count)
