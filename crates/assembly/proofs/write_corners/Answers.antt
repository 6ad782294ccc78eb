-- `assembly::write_corners` meets its contract: with room or without.
use Prim.Native.Nat.{ℕ}
use mathlib.Core.Path.{refl, ap, ◌∙◌}
use native.Mathlib.Omega.{arith}
use lib.Seq.{sets}
use Rattle.vertex.specs.SceneCode.{scene_in, index_list}
use Rattle.vertex.specs.declared.Vertex.{Vertex}
use Rattle.assembly.specs.Triangles.{vertex_at}
use Rattle.assembly.proofs.CornerLists.{corners_front}
use Rattle.assembly.proofs.write_corners.Goals as goal

pub returns-then-out-n : goal.returns-then-out-n
returns-then-out-n c = (λ h. absurd (omega (arith, h, c.if-out-n.true)), λ _. refl)

pub write_planned-requires : goal.write_planned-requires
write_planned-requires c = (omega (arith, c.if-out-n.false), c.plan_of-plan.ensures)

pub returns : goal.returns
returns c =
    let args = c.args in
    let vertex : ℕ → Vertex = vertex_at (scene_in args.s args.store.now args.guest.now) (index_list args.list) in (
      λ _. c.write_planned.ensures ∙ ap (sets args.out.now 0) (corners_front vertex args.p args.n),
      λ h. absurd (omega (arith, h, c.if-out-n.false)),
    )
