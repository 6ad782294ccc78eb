use mathlib.Core.List.{List}
use mathlib.Core.Path.{◌≡◌}
use Prim.Native.Nat.{ℕ}
use lib.Seq.{sets}
use Rattle.corners.specs.Places.{corner_place}
use Rattle.corners.specs.declared.Primitive.{Primitive}
use Rattle.vertex.specs.Scene.{Scene}
use Rattle.vertex.specs.SceneCode.{scene_in, index_list}
use Rattle.vertex.specs.declared.Vertex.{Vertex}
use Rattle.assembly.specs.Triangles.{vertex_at}
use Rattle.assembly.specs.CornersCode.{corner_words}
use Rattle.assembly.proofs.write_planned.Given as goal

-- the vertex of a corner
abbrev pub corner : Scene → Primitive → List ℕ → ℕ → Vertex
corner s p is q = vertex_at s is (corner_place p q)

abbrev pub invariant-loop-c : goal.invariant-loop-c
invariant-loop-c l = l.out ≡ sets l.initial.out 0 (corner_words (corner (scene_in l.s l.store l.guest) l.p (index_list l.list)) l.c)
