-- The draw rules (01: "Draws", "Questions at the door"): number, count, triangles and output.
use Rattle.std.specs.Prelude.{not, cond, List, [], ◌++◌, ◌≡◌, ℕ, ◌*◌, ltb, eqb, length, drop, Float}
use Rattle.corners.specs.Places.{primitive_of, triangle_count}
use Rattle.vertex.specs.Scene.{DrawState, Source, DrawCall, Scene, scene_of}
use Rattle.vertex.specs.Index.{indices_from}
use Rattle.vertex.specs.Questions.{validation}
use Rattle.assembly.specs.Triangles.{Triangle, vertex_at, triangles_to, words_of}

-- the triangles of a list of indices
abbrev pub triangles_of : Scene → ℕ → List ℕ → List Triangle
triangles_of s mode is =
    let p = primitive_of mode in
    triangles_to (vertex_at s is) p (triangle_count p (length is))

-- ---- the draw

-- a draw's number, and its triangles: none where it is refused
pub record Drawing : Type 0 where
  pub number : ℕ
  pub triangles : List Triangle

abbrev pub draw_answer : ℕ → ℕ → List Triangle → Drawing
draw_answer number room ts =
    cond (not (eqb number 0)) (record { number = number; triangles = [] })
    (cond (ltb room (51 * length ts)) (record { number = 11; triangles = [] })
    (record { number = 0; triangles = ts }))

-- by the scene, the element binding and the draw's arguments
unfoldable pub draw_in : Scene → ℕ → ℕ → Source → ℕ → Drawing
draw_in s element mode source room = draw_answer (validation s element mode source) room (triangles_of s mode (indices_from s element source))

abbrev pub draw_of : DrawState → DrawCall → Drawing
draw_of s d = draw_in (scene_of s d) s.element d.mode d.source d.room

-- the output: the triangles first, the rest as it was
abbrev pub output_of : List Triangle → List Float → List Float
output_of ts out = words_of ts ++ drop (51 * length ts) out

-- a draw's answer: its number, and how many triangles it wrote
pub record Drawn : Type 0 where
  pub number : ℕ
  pub count : ℕ

-- a draw did as the rules say: number and count of the answer, and the output before and after
pub record Draws (d : Drawing) (r : Drawn) (out out' : List Float) : Type 0 where
  pub number : r.number ≡ d.number
  pub count : r.count ≡ length d.triangles
  pub output : out' ≡ output_of d.triangles out
