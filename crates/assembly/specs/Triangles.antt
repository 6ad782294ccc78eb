-- Triangles (01: "Draws"): their vertices, and the f32 that are written.
use Rattle.std.specs.Prelude.{List, [], ◌∷◌, ◌++◌, ℕ, zero, suc, get_or, Float}
use Rattle.corners.specs.Places.{corners_of}
use Rattle.corners.specs.declared.Corners.{Corners}
use Rattle.corners.specs.declared.Primitive.{Primitive}
use Rattle.vertex.specs.Scene.{Scene}
use Rattle.vertex.specs.Vertex.{vertex_of, vertex_words}
use Rattle.vertex.specs.declared.Vertex.{Vertex}

-- the vertex at a place of a list of indices
abbrev pub vertex_at : Scene → List ℕ → ℕ → Vertex
vertex_at s is place = vertex_of s (get_or is place 0)

pub record Triangle : Type 0 where
  pub a : Vertex
  pub b : Vertex
  pub c : Vertex

abbrev pub triangle_at : (ℕ → Vertex) → Corners → Triangle
triangle_at vertex k = record { a = vertex k.a; b = vertex k.b; c = vertex k.c }

-- the first n triangles, where `vertex` gives the vertex at a place of the index list
unfoldable pub triangles_to : (ℕ → Vertex) → Primitive → ℕ → List Triangle
triangles_to vertex p zero = []
triangles_to vertex p (suc n) = triangles_to vertex p n ++ (triangle_at vertex (corners_of p n) ∷ [])

-- the 51 f32 of three vertices
unfoldable pub three_words : Vertex → Vertex → Vertex → List Float
three_words a b c = vertex_words a ++ vertex_words b ++ vertex_words c

-- the f32 of triangles, one after the other
unfoldable pub words_of : List Triangle → List Float
words_of [] = []
words_of (t ∷ rest) = three_words t.a t.b t.c ++ words_of rest
