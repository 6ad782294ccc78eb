-- For the code: the corners of a draw one after the other, those of all triangles numbered from 0. Their f32 are the first of `words_of` (`corners_front`).
use Rattle.std.specs.Prelude.{List, [], ◌++◌, ℕ, zero, suc, Float}
use Rattle.vertex.specs.Vertex.{vertex_words}
use Rattle.vertex.specs.declared.Vertex.{Vertex}

-- the f32 of the first n corners, where `vertex` gives the vertex of a corner
unfoldable pub corner_words : (ℕ → Vertex) → ℕ → List Float
corner_words vertex zero = []
corner_words vertex (suc n) = corner_words vertex n ++ vertex_words (vertex n)
