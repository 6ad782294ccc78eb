-- Laws of triangles and of their f32. Assumes nothing.
use Prim.Native.Nat.{ℕ, zero, suc, ◌+◌, ◌*◌, ◌≤◌}
use mathlib.Core.Path.{◌≡◌, refl, ◌∙◌}
use mathlib.Core.List.{List, [], ◌∷◌, ◌++◌, append-nil, append_assoc}
use native.Mathlib.Nat.{zero-add}
use native.Mathlib.Numerals.{add-one}
use native.Mathlib.Omega.{arith}
use lib.ListN.{length, drop, length-append}
use lib.Seq.{sets, sets-eq}
use lib.Ieee.{Float}
use Rattle.vertex.specs.Vertex.{vertex_words}
use Rattle.vertex.specs.declared.Vertex.{Vertex}
use Rattle.corners.specs.Places.{corners_of}
use Rattle.assembly.specs.Triangles.{Triangle, three_words, triangles_to, words_of}
use Rattle.corners.specs.declared.Primitive.{Primitive}

pub words_append : (a b : List Triangle) → words_of (a ++ b) ≡ words_of a ++ words_of b
unfolding words_of
words_append [] b = refl
words_append (t ∷ a) b = rw (words_append a b, append_assoc)

pub length_words : (ts : List Triangle) → length (words_of ts) ≡ 51 * length ts
unfolding words_of three_words vertex_words
length_words [] = refl
length_words (t ∷ ts) = omega (arith, length_words ts)

pub length_three : (a b c : Vertex) → length (three_words a b c) ≡ 51
unfolding three_words vertex_words
length_three a b c = refl

-- of one triangle, and of two
pub words_one : (t : Triangle) → words_of (t ∷ []) ≡ three_words t.a t.b t.c
unfolding words_of
words_one t = rw append-nil

pub words_two : (t u : Triangle) → words_of (t ∷ u ∷ []) ≡ three_words t.a t.b t.c ++ three_words u.a u.b u.c
unfolding words_of
words_two t u = rw append-nil

-- stored from the start: they stand first, and the rest is as it was
pub words_stored : (ts : List Triangle) (o : List Float) → 51 * length ts ≤ length o → sets o 0 (words_of ts) ≡ words_of ts ++ drop (51 * length ts) o
words_stored ts o h = sets-eq (words_of ts) o 0 (omega (arith, length_words ts)) ∙ rw (zero-add, length_words ts)

module _ (vertex : ℕ → Vertex) (p : Primitive) where
  pub count_triangles : (n : ℕ) → length (triangles_to vertex p n) ≡ n
  unfolding triangles_to
  count_triangles zero = refl
  count_triangles (suc n) = rw length-append (omega (arith, count_triangles n))

  -- one triangle more
  pub words_more : (n : ℕ) → words_of (triangles_to vertex p (n + 1)) ≡ words_of (triangles_to vertex p n)
      ++ three_words (vertex (corners_of p n).a) (vertex (corners_of p n).b) (vertex (corners_of p n).c)
  unfolding triangles_to
  words_more n = rw (add-one, words_append, words_one)

  pub length_triangles : (n : ℕ) → length (words_of (triangles_to vertex p n)) ≡ 51 * n
  length_triangles n = length_words (triangles_to vertex p n) ∙ rw (count_triangles n)
