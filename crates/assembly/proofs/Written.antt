-- Runs of stores, and the f32 of corners one after the other. Assumes nothing.
use mathlib.Core.List.{List, [], ◌∷◌, ◌++◌}
use mathlib.Core.Path.{◌≡◌, refl, ◌∙◌}
use Prim.Native.Nat.{ℕ, zero, suc, ◌+◌, ◌*◌}
use native.Mathlib.Nat.{add-zero}
use native.Mathlib.Numerals.{add-one}
use native.Mathlib.Omega.{arith}
use lib.ListN.{length, set, length-append}
use lib.Seq.{sets}
use Rattle.vertex.specs.Vertex.{vertex_words}
use Rattle.vertex.specs.declared.Vertex.{Vertex}
use Rattle.assembly.specs.CornersCode.{corner_words}

module _ {A : Type 0} where
  -- two runs, the second where the first ends
  sets_append : (l : List A) (i : ℕ) (a b : List A) → sets (sets l i a) (i + length a) b ≡ sets l i (a ++ b)
  sets_append l i [] b = rw add-zero
  sets_append l i (x ∷ a) b = let e : i + suc (length a) ≡ suc i + length a = omega arith in rw e (sets_append (set l i x) (suc i) a b)

  -- a list is l with a stored from i, and then it has b stored from where that ends
  pub sets_then : (l : List A) (i : ℕ) (a b : List A) {o o' : List A} {j : ℕ} → o ≡ sets l i a → o' ≡ sets o j b → j ≡ i + length a → o' ≡ sets l i (a ++ b)
  sets_then l i a b p q e = q ∙ rw (p, e) (sets_append l i a b)

length_vertex : (v : Vertex) → length (vertex_words v) ≡ 17
unfolding vertex_words
length_vertex v = refl

module _ (vertex : ℕ → Vertex) where
  pub length_corners : (n : ℕ) → length (corner_words vertex n) ≡ 17 * n
  unfolding corner_words
  length_corners zero = refl
  length_corners (suc n) = length-append (corner_words vertex n) (vertex_words (vertex n)) ∙ omega (arith, length_corners n, length_vertex (vertex n))

  -- one corner more
  pub corners_more : (n : ℕ) → corner_words vertex (n + 1) ≡ corner_words vertex n ++ vertex_words (vertex n)
  unfolding corner_words
  corners_more n = rw add-one
