-- The f32 of the corners of triangles, one after the other, are those of the triangles. Assumes nothing.
use mathlib.Core.List.{List, ◌++◌, append_assoc}
use mathlib.Core.Path.{◌≡◌, refl, sym, ap, ◌∙◌}
use Prim.Native.Nat.{ℕ, zero, suc, ◌+◌, ◌-◌, ◌*◌, ◌/◌}
use native.Mathlib.Numerals.{add-one}
use native.Mathlib.Omega.{arith}
use lib.ListN.{take}
use lib.Seq.{take_all, take-append-le}
use lib.Ieee.{Float}
use Rattle.corners.specs.Places.{corners_of, corner_place}
use Rattle.corners.specs.declared.Primitive.{Primitive}
use Rattle.corners.proofs.Places.{place_a, place_b, place_c}
use Rattle.vertex.specs.Vertex.{vertex_words}
use Rattle.vertex.specs.declared.Vertex.{Vertex}
use Rattle.assembly.specs.CornersCode.{corner_words}
use Rattle.assembly.proofs.Written.{length_corners, corners_more}
use Rattle.assembly.specs.Triangles.{three_words, triangles_to, words_of}
use Rattle.assembly.proofs.Triangles.{words_more, length_triangles}

three_more : (vertex : ℕ → Vertex) (p : Primitive) (n : ℕ) → corner_words (λ c. vertex (corner_place p c)) (3 * n) ≡ words_of (triangles_to vertex p n)
    → corner_words (λ c. vertex (corner_place p c)) (3 * suc n) ≡ words_of (triangles_to vertex p (suc n))
unfolding three_words
three_more vertex p n e =
    let f : ℕ → Vertex = λ c. vertex (corner_place p c) in
    let k = corners_of p n in
    let three : 3 * suc n ≡ 3 * n + 1 + 1 + 1 = omega arith in
    ap (corner_words f) three
    ∙ rw (corners_more f (3 * n + 1 + 1), corners_more f (3 * n + 1), corners_more f (3 * n), e, place_a p n, place_b p n, place_c p n)
    (append_assoc (words_of (triangles_to vertex p n) ++ vertex_words (vertex k.a)) (vertex_words (vertex k.b)) (vertex_words (vertex k.c))
    ∙ append_assoc (words_of (triangles_to vertex p n)) (vertex_words (vertex k.a)) (vertex_words (vertex k.b) ++ vertex_words (vertex k.c))
    ∙ ap (λ (l : List Float). words_of (triangles_to vertex p n) ++ l) (sym (append_assoc (vertex_words (vertex k.a)) (vertex_words (vertex k.b)) (vertex_words (vertex k.c))))
    ∙ sym (words_more vertex p n) ∙ ap (λ (m : ℕ). words_of (triangles_to vertex p m)) (add-one n))

corner_words_law : (vertex : ℕ → Vertex) (p : Primitive) (n : ℕ) → corner_words (λ c. vertex (corner_place p c)) (3 * n) ≡ words_of (triangles_to vertex p n)
unfolding corner_words triangles_to words_of
corner_words_law vertex p zero = refl
corner_words_law vertex p (suc n) = three_more vertex p n (corner_words_law vertex p n)

-- the first n corners of more
front : (vertex : ℕ → Vertex) (n more : ℕ) → take (17 * n) (corner_words vertex (n + more)) ≡ corner_words vertex n
front vertex n zero = let e : n + 0 ≡ n = omega arith in rw e (take_all (17 * n) (corner_words vertex n) (omega (arith, length_corners vertex n)))
front vertex n (suc more) =
    let e : n + suc more ≡ n + more + 1 = omega arith in
    rw (e, corners_more vertex (n + more))
    (take-append-le (17 * n) (corner_words vertex (n + more)) (vertex_words (vertex (n + more))) (omega (arith, length_corners vertex (n + more))) ∙ front vertex n more)

-- the first n corners are in the first (n + 2) / 3 triangles
pub corners_front : (vertex : ℕ → Vertex) (p : Primitive) (n : ℕ)
    → corner_words (λ c. vertex (corner_place p c)) n ≡ take (17 * n) (words_of (triangles_to vertex p ((n + 2) / 3)))
corners_front vertex p n =
    let f : ℕ → Vertex = λ c. vertex (corner_place p c) in
    let m = (n + 2) / 3 in
    let e : n + (3 * m - n) ≡ 3 * m = omega arith in
    sym (front f n (3 * m - n)) ∙ ap (take (17 * n)) (ap (corner_words f) e ∙ corner_words_law vertex p m)

-- three corners to a triangle
pub triangles_front : (vertex : ℕ → Vertex) (p : Primitive) (n : ℕ)
    → take (17 * (3 * n)) (words_of (triangles_to vertex p ((3 * n + 2) / 3))) ≡ words_of (triangles_to vertex p n)
triangles_front vertex p n =
    let e : (3 * n + 2) / 3 ≡ n = omega arith in
    rw e (take_all (17 * (3 * n)) (words_of (triangles_to vertex p n)) (omega (arith, length_triangles vertex p n)))
