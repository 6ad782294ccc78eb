-- The places of corners, one after the other. Assumes nothing.
use mathlib.Core.Bool.{Bool, true, false, cond}
use mathlib.Core.Path.{◌≡◌, refl}
use Prim.Native.Nat.{ℕ, ◌+◌, ◌*◌, ◌/◌, ◌%◌, ◌≤◌}
use native.Mathlib.Omega.{arith}
use borrow.Author.Tests.{eq-eqb, eqb-true, eqb-false}
use lib.Dec.{eqb}
use Rattle.corners.specs.Places.{triangle_count, corners_of, corner_place}
use Rattle.corners.specs.declared.Primitive.{Primitive}

module _ (p : Primitive) (n : ℕ) where
  pub place_a : corner_place p (3 * n) ≡ (corners_of p n).a
  place_a = let r : 3 * n % 3 ≡ 0 = omega arith in let q : 3 * n / 3 ≡ n = omega arith in rw (eq-eqb (3 * n % 3) 0 r, q)

  pub place_b : corner_place p (3 * n + 1) ≡ (corners_of p n).b
  place_b = let r : (3 * n + 1) % 3 ≡ 1 = omega arith in let q : (3 * n + 1) / 3 ≡ n = omega arith in rw (r, q)

  pub place_c : corner_place p (3 * n + 1 + 1) ≡ (corners_of p n).c
  place_c = let r : (3 * n + 1 + 1) % 3 ≡ 2 = omega arith in let q : (3 * n + 1 + 1) / 3 ≡ n = omega arith in rw (r, q)

-- a list's corner is at its own place
pub list_place : (c : ℕ) → c ≡ corner_place Primitive.Triangles c
list_place c = go (eqb (c % 3) 0) (eqb (c % 3) 1) refl refl
  where
    go : (a b : Bool) → eqb (c % 3) 0 ≡ a → eqb (c % 3) 1 ≡ b → c ≡ cond a (3 * (c / 3)) (cond b (3 * (c / 3) + 1) (3 * (c / 3) + 2))
    go true b e f = omega (arith, eqb-true (c % 3) 0 e)
    go false true e f = omega (arith, eqb-true (c % 3) 1 f)
    go false false e f = omega (arith, eqb-false (c % 3) 0 e, eqb-false (c % 3) 1 f)

-- no more triangles than indices
pub count_le : (p : Primitive) (n : ℕ) → triangle_count p n ≤ n
count_le Primitive.Triangles n = omega arith
count_le Primitive.Strip n = omega arith
count_le Primitive.Fan n = omega arith
