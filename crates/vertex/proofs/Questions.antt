-- What the questions on a list of indices answer, over plain values. Assumes nothing.
use mathlib.Core.Bool.{true, false}
use mathlib.Core.List.{List}
use mathlib.Core.Path.{◌≡◌, sym, ap, ◌∙◌}
use Prim.Native.Nat.{ℕ, ◌<◌, ◌≤◌}
use native.Mathlib.Omega.{arith}
use borrow.Author.Tests.{lt-ltb, le-ltb}
use lib.ListN.{length}
use Rattle.buffers.specs.Bounded.{first}
use Rattle.vertex.specs.Scene.{Scene}
use Rattle.vertex.specs.Questions.{position_at, fails, has_vertices, list_number}

module _ (s : Scene) (mode : ℕ) (is : List ℕ) where
  pub no_vertices : has_vertices s.arrays.vertex ≡ false → 8 ≡ list_number s mode is
  unfolding list_number
  no_vertices e = rw e

  module _ (e : has_vertices s.arrays.vertex ≡ true) (n : ℕ) (en : n ≡ length is) (place : ℕ) (ep : place ≡ first n (fails s is)) where
    found : place ≡ first (length is) (fails s is)
    found = ep ∙ ap (λ (k : ℕ). first k (fails s is)) en

    pub no_position : place < n → (r : ℕ) → r ≡ position_at s is place → r ≡ list_number s mode is
    unfolding list_number
    no_position h r f = let l : place < length is = omega arith in rw (e, sym found, lt-ltb _ _ l) f

    pub no_mode : n ≤ place → 6 < mode → 0x0500 ≡ list_number s mode is
    unfolding list_number
    no_mode h m = let l : length is ≤ place = omega arith in rw (e, sym found, le-ltb _ _ l, lt-ltb _ _ m)

    pub no_triangles : n ≤ place → mode ≤ 6 → mode < 4 → 10 ≡ list_number s mode is
    unfolding list_number
    no_triangles h m k = let l : length is ≤ place = omega arith in rw (e, sym found, le-ltb _ _ l, le-ltb _ _ m, lt-ltb _ _ k)

    pub all_answered : n ≤ place → mode ≤ 6 → 4 ≤ mode → 0 ≡ list_number s mode is
    unfolding list_number
    all_answered h m k = let l : length is ≤ place = omega arith in rw (e, sym found, le-ltb _ _ l, le-ltb _ _ m, le-ltb _ _ k)
