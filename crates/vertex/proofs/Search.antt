-- Laws of the search for the first place that a test holds at. Assumes nothing.
use Prim.Native.Nat.{ℕ, zero, suc, ◌+◌, ◌-◌, ◌<◌, ◌≤◌}
use mathlib.Core.Path.{◌≡◌, refl}
use mathlib.Core.Bool.{Bool, true, false, cond}
use native.Mathlib.Numerals.{add-one}
use native.Mathlib.Omega.{arith}
use Rattle.buffers.specs.Bounded.{first_from}

module _ (f : ℕ → Bool) (i n : ℕ) where
  -- i places are passed, and the test fails at i: one more is passed
  pub first_pass : i < n → f i ≡ false → first_from f (i + 1) (n - (i + 1)) ≡ first_from f i (n - i)
  unfolding first_from
  first_pass h e = let k : n - i ≡ suc (n - (i + 1)) = omega arith in rw (k, e, add-one i)

  -- the test holds at i
  pub first_found : i < n → f i ≡ true → first_from f i (n - i) ≡ i
  unfolding first_from
  first_found h e = let k : n - i ≡ suc (n - (i + 1)) = omega arith in rw (k, e)

  -- no place is left
  pub first_none : n ≤ i → first_from f i (n - i) ≡ i
  unfolding first_from
  first_none h = let k : n - i ≡ 0 = omega arith in rw k

-- ---- the search stops only at a real failure, and passes none
first_cases : (f : ℕ → Bool) (i k : ℕ) (b : Bool) → f i ≡ b → (first_from f (suc i) k < suc i + k → f (first_from f (suc i) k) ≡ true) →
    cond b i (first_from f (suc i) k) < i + suc k → f (cond b i (first_from f (suc i) k)) ≡ true
first_cases f i k true e rest h = e
first_cases f i k false e rest h = rest (omega arith)

pub first_real : (f : ℕ → Bool) (i k : ℕ) → first_from f i k < i + k → f (first_from f i k) ≡ true
unfolding first_from
first_real f i zero h = absurd (omega arith)
first_real f i (suc k) h = first_cases f i k (f i) refl (first_real f (suc i) k) h
