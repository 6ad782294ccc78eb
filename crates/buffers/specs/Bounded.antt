-- Tests on the indices below a bound: the first index that passes, and how many pass.
use Rattle.std.specs.Prelude.{ℕ, zero, suc, ◌+◌, Bool, cond}

-- the first index that passes, of the n from `at` on; at + n where none does
unfoldable pub first_from : (ℕ → Bool) → ℕ → ℕ → ℕ
first_from P at zero = at
first_from P at (suc n) = cond (P at) at (first_from P (suc at) n)

-- the first index below n that passes, or n
unfoldable pub first : ℕ → (ℕ → Bool) → ℕ
first n P = first_from P 0 n

-- how many indices below n pass
unfoldable pub count : ℕ → (ℕ → Bool) → ℕ
count zero P = 0
count (suc n) P = count n P + cond (P n) 1 0
