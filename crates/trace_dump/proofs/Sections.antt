-- A word of 32 bits has no bit above them. Assumes nothing.
use mathlib.Core.Bool.{false}
use mathlib.Core.Path.{◌≡◌, sym, ap}
use Prim.Native.Nat.{ℕ, ◌%◌, ◌^◌, ◌<◌, ◌≤◌}
use native.Mathlib.Nat.{lt_of_lt_of_le, div-eq_of_lt}
use lib.Dec.{eqb}
use lib.Pow.{pow_mono}
use Rattle.trace_dump.specs.Sections.{has_section}

pub no_bit : (w k : ℕ) → w < 2 ^ 32 → 32 ≤ k → false ≡ has_section w k
no_bit w k l above = sym (ap (λ (q : ℕ). eqb (q % 2) 1) (div-eq_of_lt (lt_of_lt_of_le l (pow_mono above))))
