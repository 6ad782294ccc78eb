-- Tables of numbers that stand for something: the enumerants of GL.
use Rattle.std.specs.Prelude.{ℕ, cond, List, [], ◌∷◌, ◌==◌}
use Rattle.std.proofs.Math.Option.{Option, get_or, some, none}

-- a row of a table: a number, and what it stands for
pub data Row (A : Type 0) : Type 0 where
  ◌names◌ : ℕ → A → Row A

infix 70 ◌names◌
-- what a number stands for; none where no row has it
abbrev pub lookup : {A : Type 0} → List (Row A) → ℕ → Option A
lookup [] n = none
lookup ((code names a) ∷ rows) n = cond (n == code) (some a) (lookup rows n)

-- what a number stands for; the last one given where no row has it
abbrev pub row_or : {A : Type 0} → List (Row A) → ℕ → A → A
row_or rows code last = get_or (lookup rows code) last
