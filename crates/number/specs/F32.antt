-- f32 operations by short names, and the constants that the formulas use. Each operation rounds once, to nearest, ties to even.
use Rattle.std.specs.Prelude.{ℤ, from_bits, Float}
use Rattle.std.specs.Float.Ieee as Ieee
use Rattle.std.specs.Float.{binary32}
use Rattle.std.specs.Float.Ieee.{of_int, neg}

abbrev pub ◌⊕◌ : Float → Float → Float
x ⊕ y = Ieee.add binary32 x y

abbrev pub ◌⊖◌ : Float → Float → Float
x ⊖ y = Ieee.sub binary32 x y

abbrev pub ◌⊗◌ : Float → Float → Float
x ⊗ y = Ieee.mul binary32 x y

abbrev pub ◌⊘◌ : Float → Float → Float
x ⊘ y = Ieee.div binary32 x y

-- +0.0, 1.0, -1.0 and 2.0, by their bit patterns
abbrev pub f0 : Float
f0 = from_bits binary32 0

abbrev pub f1 : Float
f1 = from_bits binary32 0x3f80_0000

abbrev pub f_minus_1 : Float
f_minus_1 = neg f1

abbrev pub f2 : Float
f2 = from_bits binary32 0x4000_0000

-- the f32 nearest to a whole number, ties to even
abbrev pub nearest : ℤ → Float
nearest v = of_int binary32 v

infixl 75 ◌⊕◌
infixl 75 ◌⊖◌
infixl 80 ◌⊗◌
infixl 80 ◌⊘◌
