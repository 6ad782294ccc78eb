-- Arguments as words: a number of 64 bits is two words, the low one first; an f32 is its bit pattern; a signed number is in two's complement; a switch is on where its
-- word is 1. A word past the end is 0.
use Rattle.std.specs.Prelude.{Bool, zero, suc, List, [], ◌∷◌, ℕ, ◌+◌, ◌*◌, eqb, get_or, take, drop, ℤ, Float}
use Rattle.std.specs.Float.{binary32}
use Rattle.std.specs.Float.Ieee.{of_bits}
use Rattle.number.specs.Numbers.{signed_of}

abbrev pub word_at : List ℕ → ℕ → ℕ
word_at w i = get_or w i 0

-- the number of two words
abbrev pub long : ℕ → ℕ → ℕ
long low high = low + 4294967296 * high

abbrev pub long_at : List ℕ → ℕ → ℕ
long_at w i = long (word_at w i) (word_at w (i + 1))

abbrev pub float_at : List ℕ → ℕ → Float
float_at w i = of_bits binary32 (word_at w i)

abbrev pub switch : ℕ → Bool
switch n = eqb n 1

-- f of each of the n places from k on
abbrev pub each_from : {A : Type 0} → (ℕ → A) → ℕ → ℕ → List A
each_from f k zero = []
each_from f k (suc n) = f k ∷ each_from f (suc k) n

-- the first four f32, and the first sixteen
abbrev pub four_floats : List ℕ → List Float
four_floats w = float_at w 0 ∷ float_at w 1 ∷ float_at w 2 ∷ float_at w 3 ∷ []

abbrev pub matrix_floats : List ℕ → List Float
matrix_floats w =
    float_at w 0 ∷ float_at w 1 ∷ float_at w 2 ∷ float_at w 3 ∷ float_at w 4 ∷ float_at w 5 ∷ float_at w 6 ∷ float_at w 7
    ∷ float_at w 8 ∷ float_at w 9 ∷ float_at w 10 ∷ float_at w 11 ∷ float_at w 12 ∷ float_at w 13 ∷ float_at w 14 ∷ float_at w 15 ∷ []

abbrev pub signed_at : List ℕ → ℕ → ℤ
signed_at w i = signed_of 32 (word_at w i)

-- the first four signed numbers, and the first sixteen
abbrev pub four_signed : List ℕ → List ℤ
four_signed w = signed_at w 0 ∷ signed_at w 1 ∷ signed_at w 2 ∷ signed_at w 3 ∷ []

abbrev pub matrix_signed : List ℕ → List ℤ
matrix_signed w =
    signed_at w 0 ∷ signed_at w 1 ∷ signed_at w 2 ∷ signed_at w 3 ∷ signed_at w 4 ∷ signed_at w 5 ∷ signed_at w 6 ∷ signed_at w 7
    ∷ signed_at w 8 ∷ signed_at w 9 ∷ signed_at w 10 ∷ signed_at w 11 ∷ signed_at w 12 ∷ signed_at w 13 ∷ signed_at w 14 ∷ signed_at w 15 ∷ []

-- n bytes of the area from a place on
abbrev pub bytes_at : List ℕ → ℕ → ℕ → List ℕ
bytes_at bytes place n = take n (drop place bytes)
