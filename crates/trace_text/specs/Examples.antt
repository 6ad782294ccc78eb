-- Worked examples as theorems about the definitions.
use Rattle.std.specs.Prelude.{◌≡◌, refl, [], ◌∷◌}
use Rattle.std.specs.Float.Ieee.{of_bits, is_nan}
use Rattle.std.specs.Float.{binary32}
use Rattle.number.specs.Bytes.{overwrite}
use Rattle.trace_text.specs.Text.{page, put_held, put_text, decimal, hex, shown_bits, spaced}

-- a text that fills the page to its end fits; one byte more does not
pub fills : (put_text (page (1 ∷ 2 ∷ 3 ∷ []) 1) (65 ∷ 66 ∷ []) ≡ page (1 ∷ 65 ∷ 66 ∷ []) 3) × (put_text (page (1 ∷ 2 ∷ 3 ∷ []) 2) (65 ∷ 66 ∷ []) ≡ page (1 ∷ 2 ∷ 3 ∷ []) 2)
unfolding put_held overwrite
fills = (refl, refl)

-- a place behind the page counts as its end
pub behind_the_end : put_text (page (1 ∷ []) 7) (65 ∷ []) ≡ page (1 ∷ []) 1
unfolding put_held overwrite
behind_the_end = refl

-- " 305" and " 0"
pub numbers_shown : (spaced (decimal 305) ≡ 32 ∷ 51 ∷ 48 ∷ 53 ∷ []) × (spaced (decimal 0) ≡ 32 ∷ 48 ∷ [])
unfolding decimal
numbers_shown = (refl, refl)

-- "0123abcd"
pub letters : hex 0x0123_abcd ≡ 48 ∷ 49 ∷ 50 ∷ 51 ∷ 97 ∷ 98 ∷ 99 ∷ 100 ∷ []
unfolding hex
letters = refl

-- one pattern for every NaN
pub one_nan : shown_bits (of_bits binary32 0xffc0_0001) ≡ 0x7fc0_0000
unfolding shown_bits of_bits is_nan
one_nan = refl
