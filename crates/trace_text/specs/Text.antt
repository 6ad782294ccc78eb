-- Text put into an area of bytes, piece by piece. A page is the area's bytes and the place where the next piece goes.
use Rattle.std.specs.Prelude.{cond, ℕ, zero, suc, ◌+◌, ◌/◌, ◌%◌, min, ltb, leb, length, Float}
use mathlib.Core.List.{List, [], ◌∷◌, ◌++◌, foldl}
use Rattle.std.specs.Float.{binary32}
use Rattle.std.specs.Float.Ieee.{is_nan, to_bits}
use Rattle.io.specs.Digits.{hex_digit_ascii, last_digits}
use Rattle.number.specs.Bytes.{overwrite}

pub data Page : Type 0 where
  page : List ℕ → ℕ → Page

-- the place held within the bytes: one behind them counts as their end
abbrev pub held_page : Page → Page
held_page (page bytes place) = page bytes (min place (length bytes))

-- the text at a place within the bytes, and the place after it; nothing where it does not fit
unfoldable pub put_held : Page → List ℕ → Page
put_held (page bytes at) text =
    cond (leb (at + length text) (length bytes)) (page (overwrite bytes at text) (at + length text)) (page bytes at)

abbrev pub put_text : Page → List ℕ → Page
put_text p text = put_held (held_page p) text

-- the decimal digits of n, the most significant first, in at most so many steps. There are more steps than digits.
abbrev pub decimal_in : ℕ → ℕ → List ℕ
decimal_in zero n = []
decimal_in (suc steps) n = cond (ltb n 10) (hex_digit_ascii n ∷ []) (decimal_in steps (n / 10) ++ (hex_digit_ascii (n % 10) ∷ []))

unfoldable pub decimal : ℕ → List ℕ
decimal n = decimal_in (suc n) n

-- the eight hexadecimal digits of a number of 32 bits
unfoldable pub hex : ℕ → List ℕ
hex w = last_digits 16 8 w

-- the bit pattern of x, one for every NaN
unfoldable pub shown_bits : Float → ℕ
shown_bits x = cond (is_nan x) 0x7fc0_0000 (to_bits binary32 x)

-- a space in front
abbrev pub spaced : List ℕ → List ℕ
spaced text = 32 ∷ text

abbrev pub put_number : Page → ℕ → Page
put_number p n = put_text p (spaced (decimal n))

abbrev pub put_float : Page → Float → Page
put_float p x = put_text p (spaced (hex (shown_bits x)))

-- each of some, in order
abbrev pub put_each : {A : Type 0} → (Page → A → Page) → Page → List A → Page
put_each f p l = foldl f (held_page p) l
