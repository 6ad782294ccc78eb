-- Worked examples as theorems about the definitions.
use Rattle.std.specs.Prelude.{◌≡◌, [], ◌∷◌, negsuc, refl}
use Rattle.std.specs.Float.{binary32}
use Rattle.std.specs.Float.Ieee.{of_bits, to_unsigned}
use Rattle.number.specs.Numbers.{magnitude, whole_part, little_endian, signed_of}

-- fog mode 2048.9 counts as 0x0800
pub fog_whole_part : whole_part (of_bits binary32 0x4500_0e66) ≡ 0x0800
unfolding of_bits to_unsigned
fog_whole_part = refl

-- -0.0 becomes +0.0
pub magnitude_of_minus_zero : magnitude (of_bits binary32 0x8000_0000) ≡ of_bits binary32 0
unfolding of_bits magnitude
magnitude_of_minus_zero = refl

-- bytes in the order of an array: the lowest first
pub little_endian_order : (little_endian (0x34 ∷ 0x12 ∷ []) ≡ 0x1234) × (signed_of 16 0xfffe ≡ negsuc 1)
little_endian_order = (refl, refl)
