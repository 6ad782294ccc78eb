-- What normalised components become, at any byte width (01: "Decoding facts are shown for any byte width").
-- The law `normalised` says that all of it holds: of unsigned components of up to 15 bytes, and of signed ones of up to 16. The largest
-- unsigned number of 16 bytes is past the largest f32.
use Rattle.std.specs.Prelude.{◌≡◌, ℕ, ◌-◌, ◌*◌, ◌^◌, ◌<◌, ◌≤◌, T, ℤ, pos, negsuc, neg_ℤ, ◌≤ℤ◌, Float}
use Rattle.std.specs.Float.Ieee as Ieee
use Rattle.number.specs.F32.{f0, f1, f_minus_1}
use Rattle.number.specs.Numbers.{unorm, snorm, signed_of}

-- the largest numbers of w bytes: 255 and 65,535, and 127 and 32,767
abbrev pub largest_unsigned : ℕ → ℕ
largest_unsigned w = 2 ^ (8 * w) - 1

abbrev pub largest_signed : ℕ → ℕ
largest_signed w = 2 ^ (8 * w - 1) - 1

-- x is at most y, as f32 are compared
abbrev pub ◌≼◌ : Float → Float → Type 0
x ≼ y = T (Ieee.le x y)

infix 50 ◌≼◌
-- unsigned: from 0 to the largest value they go from 0.0 to 1.0, and never fall
pub record UnsignedFacts (max : ℕ) : Type 0 where
  pub zero : unorm 0 max ≡ f0
  pub largest : unorm max max ≡ f1
  pub within : (n : ℕ) → n ≤ max → (f0 ≼ unorm n max) × (unorm n max ≼ f1)
  pub rises : (m n : ℕ) → m ≤ n → n ≤ max → unorm m max ≼ unorm n max

-- signed: from -max - 1 to max they go from -1.0 to 1.0, and never fall; the lowest two are both -1.0
pub record SignedFacts (max : ℕ) : Type 0 where
  pub lowest : snorm (negsuc max) max ≡ f_minus_1
  pub opposite : snorm (neg_ℤ (pos max)) max ≡ f_minus_1
  pub zero : snorm (pos 0) max ≡ f0
  pub largest : snorm (pos max) max ≡ f1
  pub within : (v : ℤ) → negsuc max ≤ℤ v → v ≤ℤ pos max → (f_minus_1 ≼ snorm v max) × (snorm v max ≼ f1)
  pub rises : (u v : ℤ) → negsuc max ≤ℤ u → u ≤ℤ v → v ≤ℤ pos max → snorm u max ≼ snorm v max

-- components of w bytes: their facts, and that each number of as many bits lies in the range that these speak of
pub record DecodingFacts (w : ℕ) : Type 0 where
  pub unsigned : w ≤ 15 → UnsignedFacts (largest_unsigned w)
  pub signed : SignedFacts (largest_signed w)
  pub signed_range : (n : ℕ) → n < 2 ^ (8 * w) → (negsuc (largest_signed w) ≤ℤ signed_of (8 * w) n) × (signed_of (8 * w) n ≤ℤ pos (largest_signed w))
