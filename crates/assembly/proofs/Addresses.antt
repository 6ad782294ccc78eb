-- `address_of`, case by case: the width, the length and the stride are as the code holds them. Assumes nothing.
use Prim.Native.Nat.{ℕ, ◌+◌, ◌*◌, ◌^◌, ◌<◌, ◌≤◌}
use mathlib.Core.Bool.{cond}
use mathlib.Core.Path.{◌≡◌, sym, subst⁻¹}
use native.Mathlib.Nat.{le_of_lt, lt_of_le_of_lt, mul-le-mul, mul-le-mul_left, mul-lt-mul_of_pos_right}
use native.Mathlib.Omega.{arith}
use lib.Dec.{eqb}
use lib.Pow.{pow_pos, pow-add}
use borrow.Author.Tests.{lt-ltb, le-ltb, eq-eqb, ne_eqb}
use Rattle.fetch.specs.Decode.{component_bytes}
use Rattle.fetch.specs.Fetch.{address_at, unknown_type, overflow, last_address, address_of}
use Rattle.fetch.specs.declared.ArrayPointer.{ArrayPointer}

-- the product of two numbers of k bits has at most k + k
pub below : (k : ℕ) {a b : ℕ} → a < 2 ^ k → b < 2 ^ k → a * b < 2 ^ (k + k)
below k {a} {b} ha hb =
    subst⁻¹ (λ (n : ℕ). a * b < n) (pow-add 2 k k)
    (lt_of_le_of_lt (mul-le-mul_left a (le_of_lt hb)) (mul-lt-mul_of_pos_right ha (pow_pos k)))

-- a product of two numbers of 32 bits and a third one added
pub below_sum : (a b c : ℕ) → a < 4294967296 → b < 4294967296 → c < 4294967296 → c + a * b < 18446744073709551616
below_sum a b c ha hb hc =
    let p : a * b ≤ 4294967295 * 4294967295 = mul-le-mul {n₁ = a} {m₁ = b} {n₂ = 4294967295} {m₂ = 4294967295} (omega arith) (omega arith) in omega (arith, p)

module _ (a : ArrayPointer) (index width : ℕ) (w : width ≡ component_bytes a.ty) where
  pub no_type : width ≡ 0 → address_of a index ≡ unknown_type
  unfolding address_of
  no_type z = simp (sym w, eq-eqb width 0 z)

  module _ (z : width ≡ 0 → ⊥) where
    pub long : last_address < width * a.size → address_of a index ≡ overflow
    unfolding address_of
    long h = simp (sym w, ne_eqb width 0 z, lt-ltb last_address (width * a.size) h)

    module _ (h : width * a.size ≤ last_address) (stride : ℕ) (s : stride ≡ cond (eqb a.stride 0) (width * a.size) a.stride) where
      pub far : last_address < stride * index → address_of a index ≡ overflow
      unfolding address_of
      far g = simp (sym w, ne_eqb width 0 z, le-ltb last_address (width * a.size) h, sym s, lt-ltb last_address (stride * index) g)

      module _ (g : stride * index ≤ last_address) where
        pub past : last_address < a.pointer + stride * index → address_of a index ≡ overflow
        unfolding address_of
        past k =
            simp (
              sym w,
              ne_eqb width 0 z,
              le-ltb last_address (width * a.size) h,
              sym s,
              le-ltb last_address (stride * index) g,
              lt-ltb last_address (a.pointer + stride * index) k,
            )

        pub there : a.pointer + stride * index ≤ last_address → address_of a index ≡ address_at (a.pointer + stride * index) (width * a.size)
        unfolding address_of
        there k =
            simp (
              sym w,
              ne_eqb width 0 z,
              le-ltb last_address (width * a.size) h,
              sym s,
              le-ltb last_address (stride * index) g,
              le-ltb last_address (a.pointer + stride * index) k,
            )
