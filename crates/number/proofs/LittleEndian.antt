-- Little-endian numbers of any width. Assumes nothing.
use Rattle.std.proofs.Common.{◌≡◌, ℕ, zero, suc, ◌+◌, ◌*◌, ◌/◌, ◌%◌, ◌^◌, ◌<◌, ◌≤◌, List, [], ◌∷◌, length, get_or, take, drop, sym, refl, ap, ◌∙◌, add-zero, add-suc, mod-eq_of_lt}
use Rattle.std.proofs.Common.{add_comm, mul-le-mul_left, zero-add, mul-suc, div-one, arith, drop-cons, pow-add}
use native.Mathlib.Nat.{pow-succ', zero-div, add-mul-div_left, add-mul-mod_self_left, div-div-eq-div-mul}
use native.Mathlib.Nat.{div-eq_of_lt}
use Rattle.number.specs.Numbers.{little_endian}

-- each element is a byte
abbrev pub Bytes : List ℕ → Type 0
Bytes [] = Unit {0}
Bytes (b ∷ bs) = (b < 256) × Bytes bs

-- The law for every width: the number is below 256 ^ width, and byte i of it is the list's.
pub endian_bound : (bs : List ℕ) → Bytes bs → little_endian bs < 256 ^ length bs
endian_bound [] h = omega arith
endian_bound (b ∷ bs) h = rw (pow-succ' 256 (length bs)) (omega (arith, endian_bound bs h.1, mul-le-mul_left 256 (endian_bound bs h.1)))

-- the same in bits
byte_bits : (w : ℕ) → 256 ^ w ≡ 2 ^ (8 * w)
byte_bits zero = refl
byte_bits (suc w) = pow-succ' 256 w ∙ ap (λ (x : ℕ). 256 * x) (byte_bits w) ∙ sym (pow-add 2 8 (8 * w)) ∙ ap (λ (x : ℕ). 2 ^ x) (sym (mul-suc 8 w ∙ add_comm (8 * w) 8))

pub le_bits : (bs : List ℕ) → Bytes bs → little_endian bs < 2 ^ (8 * length bs)
le_bits bs h = rw (sym (byte_bits (length bs))) (endian_bound bs h)

pub endian_byte : (bs : List ℕ) → Bytes bs → (i : ℕ) → little_endian bs / 256 ^ i % 256 ≡ get_or bs i 0
endian_byte [] h i = rw (zero-div (256 ^ i))
endian_byte (b ∷ bs) h zero = ap (λ (x : ℕ). x % 256) (div-one (b + 256 * little_endian bs)) ∙ add-mul-mod_self_left b 256 (little_endian bs) ∙ mod-eq_of_lt h.0
endian_byte (b ∷ bs) h (suc i) =
    ap (λ (x : ℕ). (b + 256 * little_endian bs) / x % 256) (pow-succ' 256 i)
    ∙ ap (λ (x : ℕ). x % 256) (sym (div-div-eq-div-mul (b + 256 * little_endian bs) 256 (256 ^ i)) ∙ ap (λ (x : ℕ). x / 256 ^ i) shifted)
    ∙ endian_byte bs h.1 i
  where
    shifted : (b + 256 * little_endian bs) / 256 ≡ little_endian bs
    shifted = add-mul-div_left b (little_endian bs) (omega arith) ∙ ap (λ (x : ℕ). x + little_endian bs) (div-eq_of_lt h.0) ∙ zero-add (little_endian bs)

-- the w elements of a list from at + k on, one by one
abbrev pub window : List ℕ → ℕ → ℕ → ℕ → List ℕ
window s at k zero = []
window s at k (suc w) = get_or s (at + k) 0 ∷ window s at (suc k) w

window_is : (w : ℕ) (s : List ℕ) (at k : ℕ) → at + k + w ≤ length s → take w (drop (at + k) s) ≡ window s at k w
window_is zero s at k h = refl
window_is (suc w) s at k h =
    rw (drop-cons s (at + k) 0 (omega arith))
    (ap (λ (l : List ℕ). get_or s (at + k) 0 ∷ l) (rw (sym (add-suc at k)) (window_is w s at (suc k) (omega arith))))

length_window : (w : ℕ) (s : List ℕ) (at k : ℕ) → length (window s at k w) ≡ w
length_window zero s at k = refl
length_window (suc w) s at k = ap suc (length_window w s at (suc k))

bytes_window : (w : ℕ) (s : List ℕ) (at k : ℕ) → ((i : ℕ) → get_or s i 0 < 256) → Bytes (window s at k w)
bytes_window zero s at k b = tt
bytes_window (suc w) s at k b = (b (at + k), bytes_window w s at (suc k) b)

-- the number of a part of a list of bytes, from the bytes one by one
pub endian_part : (w : ℕ) (s : List ℕ) (at : ℕ) → at + w ≤ length s → ((i : ℕ) → get_or s i 0 < 256) → (n : ℕ) → n ≡ little_endian (window s at 0 w)
    → (n ≡ little_endian (take w (drop at s))) × (n < 256 ^ w)
endian_part w s at h b n e = (
  e ∙ ap little_endian (sym (rw (add-zero at) at (window_is w s at 0 (omega arith)))),
  rw (sym e, length_window w s at 0) at (endian_bound (window s at 0 w) (bytes_window w s at 0 b)),
)
