-- Facts on f32 that the proofs of this crate cite. Assumes nothing.
use Rattle.std.proofs.Common.{◌≡◌, ℕ, zero, suc, ◌+◌, ◌*◌, ◌/◌, ◌%◌, ◌^◌, ◌<◌, ◌≤◌, Bool, true, false, cond, ◌||◌, T, eqb, leb, pos, negsuc, sym, refl, ◌∙◌, subst, true≢false}
use Rattle.std.proofs.Common.{mod-lt, zero-lt-suc, mul-pos, pow-suc, zero-mul, arith, eqb→eq, pow_pos, ltb-false, ltb-true}
use mathlib.Core.Bool.{beq, false≢true}
use native.Mathlib.Nat.{mod-mod, mod-mod_of_dvd, dvd-mul_right}
use borrow.Author.Tests.{lt-leb}
use lib.Ieee.{Float, Format, nan, inf, fin, binary32, prec, low, hid, ones, top, odd, of_fields, of_bits, neg, lt, eq, fits, is_nan, up, down}
use lib.Ieee.Fits.{up_pos, and_l}
use Rattle.number.specs.Numbers.{magnitude}

-- only a NaN is one
pub only_nan : (x : Float) → is_nan x ≡ true → x ≡ nan
unfolding is_nan
only_nan nan h = refl
only_nan (inf s) h = absurd (false≢true h)
only_nan (fin s m e) h = absurd (false≢true h)

-- clearing the sign: a negative number, a zero, and what is left
pub magnitude_negative : (x : Float) → lt x (fin false 0 (pos 0)) ≡ true → neg x ≡ magnitude x
unfolding lt neg magnitude
magnitude_negative nan h = refl
magnitude_negative (inf true) h = refl
magnitude_negative (inf false) h = absurd (false≢true h)
magnitude_negative (fin true m e) h = refl
magnitude_negative (fin false m e) h = absurd (let p : m * up e * 1 < 0 * down e = ltb-true _ _ h in omega arith)

pub magnitude_zero : (x : Float) → T (fits binary32 x) → eq x (fin false 0 (pos 0)) ≡ true → fin false 0 (pos 0) ≡ magnitude x
unfolding eq fits magnitude
magnitude_zero nan f h = absurd (false≢true h)
magnitude_zero (inf s) f h = absurd (false≢true h)
magnitude_zero (fin s zero (pos zero)) f h = refl
magnitude_zero (fin s zero (pos (suc k))) f h = absurd (let p : 2 ^ suc k * 1 ≡ 1 = eqb→eq _ _ f in omega (arith, pow-suc 2 k, pow_pos k))
magnitude_zero (fin s zero (negsuc k)) f h = absurd (let p : 1 * 2 ^ suc k ≡ 1 = eqb→eq _ _ f in omega (arith, pow-suc 2 k, pow_pos k))
magnitude_zero (fin s (suc m) e) f h =
    let a = suc m * up e * 1 in
    let p : a ≡ 0 * down e = eqb→eq _ _ (and_l (eqb a (0 * down e)) (beq s false || eqb a 0) (subst T (sym h) tt)) in
    absurd (omega (arith, mul-pos (zero-lt-suc m) (up_pos e)))

pub magnitude_other : (x : Float) → lt x (fin false 0 (pos 0)) ≡ false → eq x (fin false 0 (pos 0)) ≡ false → x ≡ magnitude x
unfolding lt eq magnitude
magnitude_other nan g h = refl
magnitude_other (inf true) g h = absurd (true≢false g)
magnitude_other (inf false) g h = refl
magnitude_other (fin false m e) g h = refl
magnitude_other (fin true m e) g h =
    let p : m * up e * 1 + 0 * down e ≤ 0 = ltb-false _ _ g in
    let a : m * up e * 1 ≡ 0 = omega arith in
    absurd (true≢false (sym (simp (a, zero-mul)) ∙ h))

-- clearing the sign clears the highest bit of the pattern
odd_magnitude : (d : ℕ) (s : Bool) (q k l : ℕ) → magnitude (odd d s q k l) ≡ odd d false q k l
unfolding odd magnitude
odd_magnitude d s zero k l = refl
odd_magnitude d s (suc q) k l = refl

fields_magnitude : (f : Format) (s : Bool) (x t : ℕ) → magnitude (of_fields f s x t) ≡ of_fields f false x t
unfolding of_fields magnitude
fields_magnitude f s zero t = odd_magnitude (prec f) s t 0 (low f)
fields_magnitude f s (suc x) t = go (eqb (suc x) (ones f)) (eqb t 0)
  where
    go : (a b : Bool) → magnitude (cond a (cond b (inf s) nan) (odd (prec f) s (hid f + t) x (low f))) ≡ cond a (cond b (inf false) nan) (odd (prec f) false (hid f + t) x (low f))
    go true true = refl
    go true false = refl
    go false b = odd_magnitude (prec f) s (hid f + t) x (low f)

pub sign_bit_cleared : (n : ℕ) → magnitude (of_bits binary32 n) ≡ of_bits binary32 (n % 2 ^ 31)
unfolding of_bits
sign_bit_cleared n =
    let f = binary32 in
    fields_magnitude f (leb (top f) n) (n % top f / hid f) (n % hid f)
    ∙ rw (lt-leb (top f) (n % 2 ^ 31) (mod-lt n (omega arith)), mod-mod n (2 ^ 31), mod-mod_of_dvd (hid f) n (dvd-mul_right (hid f) (suc (ones f))))
