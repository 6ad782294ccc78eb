-- Two's complement at any width. Assumes nothing.
use Rattle.std.proofs.Common.{◌≡◌, ℕ, zero, suc, ◌-◌, ◌*◌, ◌^◌, ◌<◌, ◌≤◌, Bool, true, false, cond, ltb, pos, negsuc, ◌+ℤ◌, ◌-ℤ◌, ◌≤ℤ◌, refl, ap, ◌∙◌, zero-add, arith, le→leb}
use Rattle.std.proofs.Common.{SFits, to_z, of_z, ltb-false, ltb-true, le-ltb, lt-ltb}
use mathlib.Core.Path.{subst⁻¹}
use mir.Syntax.{Width}
use mir.Val.{hbits}
use mir.ValLaws.{to_z-of_z}
use Rattle.number.specs.Numbers.{signed_at}

-- The law for every width: below the half a number stands for itself, and from the half on for the number that is 2 * half less.
pub twos_complement : (half n : ℕ) → n < 2 * half → (n < half → signed_at half n ≡ pos n) × (half ≤ n → signed_at half n +ℤ pos (2 * half) ≡ pos n)
twos_complement half n h = (λ l. simp (lt-ltb n half l), λ l. simp (le-ltb n half l) (less (2 * half) n h))
  where
    less : (m n : ℕ) → n < m → negsuc (m - suc n) +ℤ pos m ≡ pos n
    less m n h = simp (le-ltb m (suc (m - suc n)) (omega arith)) (ap pos (omega arith))

-- so it is from -half up to half - 1
pub signed_range : (half n : ℕ) → n < 2 * half → (negsuc (half - 1) ≤ℤ signed_at half n) × (signed_at half n ≤ℤ pos (half - 1))
signed_range half n h = go (ltb n half) refl
  where
    go : (b : Bool) → ltb n half ≡ b → (negsuc (half - 1) ≤ℤ cond b (pos n) (negsuc (2 * half - suc n))) × (cond b (pos n) (negsuc (2 * half - suc n)) ≤ℤ pos (half - 1))
    go true e = (record { le = tt }, record { le = le→leb n (half - 1) (omega (arith, ltb-true n half e)) })
    go false e = (record { le = le→leb (2 * half - suc n) (half - 1) (omega (arith, ltb-false n half e)) }, record { le = tt })

minus_one : (k : ℕ) → negsuc 0 -ℤ pos k ≡ negsuc k
minus_one zero = refl
minus_one (suc k) = ap (λ (n : ℕ). negsuc (suc n)) (zero-add k)

-- how the code makes a negative number: -1 - k, where k counts down from half - 1
module _ (w : Width) (k : ℕ) (h : k < 2 ^ hbits w) where
  flipped : negsuc 0 -ℤ to_z w k ≡ negsuc k
  flipped = rw (lt-ltb k (2 ^ hbits w) h) (minus_one k)

  pub flipped_fits : SFits w (negsuc 0 -ℤ to_z w k)
  flipped_fits = subst⁻¹ (SFits w) flipped (record { sfits = h })

  pub flipped_read : to_z w (of_z w (negsuc 0 -ℤ to_z w k)) ≡ negsuc k
  flipped_read = to_z-of_z w (negsuc 0 -ℤ to_z w k) flipped_fits ∙ flipped

-- the two ways out of the code, at a width that holds the half
module _ (w : Width) (half n : ℕ) (small : half ≤ 2 ^ hbits w) (below : n < 2 * half) where
  pub upright : n < half → to_z w n ≡ signed_at half n
  upright l = let s : n < 2 ^ hbits w = omega arith in rw (lt-ltb n (2 ^ hbits w) s, lt-ltb n half l)

  pub negative : half ≤ n → to_z w (of_z w (negsuc 0 -ℤ to_z w (half - 1 - (n - half)))) ≡ signed_at half n
  negative l =
      let e : half - 1 - (n - half) ≡ 2 * half - suc n = omega arith in
      rw (le-ltb n half l) (flipped_read w (half - 1 - (n - half)) (omega arith) ∙ ap negsuc e)

  signed_fits : SFits w (signed_at half n)
  signed_fits = go (ltb n half) refl
    where
      go : (b : Bool) → ltb n half ≡ b → SFits w (cond b (pos n) (negsuc (2 * half - suc n)))
      go true e = record { sfits = omega (arith, ltb-true n half e) }
      go false e = record { sfits = omega (arith, ltb-false n half e) }

  -- what the machine reads back of it
  pub signed_read : to_z w (of_z w (signed_at half n)) ≡ signed_at half n
  signed_read = to_z-of_z w (signed_at half n) signed_fits
