-- The lists of indices, element by element. Assumes nothing.
use mathlib.Core.List.{List, [], ◌∷◌}
use mathlib.Core.Path.{◌≡◌, refl, sym, ap, ◌∙◌}
use Rattle.std.proofs.Common.{drop-cons}
use Prim.Native.Nat.{ℕ, zero, suc, ◌+◌, ◌*◌, ◌/◌, ◌<◌, ◌≤◌}
use native.Mathlib.Omega.{arith}
use mathlib.Core.Bool.{Bool, true, false, cond}
use lib.Dec.{ltb}
use borrow.Author.Tests.{ltb-true, ltb-false}
use lib.ListN.{length, get_or, take, drop, get_or-eq_default}
use lib.Seq.{drop-drop}
use Rattle.number.specs.Numbers.{little_endian}
use Rattle.vertex.specs.Index.{up_from, numbers}

pub length_up_from : (first n : ℕ) → length (up_from first n) ≡ n
unfolding up_from
length_up_from first zero = refl
length_up_from first (suc n) = ap suc (length_up_from (suc first) n)

pub up_from_in : (first n i : ℕ) → i < n → get_or (up_from first n) i 0 ≡ first + i
unfolding up_from
up_from_in first zero i h = absurd (omega arith)
up_from_in first (suc n) zero h = omega arith
up_from_in first (suc n) (suc i) h = up_from_in (suc first) n i (omega arith) ∙ omega arith

pub up_from_out : (first n i : ℕ) → n ≤ i → get_or (up_from first n) i 0 ≡ 0
up_from_out first n i h = get_or-eq_default (up_from first n) 0 {n = i} (omega (arith, length_up_from first n, h))

pub length_numbers : (w n : ℕ) (bs : List ℕ) → length (numbers w n bs) ≡ n
unfolding numbers
length_numbers w zero bs = refl
length_numbers w (suc n) bs = ap suc (length_numbers w n (drop w bs))

pub numbers_in : (w n : ℕ) (bs : List ℕ) (i at : ℕ) → at ≡ w * i → i < n → get_or (numbers w n bs) i 0 ≡ little_endian (take w (drop at bs))
unfolding numbers
numbers_in w zero bs i at e h = absurd (omega arith)
numbers_in w (suc n) bs zero at e h = let z : 0 ≡ at = omega arith in ap (λ (k : ℕ). little_endian (take w (drop k bs))) z
numbers_in w (suc n) bs (suc i) at e h =
    let next : w + w * i ≡ at = omega arith in
    numbers_in w n (drop w bs) i (w * i) refl (omega arith) ∙ ap (λ (l : List ℕ). little_endian (take w l)) (drop-drop (w * i) w bs ∙ ap (λ (k : ℕ). drop k bs) next)

pub numbers_out : (w n : ℕ) (bs : List ℕ) (i : ℕ) → n ≤ i → get_or (numbers w n bs) i 0 ≡ 0
numbers_out w n bs i h = get_or-eq_default (numbers w n bs) 0 {n = i} (omega (arith, length_numbers w n bs, h))

-- bytes, as numbers of one byte each, are themselves
pub numbers_one : (bs : List ℕ) → numbers 1 (length bs) bs ≡ bs
unfolding numbers
numbers_one [] = refl
numbers_one (b ∷ bs) = let e : b + 256 * 0 ≡ b = omega arith in λ i. e i ∷ numbers_one bs i

-- a number of two bytes, from each
pub two_bytes : (bs : List ℕ) (at : ℕ) → at + 2 ≤ length bs → get_or bs at 0 + 256 * (get_or bs (at + 1) 0 + 0) ≡ little_endian (take 2 (drop at bs))
two_bytes bs at h =
    ap (λ (k : ℕ). get_or bs at 0 + 256 * (get_or bs k 0 + 0)) (omega arith)
    ∙ ap (λ (l : List ℕ). little_endian (take 2 (get_or bs at 0 ∷ l))) (sym (drop-cons bs (suc at) 0 (omega arith)))
    ∙ ap (λ (l : List ℕ). little_endian (take 2 l)) (sym (drop-cons bs at 0 (omega arith)))

-- ---- element by element, also past the end

pub up_from_at : (first n i : ℕ) → get_or (up_from first n) i 0 ≡ cond (ltb i n) (first + i) 0
up_from_at first n i = go (ltb i n) refl
  where
    go : (b : Bool) → ltb i n ≡ b → get_or (up_from first n) i 0 ≡ cond b (first + i) 0
    go true e = up_from_in first n i (ltb-true i n e)
    go false e = up_from_out first n i (ltb-false i n e)

pub shorts_at : (bs : List ℕ) (i : ℕ) → let n = length bs / 2 in
    get_or (numbers 2 n bs) i 0 ≡ cond (ltb i n) (get_or bs (2 * i) 0 + 256 * (get_or bs (2 * i + 1) 0 + 0)) 0
shorts_at bs i = go (ltb i (length bs / 2)) refl
  where
    go : (b : Bool) → ltb i (length bs / 2) ≡ b
        → get_or (numbers 2 (length bs / 2) bs) i 0 ≡ cond b (get_or bs (2 * i) 0 + 256 * (get_or bs (2 * i + 1) 0 + 0)) 0
    go true e =
        let h : i < length bs / 2 = ltb-true i (length bs / 2) e in
        numbers_in 2 (length bs / 2) bs i (2 * i) refl h ∙ sym (two_bytes bs (2 * i) (omega (arith, h)))
    go false e = numbers_out 2 (length bs / 2) bs i (ltb-false i (length bs / 2) e)
