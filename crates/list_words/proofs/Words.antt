-- Words and parts of the lists. Assumes nothing.
use mathlib.Core.Bool.{Bool, true, false}
use mathlib.Core.List.{List}
use mathlib.Core.Path.{◌≡◌, refl, sym, ◌∙◌}
use Prim.Native.Nat.{ℕ, min}
use native.Mathlib.Omega.{arith}
use borrow.Author.Tests.{leb-true, leb-false}
use lib.Dec.{leb}
use lib.ListN.{length, take, drop, drop_of_length-le}
use lib.Seq.{take_all, take-length, drop-length, length-take-le}

module _ {A : Type 0} (l : List A) where
  pub from_start : (n start : ℕ) → start ≡ min n (length l) → drop start l ≡ drop n l
  from_start n start e = go (leb n (length l)) refl
    where
      go : (b : Bool) → leb n (length l) ≡ b → drop start l ≡ drop n l
      go true f = let q : start ≡ n = omega (arith, leb-true n (length l) f) in rw q
      go false f =
          let q : start ≡ length l = omega (arith, leb-false n (length l) f) in
          rw (q, drop-length) (sym (drop_of_length-le l {i = n} (omega (arith, leb-false n (length l) f))))

  pub to_end : (n k : ℕ) → k ≡ min n (length l) → take k l ≡ take n l
  to_end n k e = go (leb n (length l)) refl
    where
      go : (b : Bool) → leb n (length l) ≡ b → take k l ≡ take n l
      go true f = let q : k ≡ n = omega (arith, leb-true n (length l) f) in rw q
      go false f = let q : k ≡ length l = omega (arith, leb-false n (length l) f) in rw q (take-length l ∙ sym (take_all n l (omega (arith, leb-false n (length l) f))))

-- a number held within a list
pub held_count : {A : Type 0} (l : List A) (n k : ℕ) → k ≡ min n (length l) → k ≡ length (take k l)
held_count l n k e = sym (length-take-le k l (omega arith))
