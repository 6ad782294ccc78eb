-- Numbers that are converted one by one: what the machine passes on is what it reads back from a number's bits, and that is the number. Assumes nothing.
use mathlib.Core.Path.{◌≡◌, refl}
use mathlib.Core.List.{List, [], ◌∷◌, map}
use Prim.Native.Nat.{ℕ, zero, suc, ◌<◌, ◌≤◌}
use native.Mathlib.Omega.{arith}
use lib.IntN.{ℤ, pos}
use lib.Ieee.{Float, nan}
use lib.ListN.{length, get_or, drop, drop_of_length-le}
use lib.Seq.{drop-cons}
use mir.Syntax.{w32}
use mir.Val.{Val, SFits, to_z, of_z}
use mir.ValLaws.{to_z-of_z}
use denote.Array.{each}
use denote.Shadow.{shadow}
use denote.Signed.{SInt}
use Rattle.number.specs.Numbers.{fixed}

pub converted : (v : ℤ) {x : Float} → SFits w32 v → x ≡ fixed (to_z w32 (of_z w32 v)) → x ≡ fixed v
converted v h e = rw (to_z-of_z w32 v h) at e

-- the entries of an array fit their type
pub entry_fits : (l : List ℤ) (us : List Val) (k : ℕ) → k < length l → shadow (each ℤ (SInt w32).own_val l us) → SFits w32 (get_or l k (pos 0))
entry_fits [] us k h p = absurd (omega arith)
entry_fits (x ∷ l) [] k h p = absurd p
entry_fits (x ∷ l) (u ∷ us) zero h p = record { sfits = p.0.1 }
entry_fits (x ∷ l) (u ∷ us) (suc k) h p = entry_fits l us k (omega arith) p.1

-- numbers that are each converted
pub mapped : (xs : List ℤ) (ys : List Float) → length ys ≡ length xs → ((i : ℕ) → i < length xs → get_or ys i nan ≡ fixed (get_or xs i (pos 0))) → ys ≡ map fixed xs
mapped [] [] h k = refl
mapped [] (y ∷ ys) h k = absurd (omega arith)
mapped (x ∷ xs) [] h k = absurd (omega arith)
mapped (x ∷ xs) (y ∷ ys) h k = λ i. k 0 (omega arith) i ∷ mapped xs ys (omega arith) (λ j l. k (suc j) (omega arith)) i
