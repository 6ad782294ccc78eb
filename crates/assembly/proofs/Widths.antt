-- The widths of the types, and the bytes of a component. Assumes nothing.
use Prim.Native.Nat.{ℕ, suc, ◌+◌, ◌*◌, ◌<◌, ◌≤◌}
use mathlib.Core.Bool.{Bool, true, false, cond, ◌||◌}
use mathlib.Core.Path.{◌≡◌, refl, sym}
use mathlib.Core.Logic.{inl, inr}
use native.Mathlib.Nat.{mul-le-mul_left, mul-suc}
use native.Mathlib.Omega.{arith}
use borrow.Author.Tests.{eqb-true, ne_eqb}
use lib.Dec.{eqb}
use Rattle.fetch.specs.Decode.{component_bytes}
use Rattle.assembly.specs.ElementsCode.{OneTwoFour}

pub width_small : (ty : ℕ) → component_bytes ty ≤ 4
unfolding component_bytes
width_small ty = go (eqb ty 0x1400 || eqb ty 0x1401) (eqb ty 0x1402 || eqb ty 0x1403) (eqb ty 0x1406 || eqb ty 0x140C)
  where
    go : (a b c : Bool) → cond a 1 (cond b 2 (cond c 4 0)) ≤ 4
    go true b c = omega arith
    go false true c = omega arith
    go false false true = omega arith
    go false false false = omega arith

-- a known type's width
pub width_known : (ty : ℕ) → 0 < component_bytes ty → OneTwoFour (component_bytes ty)
unfolding component_bytes
width_known ty = go (eqb ty 0x1400 || eqb ty 0x1401) (eqb ty 0x1402 || eqb ty 0x1403) (eqb ty 0x1406 || eqb ty 0x140C)
  where
    go : (a b c : Bool) → 0 < cond a 1 (cond b 2 (cond c 4 0)) → OneTwoFour (cond a 1 (cond b 2 (cond c 4 0)))
    go true b c h = inl refl
    go false true c h = inr (inl refl)
    go false false true h = inr (inr refl)
    go false false false h = absurd (omega arith)

pub width_four : (w : ℕ) → OneTwoFour w → (w ≡ 1 → ⊥) → (w ≡ 2 → ⊥) → w ≡ 4
width_four w (inl e) a b = absurd (a e)
width_four w (inr (inl e)) a b = absurd (b e)
width_four w (inr (inr e)) a b = e

-- component i lies in the element
pub component_in : (w i size : ℕ) → i < size → w * i + w ≤ w * size
component_in w i size h = let e : w * i + w ≡ w * suc i = sym (mul-suc w i) in rw e (mul-le-mul_left w h)

-- a known type that is none of the other five
pub last_type : (ty : ℕ) → 0 < component_bytes ty → (ty ≡ 0x1406 → ⊥) → (ty ≡ 0x1402 → ⊥)
    → (ty ≡ 0x1401 → ⊥) → (ty ≡ 0x140C → ⊥) → (ty ≡ 0x1400 → ⊥) → ty ≡ 0x1403
unfolding component_bytes
last_type ty k a b c d e = go (eqb ty 0x1403) refl (simp (ne_eqb ty 0x1400 e, ne_eqb ty 0x1401 c, ne_eqb ty 0x1402 b, ne_eqb ty 0x1406 a, ne_eqb ty 0x140C d) at k)
  where
    go : (x : Bool) → eqb ty 0x1403 ≡ x → 0 < cond x 2 0 → ty ≡ 0x1403
    go true f h = eqb-true ty 0x1403 f
    go false f h = absurd (omega arith)
