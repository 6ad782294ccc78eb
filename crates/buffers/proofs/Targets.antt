-- The target that a number names.
use Prim.Native.Nat.{ℕ}
use mathlib.Core.Bool.{Bool, true, false, cond}
use mathlib.Core.List.{List}
use mathlib.Core.Option.{some, none}
use mathlib.Core.Path.{◌≡◌, refl}
use lib.Dec.{eqb}
use Rattle.std.specs.Prelude.{Result, Ok, Err}
use Rattle.refusal.specs.EnumerantsCode.{found, Decodes}
use Rattle.refusal.specs.declared.UnknownEnum.{UnknownEnum}
use Rattle.buffers.specs.Objects.{Objects, objects, is_target, bound_at}
use Rattle.buffers.specs.ObjectsCode.{targets, bound_to}
use Rattle.buffers.specs.declared.Target.{Target}
use Rattle.buffers.specs.declared.Buffers.{Buffers}

-- what the two tests on a number say, where it names a target or none
abbrev Tests : Bool → Bool → Result Target UnknownEnum → Type 0
Tests x y (Ok Target.Array) = x ≡ true
Tests x y (Ok Target.Element) = (x ≡ false) × (y ≡ true)
Tests x y (Err e) = (x ≡ false) × (y ≡ false)

pub tests_of : (t : ℕ) (r : Result Target UnknownEnum) → Decodes targets t r → Tests (eqb t 0x8892) (eqb t 0x8893) r
tests_of t r d = go (eqb t 0x8892) (eqb t 0x8893) r d
  where
    go : (x y : Bool) (r : Result Target UnknownEnum) → found r ≡ cond x (some Target.Array) (cond y (some Target.Element) none) → Tests x y r
    go true y (Ok Target.Array) e = refl
    go true y (Ok Target.Element) e = cc
    go true y (Err u) e = cc
    go false true (Ok Target.Array) e = cc
    go false true (Ok Target.Element) e = (refl, refl)
    go false true (Err u) e = cc
    go false false (Ok u) e = cc
    go false false (Err u) e = (refl, refl)

pub target_is : (t : ℕ) (u : Target) → Decodes targets t (Ok u) → (is_target t ≡ true) × ((b : Buffers) (s : List ℕ) → bound_at (objects b s) t ≡ bound_to b u)
target_is t Target.Array d = let h = tests_of t (Ok Target.Array) d in (simp h, λ b s. simp h)
target_is t Target.Element d = let h = tests_of t (Ok Target.Element) d in (simp (h.0, h.1), λ b s. simp (h.0, h.1))

pub no_target : (t : ℕ) (e : UnknownEnum) → Decodes targets t (Err e) → (is_target t ≡ false) × ((o : Objects) → bound_at o t ≡ 0)
no_target t e d = let h = tests_of t (Err e) d in (simp (h.0, h.1), λ o. simp (h.0, h.1))
