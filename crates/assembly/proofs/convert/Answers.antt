-- `assembly::convert` meets its contract: each arm is the case of its type.
use Prim.Native.Nat.{ℕ, ◌^◌, ◌<◌}
use mathlib.Core.Bool.{Bool, true, false, cond, ◌||◌}
use mathlib.Core.Path.{◌≡◌, ◌∙◌}
use native.Mathlib.Omega.{arith}
use lib.Dec.{eqb}
use Rattle.std.proofs.lemmas.Bool.Decides.{nat_tests}
use mir.Syntax.{w8, w16, w32}
use borrow.Author.Tests.{ne_eqb}
use Rattle.number.proofs.TwosComplement.{signed_read}
use Rattle.number.specs.Numbers.{signed_of}
use Rattle.fetch.specs.Decode.{component_bytes, component_of}
use Rattle.assembly.proofs.convert.Goals as goal

-- a number of a type of one or two bytes fits 16 bits
narrow : (ty n : ℕ) → (ty ≡ 0x1406 → ⊥) → (ty ≡ 0x140C → ⊥) → n < 256 ^ component_bytes ty → n < 65536
unfolding component_bytes
narrow ty n a b h = go (eqb ty 0x1400 || eqb ty 0x1401) (eqb ty 0x1402 || eqb ty 0x1403) (simp (ne_eqb ty 0x1406 a, ne_eqb ty 0x140C b) at h)
  where
    go : (x y : Bool) → n < 256 ^ cond x 1 (cond y 2 0) → n < 65536
    go true y h = omega arith
    go false true h = omega arith
    go false false h = omega arith

-- a byte and a short are as wide as their types
byte : (ty n : ℕ) → n < 256 ^ component_bytes ty → ty ≡ 0x1400 → n < 256
unfolding component_bytes
byte ty n h e = rw e at h

short : (ty n : ℕ) → n < 256 ^ component_bytes ty → ty ≡ 0x1402 → n < 65536
unfolding component_bytes
short ty n h e = rw e at h

pub overflow_cast-n : goal.overflow_cast-n
overflow_cast-n c = record { fits = byte _ _ c.requires c.in-5120.is }

pub overflow_cast-n-in-5122 : goal.overflow_cast-n-in-5122
overflow_cast-n-in-5122 c = record { fits = narrow _ _ (λ e. omega arith) (λ e. omega arith) c.requires }

pub overflow_cast-n-in-5121 : goal.overflow_cast-n-in-5121
overflow_cast-n-in-5121 c = record { fits = narrow _ _ (λ e. omega arith) (λ e. omega arith) c.requires }

pub overflow_cast-n-in_default : goal.overflow_cast-n-in_default
overflow_cast-n-in_default c = record { fits = narrow _ _ (λ e. grind arith) (λ e. grind arith) c.requires }

pub returns-in-5126 : goal.returns-in-5126
unfolding component_of
returns-in-5126 c = rw c.in-5126.is c.f32_of_bits.ensures

pub returns-in-5132 : goal.returns-in-5132
unfolding component_of
returns-in-5132 c =
    rw c.in-5132.is
    (rw (c.signed32.ensures, signed_read w32 0x8000_0000 c.args.n (omega arith) (omega arith)) at c.fixed_to_f32.ensures)

pub returns-in-5120 : goal.returns-in-5120
unfolding component_of
returns-in-5120 c =
    let small = byte _ _ c.requires c.in-5120.is in
    let read : c.from.result ≡ signed_of 8 c.args.n = c.from.ensures ∙ rw c.cast_signed.ensures (signed_read w8 0x80 c.args.n (omega arith) small) in
    rw c.in-5120.is (rw (read, signed_read w16 0x80 c.args.n (omega arith) small) at c.signed_component.ensures)

pub returns-in-5122 : goal.returns-in-5122
unfolding component_of
returns-in-5122 c =
    rw c.in-5122.is
    (rw (c.cast_signed-in-5122.ensures, signed_read w16 0x8000 c.args.n (omega arith) (short _ _ c.requires c.in-5122.is)) at c.signed_component-in-5122.ensures)

pub returns-in-5121 : goal.returns-in-5121
unfolding component_of
returns-in-5121 c = rw c.in-5121.is c.unsigned_component.ensures

pub returns-in_default : goal.returns-in_default
unfolding component_of
returns-in_default c = let h = c.unsigned_component-in_default.ensures in grind (arith, nat_tests, h)
