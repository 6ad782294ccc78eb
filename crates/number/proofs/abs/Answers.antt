-- `number::abs` meets its contract: the bit pattern without its sign bit.
use Rattle.std.proofs.Common.{ℕ, ◌%◌, ◌^◌, T, sym, ap, ◌∙◌, subst}
use lib.Ieee.{binary32, of_bits, to_bits}
use lib.Ieee.Bits.{of_bits-to_bits}
use Rattle.number.specs.Numbers.{magnitude}
use Rattle.number.proofs.Floats.{sign_bit_cleared}
use Rattle.number.proofs.abs.Goals as goal

pub returns : goal.returns
returns c =
    let x = c.args.x in
    c.f32_of_bits.ensures
    ∙ ap (λ (n : ℕ). of_bits binary32 (n % 2 ^ 31)) c.bits_of_f32.ensures
    ∙ sym (sign_bit_cleared (to_bits binary32 x))
    ∙ ap magnitude (of_bits-to_bits binary32 x (subst T (sym c.well_formed.0.1) tt))
