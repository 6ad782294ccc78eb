-- `number::fixed_to_f32` meets its contract: `std` gives the nearest f32, of the number that the machine reads back from v's bits, which is v.
use Rattle.std.proofs.Common.{◌≡◌, pos, refl, w32}
use lib.Ieee.{binary32, of_bits, of_int}
use mir.ValLaws.{to_z-of_z}
use Rattle.number.proofs.fixed_to_f32.Goals as goal

divisor : of_bits binary32 0x4780_0000 ≡ of_int binary32 (pos 65536)
unfolding of_bits of_int
divisor = refl

pub returns : goal.returns
returns c = rw (c.nearest_i32_to_f32.ensures, to_z-of_z w32 c.args.v c.ranges.v, divisor)
