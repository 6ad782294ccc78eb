-- `number::bits_of_f32` meets its contract: a NaN has one pattern.
use Rattle.std.proofs.Common.{sym, ap, ◌∙◌}
use lib.Ieee.{binary32, to_bits}
use Rattle.number.proofs.Floats.{only_nan}
use Rattle.number.proofs.bits_of_f32.Goals as goal

pub returns-then-is_nan : goal.returns-then-is_nan
unfolding to_bits
returns-then-is_nan c = sym (ap (to_bits binary32) (only_nan c.args.x (sym c.is_nan.ensures.value ∙ c.if-is_nan.true)))
