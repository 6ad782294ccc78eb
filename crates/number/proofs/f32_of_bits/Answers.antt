-- `number::f32_of_bits` meets its contract: the test tells the NaN patterns from the rest.
use Rattle.std.proofs.Common.{sym, ◌∙◌, rules, le-ltb, lt-ltb}
use lib.Ieee.{binary32, of_bits, div}
use lib.Ieee.Bits.{nan_bits_is, nan_bits_above}
use Rattle.number.proofs.Floats.{only_nan}
use Rattle.number.proofs.f32_of_bits.Goals as goal

pub float_from_bits-result : goal.float_from_bits-result
float_from_bits-result c = rw (nan_bits_above binary32 c.args.n, le-ltb _ _ c.if-n-gt2139095040.false) tt

pub returns-then-n-gt2139095040 : goal.returns-then-n-gt2139095040
unfolding of_bits div
returns-then-n-gt2139095040 c =
    let n = c.args.n in
    sym (only_nan (of_bits binary32 n) (sym (nan_bits_is binary32 n) ∙ nan_bits_above binary32 n ∙ lt-ltb _ _ c.if-n-gt2139095040.true))

pub returns-else-n-gt2139095040 : goal.returns-else-n-gt2139095040
returns-else-n-gt2139095040 c = search rules
