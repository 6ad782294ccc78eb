-- `dump::has_section` meets its contract: the shift is the quotient by 2 ^ k.
use mathlib.Core.Path.{refl}
use native.Mathlib.Omega.{arith}
use Rattle.trace_dump.proofs.Sections.{no_bit}
use Rattle.trace_dump.proofs.has_section.Goals as goal

pub returns-then-k-gt31 : goal.returns-then-k-gt31
returns-then-k-gt31 c = no_bit c.args.sections c.args.k (omega arith) (omega (arith, c.if-k-gt31.true))

pub returns : goal.returns
returns c = refl
