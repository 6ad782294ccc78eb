-- `trace::mark_at` meets its contract.
use mathlib.Core.Path.{ap, ◌∙◌}
use lib.Ieee.{binary32, of_bits}
use Rattle.trace_format.proofs.mark_at.Goals as goal

pub returns : goal.returns
returns c = c.f32_of_bits.ensures ∙ ap (of_bits binary32) c.mark_bits.ensures
