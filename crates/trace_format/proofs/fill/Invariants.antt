use Rattle.std.proofs.Common.{◌≡◌}
use Rattle.trace_format.specs.Fill.{fill_byte}
use Rattle.trace_format.proofs.Filling.{filled_to}
use Rattle.trace_format.proofs.fill.Given as goal

abbrev pub invariant-loop-i : goal.invariant-loop-i
invariant-loop-i l = l.x-items ≡ filled_to (fill_byte l.seed) l.i l.initial.x-items
