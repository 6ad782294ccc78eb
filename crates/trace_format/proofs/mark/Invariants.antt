use Rattle.std.proofs.Common.{◌≡◌}
use Rattle.std.specs.Float.{binary32}
use Rattle.std.specs.Float.Ieee.{of_bits}
use Rattle.trace_format.specs.Fill.{mark_bits}
use Rattle.trace_format.proofs.Filling.{filled_to}
use Rattle.trace_format.proofs.mark.Given as goal

abbrev pub invariant-loop-i : goal.invariant-loop-i
invariant-loop-i l = l.out ≡ filled_to (λ k. of_bits binary32 (mark_bits k)) l.i l.initial.out
