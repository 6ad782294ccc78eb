use Rattle.trace_format.proofs.Filling.{MarkedTo}
use Rattle.trace_format.proofs.first_touched.Given as goal

abbrev pub invariant-loop-i : goal.invariant-loop-i
invariant-loop-i l = MarkedTo l.out l.start l.i
