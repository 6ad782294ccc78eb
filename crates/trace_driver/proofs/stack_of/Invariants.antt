use Rattle.std.proofs.Common.{◌≡◌}
use Rattle.trace_format.proofs.Filling.{filled_to}
use Rattle.trace_driver.specs.Stacks.{saved_at}
use Rattle.trace_driver.proofs.stack_of.Given as goal

abbrev pub invariant-loop-k : goal.invariant-loop-k
invariant-loop-k l = l.m-items ≡ filled_to (saved_at l.w) l.k l.initial.m-items
