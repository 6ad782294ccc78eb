use Rattle.std.proofs.Common.{◌≡◌, take}
use Rattle.trace_format.specs.Fill.{hash}
use Rattle.trace_format.proofs.hash_of.Given as goal

abbrev pub invariant-loop-b : goal.invariant-loop-b
invariant-loop-b l = l.h ≡ hash (take l.b-index l.bytes)
