use Rattle.buffers.specs.Live.{FindsNext}
use Rattle.buffers.proofs.Buffers.next_live.Given as goal

abbrev pub invariant-loop-k : goal.invariant-loop-k
invariant-loop-k l = FindsNext l.self.slots l.above l.k l.best
