use Rattle.replay.specs.Replayed.{held, Replayed}
use Rattle.replay.proofs.run.Given as goal

abbrev pub invariant-loop-number : goal.invariant-loop-number
invariant-loop-number l = Replayed l.initial.store l.initial.guest l.initial.out (held l.c l.v l.stacks l.store l.guest l.out)
