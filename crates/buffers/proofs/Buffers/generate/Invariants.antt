use Prim.Native.Nat.{◌-◌}
use Rattle.buffers.proofs.Generation.{Left}
use Rattle.buffers.proofs.Buffers.generate.Given as goal

abbrev pub invariant-loop : goal.invariant-loop
invariant-loop l = Left l.initial.self l.n l.self (l.n - l.counter)
