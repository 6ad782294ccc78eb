use Prim.Native.Nat.{ℕ, ◌<◌}
use Rattle.buffers.specs.ObjectsCode.{SlotSound}
use Rattle.buffers.proofs.Buffers.is_sound.Given as goal

abbrev pub invariant-loop-k : goal.invariant-loop-k
invariant-loop-k l = (j : ℕ) → j < l.k → SlotSound l.self j
