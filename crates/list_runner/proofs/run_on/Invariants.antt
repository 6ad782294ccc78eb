use mathlib.Core.Path.{◌≡◌}
use Prim.Native.Nat.{◌≤◌, ◌-◌}
use lib.ListN.{length}
use Rattle.list_runner.proofs.Running.{Progress}
use Rattle.list_runner.proofs.run_on.Given as goal

abbrev pub invariant-loop-size : goal.invariant-loop-size
invariant-loop-size l = record {
  progress : Progress l.initial.c l.initial.store l.words l.bytes l.initial.out l.read l.made l.number l.value l.c l.store l.out;
  inside : l.read ≤ length l.words;
  store : length l.store ≡ length l.initial.store;
  out : length l.out ≡ length l.initial.out;
}

abbrev pub decreases-loop-size : goal.decreases-loop-size
decreases-loop-size l = length l.words - l.read
