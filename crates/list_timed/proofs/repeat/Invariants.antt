use Rattle.std.proofs.Common.{List, ◌≡◌, length}
use Rattle.context.specs.Calls.{Call}
use Rattle.history.specs.Demand3.{History}
use Rattle.list_timed.specs.Repeat.{Repeats}
use Rattle.list_timed.proofs.repeat.Given as goal

abbrev pub invariant-loop : goal.invariant-loop
invariant-loop l = record {
  made : (before : List Call) → History before l.initial.c l.initial.store → Repeats before l.counter l.words l.bytes l.initial.out l.c l.store l.out;
  out : length l.out ≡ length l.initial.out;
}
