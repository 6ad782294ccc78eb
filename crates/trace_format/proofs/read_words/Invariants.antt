use Rattle.std.proofs.Common.{◌≡◌}
use Rattle.trace_format.specs.Fill.{word_of}
use Rattle.trace_format.proofs.Filling.{filled_to}
use Rattle.trace_format.proofs.read_words.Given as goal

abbrev pub invariant-loop-i : goal.invariant-loop-i
invariant-loop-i l = l.x-items ≡ filled_to (word_of l.bytes) l.i l.initial.x-items
