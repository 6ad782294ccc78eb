use Rattle.std.proofs.Common.{◌≡◌, ◌≤◌, length, drop}
use mathlib.Core.List.{foldl}
use Rattle.trace_text.specs.Text.{page, put_float, put_each}
use Rattle.trace_text.proofs.put_floats.Given as goal

abbrev pub invariant-loop-x : goal.invariant-loop-x
invariant-loop-x l =
    (l.place ≤ length l.area) × (foldl put_float (page l.area l.place) (drop l.x-index l.words) ≡ put_each put_float (page l.initial.area l.at) l.words)
