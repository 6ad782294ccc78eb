use Rattle.std.proofs.Common.{◌≡◌, ◌≤◌, length, drop}
use mathlib.Core.List.{foldl}
use Rattle.trace_text.specs.Text.{page, put_number, put_each}
use Rattle.trace_text.proofs.put_numbers.Given as goal

abbrev pub invariant-loop-n : goal.invariant-loop-n
invariant-loop-n l =
    (l.place ≤ length l.area) × (foldl put_number (page l.area l.place) (drop l.n-index l.numbers) ≡ put_each put_number (page l.initial.area l.at) l.numbers)
