-- `list_words::signed_numbers`: the places before i are filled.
use Rattle.std.proofs.Common.{◌≡◌, take, length}
use Rattle.list_words.specs.Words.{signed_at, each_from}
use Rattle.list_words.proofs.signed_numbers.Given as goal

abbrev pub invariant-loop-i : goal.invariant-loop-i
invariant-loop-i g l = (length l.out ≡ g.row.N) × (take l.i l.out ≡ each_from (signed_at l.fn.w) 0 l.i)
