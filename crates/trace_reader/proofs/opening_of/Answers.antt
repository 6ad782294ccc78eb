-- `reader::opening_of` meets its contract.
use mathlib.Core.Path.{◌≡◌}
use lib.ListN.{length}
use Rattle.trace_reader.proofs.Reading.{two_words}
use borrow.Author.Rules.{rules}
use Rattle.trace_reader.proofs.opening_of.Goals as goal

pub returns : goal.returns
returns c =
    let t1 = c.args.bytes in
    let size : length t1 ≡ 8 = search rules in
    rw (two_words t1 size c.read_words.ensures)
