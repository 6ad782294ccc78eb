-- `Borrowed::after` meets its contract: each arm is its row.
use Rattle.std.proofs.Common.{sym}
use Rattle.list_words.specs.Words.{word_at}
use Rattle.number.proofs.Tables.{last_row}
use Rattle.trace_driver.specs.Settings.{borrowed_rows, borrowed_after}
use Rattle.trace_driver.proofs.Borrowed.after.Goals as goal

pub returns-in-5 : goal.returns-in-5
unfolding borrowed_after
returns-in-5 c = rw (c.in-5.is, sym c.word-a.ensures)

pub returns-in-6 : goal.returns-in-6
unfolding borrowed_after
returns-in-6 c = rw (c.in-6.is, sym c.word-a.ensures, sym c.word-b.ensures)

pub returns-in-7 : goal.returns-in-7
unfolding borrowed_after
returns-in-7 c = rw (c.in-7.is, sym c.word-a.ensures, sym c.word-b.ensures)

pub returns-in-8 : goal.returns-in-8
unfolding borrowed_after
returns-in-8 c = rw (c.in-8.is, sym c.word-a.ensures)

pub returns-in_default : goal.returns-in_default
unfolding borrowed_after
returns-in_default c =
    let w = c.args.«record».words.now in
    last_row (borrowed_rows (word_at w 0) (word_at w 1) c.args.self) _ _ c.in_default.in_default-own.rest
