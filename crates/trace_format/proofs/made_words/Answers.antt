-- `trace::made_words` meets its contract: each arm is its row.
use Rattle.number.proofs.Tables.{last_row}
use Rattle.trace_format.specs.Calls.{identity_words, made_rows, made_words}
use Rattle.trace_format.proofs.made_words.Goals as goal

pub returns-in-32 : goal.returns-in-32
unfolding made_words
returns-in-32 c = rw (c.in-32.is, c.word_at-a.ensures)

pub returns-in-35 : goal.returns-in-35
unfolding made_words
returns-in-35 c =
    let word_at = c.word_at-a.ensures in
    let word-at2 = c.word_at-b.ensures in
    rw (c.in-35.is, word_at, word-at2, c.word_at-c.ensures, c.word_at-d.ensures)

pub returns-in-36 : goal.returns-in-36
unfolding made_words
returns-in-36 c = rw (c.in-36.is, c.word_at-a.ensures, c.word_at-b.ensures, c.word_at-c.ensures)

pub returns-in_default : goal.returns-in_default
unfolding made_words
returns-in_default c =
    let a = c.args in
    last_row (made_rows a.w.now) a.code identity_words c.in_default.in_default-own.rest
