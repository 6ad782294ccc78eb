-- `trace::call_words` meets its contract: each arm is its row.
use Rattle.number.proofs.Tables.{last_row}
use Rattle.trace_format.specs.Calls.{call_rows, call_words}
use Rattle.trace_format.proofs.call_words.Goals as goal

pub returns-in-24 : goal.returns-in-24
unfolding call_words
returns-in-24 c = rw c.in-24.is c.first_words.ensures

pub returns-in-25 : goal.returns-in-25
unfolding call_words
returns-in-25 c = rw c.in-25.is

pub returns-in-32 : goal.returns-in-32
unfolding call_words
returns-in-32 c = rw c.in-32.is c.first_words-in-32.ensures

pub returns-in-34 : goal.returns-in-34
unfolding call_words
returns-in-34 c = rw c.in-34.is c.words_from.ensures

pub returns-in-35 : goal.returns-in-35
unfolding call_words
returns-in-35 c = rw c.in-35.is c.first_words-in-35.ensures

pub returns-in-36 : goal.returns-in-36
unfolding call_words
returns-in-36 c = rw c.in-36.is c.first_words-in-36.ensures

pub returns-in_default : goal.returns-in_default
unfolding call_words
returns-in_default c =
    let a = c.args in
    last_row (call_rows a.w.now a.made.now) a.code a.w.now c.in_default.in_default-own.rest
