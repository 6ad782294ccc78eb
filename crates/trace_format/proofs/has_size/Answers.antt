-- `trace::has_size` meets its contract: each arm is its row.
use mathlib.Core.Path.{sym, ap, ◌∙◌}
use Rattle.number.proofs.Tables.{misses}
use Rattle.list_records.specs.Encoding.{is_record}
use Rattle.trace_format.specs.Trace.{sizes, size_or, has_size}
use Rattle.trace_format.proofs.Records.{at_most}
use Rattle.trace_format.proofs.has_size.Goals as goal

pub returns-in-1 : goal.returns-in-1
unfolding has_size
returns-in-1 c = rw c.in-1.is (at_most 16 c.args.n)

pub returns-in-2 : goal.returns-in-2
unfolding has_size
returns-in-2 c = rw c.in-2.is

pub returns-in-3 : goal.returns-in-3
unfolding has_size
returns-in-3 c = rw c.in-3.is

pub returns-in-4 : goal.returns-in-4
unfolding has_size
returns-in-4 c = rw (c.in-4.is, c.and_more.ensures, c.packed_words.ensures)

pub returns-in-5 : goal.returns-in-5
unfolding has_size
returns-in-5 c = rw c.in-5.is

pub returns-in-6 : goal.returns-in-6
unfolding has_size
returns-in-6 c = rw (c.in-6.is, c.and_more-in-6.ensures, c.packed_words-in-6.ensures)

pub returns-in-7 : goal.returns-in-7
unfolding has_size
returns-in-7 c = rw c.in-7.is

pub returns-in-8 : goal.returns-in-8
unfolding has_size
returns-in-8 c = rw c.in-8.is

pub returns-in-24 : goal.returns-in-24
unfolding has_size
returns-in-24 c = rw c.in-24.is

pub returns-in-25 : goal.returns-in-25
unfolding has_size
returns-in-25 c = rw c.in-25.is

pub returns-in-32 : goal.returns-in-32
unfolding has_size
returns-in-32 c = rw c.in-32.is

pub returns-in-34 : goal.returns-in-34
unfolding has_size
returns-in-34 c = rw (c.in-34.is, c.and_more-in-34.ensures)

pub returns-in-35 : goal.returns-in-35
unfolding has_size
returns-in-35 c = rw (c.in-35.is, c.and_more-in-35.ensures, c.packed_words-in-35.ensures)

pub returns-in-36 : goal.returns-in-36
unfolding has_size
returns-in-36 c = rw (c.in-36.is, c.and_more-in-36.ensures, c.packed_words-in-36.ensures)

pub returns-in-96 : goal.returns-in-96
unfolding has_size
returns-in-96 c = rw (c.in-96.is, c.and_more-in-96.ensures)

pub returns-in-97 : goal.returns-in-97
unfolding has_size
returns-in-97 c = rw c.in-97.is

pub returns-in-98 : goal.returns-in-98
unfolding has_size
returns-in-98 c = rw c.in-98.is

pub returns-in-112 : goal.returns-in-112
unfolding has_size
returns-in-112 c = rw (c.in-112.is, c.min.ensures)

pub returns-in-113 : goal.returns-in-113
unfolding has_size
returns-in-113 c = rw c.in-113.is

pub returns-in-114 : goal.returns-in-114
unfolding has_size
returns-in-114 c = rw c.in-114.is

pub returns-in-115 : goal.returns-in-115
unfolding has_size
returns-in-115 c = rw c.in-115.is

pub returns-in-126 : goal.returns-in-126
unfolding has_size
returns-in-126 c = rw c.in-126.is

pub returns-in-127 : goal.returns-in-127
unfolding has_size
returns-in-127 c = rw c.in-127.is

pub returns-in_default : goal.returns-in_default
unfolding has_size
returns-in_default c =
    let a = c.args in
    c.is_record.ensures ∙ sym (ap (λ o. size_or o a.n (is_record a.code a.n)) (misses (sizes a.n a.h) _ c.in_default.in_default-own.rest))
