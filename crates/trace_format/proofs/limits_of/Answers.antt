-- `trace::limits_of` meets its contract: each arm is its row.
use Rattle.number.proofs.Tables.{last_row}
use mathlib.Core.List.{[], ◌∷◌}
use Rattle.trace_format.specs.Trace.{any, limits, limits_of}
use Rattle.trace_format.proofs.limits_of.Goals as goal

pub returns-in-5 : goal.returns-in-5
unfolding limits_of
returns-in-5 c = rw c.in-5.is

pub returns-in-6 : goal.returns-in-6
unfolding limits_of
returns-in-6 c = rw c.in-6.is

pub returns-in-7 : goal.returns-in-7
unfolding limits_of
returns-in-7 c = rw c.in-7.is

pub returns-in-34 : goal.returns-in-34
unfolding limits_of
returns-in-34 c = rw c.in-34.is

pub returns-in-35 : goal.returns-in-35
unfolding limits_of
returns-in-35 c = rw c.in-35.is

pub returns-in-36 : goal.returns-in-36
unfolding limits_of
returns-in-36 c = rw c.in-36.is

pub returns-in-52 : goal.returns-in-52
unfolding limits_of
returns-in-52 c = rw c.in-52.is

pub returns-in-65 : goal.returns-in-65
unfolding limits_of
returns-in-65 c = rw c.in-65.is

pub returns-in-96 : goal.returns-in-96
unfolding limits_of
returns-in-96 c = rw c.in-96.is

pub returns-in-97 : goal.returns-in-97
unfolding limits_of
returns-in-97 c = rw c.in-97.is

pub returns-in-98 : goal.returns-in-98
unfolding limits_of
returns-in-98 c = rw c.in-98.is

pub returns-in-112 : goal.returns-in-112
unfolding limits_of
returns-in-112 c = rw c.in-112.is

pub returns-in-113 : goal.returns-in-113
unfolding limits_of
returns-in-113 c = rw c.in-113.is

pub returns-in-114 : goal.returns-in-114
unfolding limits_of
returns-in-114 c = rw c.in-114.is

pub returns-in-115 : goal.returns-in-115
unfolding limits_of
returns-in-115 c = rw c.in-115.is

pub returns-in-126 : goal.returns-in-126
unfolding limits_of
returns-in-126 c = rw c.in-126.is

pub returns-in-127 : goal.returns-in-127
unfolding limits_of
returns-in-127 c = rw c.in-127.is

pub returns-in_default : goal.returns-in_default
unfolding limits_of
returns-in_default c = last_row limits _ (any ∷ any ∷ any ∷ any ∷ any ∷ []) c.in_default.in_default-own.rest
