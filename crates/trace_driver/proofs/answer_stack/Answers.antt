-- `trace_driver::answer_stack` meets its contract: each arm is its row.
use Rattle.number.proofs.Tables.{last_row}
use Rattle.trace_driver.specs.Stacks.{record_rows, stack_record}
use Rattle.trace_driver.proofs.answer_stack.Goals as goal

pub returns-in-112 : goal.returns-in-112
unfolding stack_record
returns-in-112 c = rw (c.in-112.is, c.stack_of.ensures)

pub returns-in-113 : goal.returns-in-113
unfolding stack_record
returns-in-113 c = rw c.in-113.is c.pushed.ensures

pub returns-in-114 : goal.returns-in-114
unfolding stack_record
returns-in-114 c = rw c.in-114.is c.popped.ensures

pub returns-in_default : goal.returns-in_default
unfolding stack_record
returns-in_default c = last_row (record_rows c.args.«record».words.now c.args.s) _ _ c.in_default.in_default-own.rest
