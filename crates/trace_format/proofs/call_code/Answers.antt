-- `trace::call_code` meets its contract.
use Rattle.number.proofs.Tables.{last_row}
use Rattle.trace_format.specs.Calls.{call_codes, call_code}
use Rattle.trace_format.proofs.call_code.Goals as goal

pub returns-in-25 : goal.returns-in-25
unfolding call_code
returns-in-25 c = rw c.in-25.is

pub returns-in_default : goal.returns-in_default
unfolding call_code
returns-in_default c = last_row call_codes c.args.code c.args.code c.in_default.in_default-own.rest
