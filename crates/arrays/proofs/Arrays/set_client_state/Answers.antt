-- `arrays::Arrays::set_client_state` meets its contract: each arm is the case of the table's answer.
use mathlib.Core.Option.{bind}
use borrow.Author.Rules.{rules}
use Rattle.arrays.specs.Arrays.{accepted_arrays, array_step}
use Rattle.arrays.proofs.Arrays.set_client_state.Goals as goal

pub returns-in_err-try_from : goal.returns-in_err-try_from
unfolding array_step accepted_arrays bind
returns-in_err-try_from c = λ binding. rw (← c.in_err-try_from.ensures) (search rules)

pub returns : goal.returns
unfolding array_step accepted_arrays bind
returns c = λ binding. rw (c.set_enabled.ensures, ← c.in_ok-try_from.ensures)
