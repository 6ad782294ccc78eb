-- `driver::call` meets its contract.
use Rattle.std.proofs.Common.{sym}
use Rattle.trace_driver.proofs.call.Goals as goal

pub returns : goal.returns
returns c = rw (sym c.call_code.ensures, sym c.made_words-made.ensures, sym c.call_words.ensures) c.make_call.ensures
