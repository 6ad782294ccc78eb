-- `driver::any_live` meets its contract.
use Rattle.std.proofs.Common.{◌∙◌}
use Rattle.trace_driver.proofs.Living.{live_is}
use Rattle.trace_driver.proofs.any_live.Goals as goal

pub returns : goal.returns
returns c = c.is_some.ensures ∙ live_is _ _ c.next_live.ensures
