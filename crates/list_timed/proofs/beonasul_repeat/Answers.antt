-- `list_timed::beonasul_repeat` meets its contract.
use Rattle.list_timed.proofs.Repeating.{again_refused, again_ran}
use Rattle.list_timed.proofs.beonasul_repeat.Goals as goal

pub returns-in-Err : goal.returns-in-Err
returns-in-Err c = again_refused _ _ c.in-Err.ensures

pub returns-in-Ok : goal.returns-in-Ok
returns-in-Ok c = again_ran _ _ c.in-Ok.ensures c.run.auto.out c.repeat.ensures
