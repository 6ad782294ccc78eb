-- `run` meets its contract: what is held is what the records so far leave.
use Rattle.replay.proofs.Replaying.{starts, follows}
use Rattle.replay.proofs.run.Goals as goal

pub loop-number-init : goal.loop-number-init
loop-number-init c = starts _ _ _ c.new-c.ensures c.new-v.ensures c.new-stacks.ensures

pub loop-number-preserved : goal.loop-number-preserved
loop-number-preserved c =
    let r = c.record_of-record in
    follows _ _ _ _ _ _ c.loop-number.invariant c.in-Some.ensures r.ensures.code r.ensures.words r.ensures.bytes c.perform-c.ensures c.after-v.ensures c.use_stacks.ensures

pub returns-after-loop-number : goal.returns-after-loop-number
returns-after-loop-number c = record { context = _; borrowed = _; stacks = _; replayed = c.loop-number.invariant }

pub returns-in_default : goal.returns-in_default
returns-in_default c = record { context = _; borrowed = _; stacks = _; replayed = c.loop-number.invariant }
