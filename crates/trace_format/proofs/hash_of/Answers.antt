-- `trace::hash_of` meets its contract: after i turns h is the hash of the first i bytes.
use Rattle.std.proofs.Common.{refl}
use Rattle.trace_format.specs.Fill.{hash_from}
use Rattle.trace_format.proofs.Filling.{hash_more}
use Rattle.trace_format.proofs.hash_of.Goals as goal

pub loop-b-init : goal.loop-b-init
unfolding hash_from
loop-b-init c = refl

pub loop-b-preserved : goal.loop-b-preserved
loop-b-preserved c =
    let l = c.loop-b in
    hash_more 0x811c9dc5 c.args.bytes.now l.b-index c.loop-b-test.true l.invariant c.hash_step-h.ensures
