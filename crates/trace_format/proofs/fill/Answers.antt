-- `trace::fill` meets its contract: after i turns the first i bytes are made anew.
use Rattle.std.proofs.Common.{refl, take}
use Rattle.trace_format.specs.Fill.{tabulate, fill_byte}
use Rattle.trace_format.proofs.Filling.{fill_step}
use Rattle.trace_format.proofs.fill.Goals as goal

pub loop-i-init : goal.loop-i-init
unfolding tabulate
loop-i-init c = refl

pub loop-i-preserved : goal.loop-i-preserved
loop-i-preserved c =
    let l = c.loop-i in
    fill_step (fill_byte c.args.seed) l.i (take c.min-end.result c.args.area.now) 0 c.loop-i-test.true l.invariant c.fill_byte.ensures
