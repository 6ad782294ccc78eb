-- `trace::mark` meets its contract: after i turns the first i words are marked.
use Rattle.std.proofs.Common.{refl}
use Rattle.std.specs.Float.{binary32}
use Rattle.std.specs.Float.Ieee.{of_bits}
use Rattle.trace_format.specs.Fill.{tabulate, mark_bits}
use Rattle.trace_format.proofs.Filling.{fill_step}
use Rattle.trace_format.proofs.mark.Goals as goal

pub loop-i-init : goal.loop-i-init
unfolding tabulate
loop-i-init c = refl

pub loop-i-preserved : goal.loop-i-preserved
loop-i-preserved c =
    let l = c.loop-i in
    fill_step (λ k. of_bits binary32 (mark_bits k)) l.i c.args.out.now (of_bits binary32 0) c.loop-i-test.true l.invariant c.mark_at.ensures
