-- `driver::stack_of` meets its contract: after k turns the first k saved matrices are read.
use Rattle.std.proofs.Common.{refl, replicate}
use Rattle.stack.specs.Stack.{limit, no_matrix}
use Rattle.trace_format.specs.Fill.{tabulate}
use Rattle.trace_format.proofs.Filling.{fill_step}
use Rattle.trace_driver.specs.Stacks.{saved_at}
use Rattle.trace_driver.proofs.stack_of.Goals as goal

pub loop-k-init : goal.loop-k-init
unfolding tabulate
loop-k-init c = refl

pub loop-k-preserved : goal.loop-k-preserved
loop-k-preserved c =
    let loop = c.loop-k in
    fill_step (saved_at c.args.w.now) loop.k (replicate limit c.matrix_at-current.result) no_matrix c.loop-k-test.true loop.invariant c.matrix_at.ensures
