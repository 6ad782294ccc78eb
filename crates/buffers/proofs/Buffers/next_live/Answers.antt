use native.Mathlib.Omega.{arith}
use mathlib.Core.Path.{subst}
use Rattle.buffers.specs.Live.{FindsNext}
use Rattle.buffers.proofs.Buffers.next_live.Goals as goal

pub returns : goal.returns
returns c =
    let a = c.args in
    subst (λ n. FindsNext a.self.now.slots a.above n c.loop-k.best) (omega (arith, c.loop-k.auto.k-end, c.loop-k-test.false)) c.loop-k.invariant
