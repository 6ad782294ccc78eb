-- `trace::read_words` meets its contract: after i turns the first i words are read.
use Rattle.std.proofs.Common.{refl, take}
use Rattle.trace_format.specs.Fill.{tabulate, word_of}
use Rattle.trace_format.proofs.Filling.{fill_step}
use Rattle.trace_format.proofs.read_words.Goals as goal

pub loop-i-init : goal.loop-i-init
unfolding tabulate
loop-i-init c = refl

pub loop-i-preserved : goal.loop-i-preserved
loop-i-preserved c =
    let l = c.loop-i in
    fill_step (word_of c.args.bytes.now) l.i (take c.min-end.result c.args.w.now) 0 c.loop-i-test.true l.invariant c.word_of.ensures
