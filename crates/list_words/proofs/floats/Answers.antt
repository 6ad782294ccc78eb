-- `list_words::floats` meets its contract, word by word.
use Rattle.list_words.specs.Words.{float_at}
use Rattle.list_words.proofs.Each.{more, all}
use Rattle.list_words.proofs.floats.Goals as goal

pub loop-i-preserved : goal.loop-i-preserved
loop-i-preserved g c = more (float_at c.args.w.now) _ _ _ _ c.loop-i.invariant c.loop-i-test.true c.float_at.ensures

pub returns : goal.returns
returns g c = all (float_at c.args.w.now) _ _ _ c.loop-i.invariant c.loop-i.auto.i-end c.loop-i-test.false
