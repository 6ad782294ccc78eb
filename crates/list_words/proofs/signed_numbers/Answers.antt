-- `list_words::signed_numbers` meets its contract, word by word.
use mir.Syntax.{w32}
use Rattle.list_words.specs.Words.{signed_at}
use Rattle.list_words.proofs.Each.{more, all}
use Rattle.list_words.proofs.Signed.{read_back}
use Rattle.list_words.proofs.signed_numbers.Goals as goal

pub loop-i-preserved : goal.loop-i-preserved
loop-i-preserved g c =
    more (signed_at c.args.w.now) _ _ _ _ c.loop-i.invariant c.loop-i-test.true (read_back w32 _ c.signed_at.type_inv c.signed_at.ensures)

pub returns : goal.returns
returns g c = all (signed_at c.args.w.now) _ _ _ c.loop-i.invariant c.loop-i.auto.i-end c.loop-i-test.false
