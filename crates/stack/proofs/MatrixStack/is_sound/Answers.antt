-- `stack::MatrixStack::is_sound` meets its contract: the test is the definition's bound.
use native.Mathlib.Omega.{arith}
use borrow.Author.Rules.{rules}
use borrow.Author.Tests.{leb-true, leb-false}
use Rattle.number.proofs.Lists.{length_mapped}
use Rattle.stack.proofs.MatrixStack.is_sound.Goals as goal

pub returns : goal.returns
returns c =
    record {
      yes = λ e. record { places = search (length_mapped, rules); within = leb-true _ _ e };
      no = λ e s. let d = c.args.self.depth in omega (arith, leb-false d 15 e, s.within);
    }
