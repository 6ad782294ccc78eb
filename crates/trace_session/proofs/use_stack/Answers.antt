-- `use_stack` meets its contract.
use Rattle.std.proofs.Common.{ap}
use Rattle.refusal.specs.Refusals.{Answer}
use Rattle.stack.specs.declared.MatrixStack.{MatrixStack}
use Rattle.trace_session.proofs.use_stack.Goals as goal

pub returns : goal.returns
returns c = ap (λ (a : Answer MatrixStack). a.after) c.answer_stack-r.ensures
