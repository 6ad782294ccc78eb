-- `use_stacks` meets its contract.
use Rattle.std.proofs.Common.{sym, ◌∙◌}
use Rattle.trace_session.proofs.Stacks.{no_record, no_slot, put}
use Rattle.trace_session.proofs.use_stacks.Goals as goal
use Rattle.trace_session.proofs.use_stacks.Goals.{else-is_stack-via-then-is_stack+else-slot-lt4, else-is_stack-via-else-is_stack}

pub returns-then-slot-lt4 : goal.returns-then-slot-lt4
returns-then-slot-lt4 c = put _ _ _ _ c.word-slot.ensures (sym c.is_stack.ensures ∙ c.if-is_stack.true) c.if-slot-lt4.true _ c.use_stack.ensures

pub returns-else-is_stack : goal.returns-else-is_stack
returns-else-is_stack c =
    elim c.else-is_stack.branch [
      | else-is_stack-via-then-is_stack+else-slot-lt4 w ↦ no_slot _ _ _ _ c.word-slot.ensures (sym c.is_stack.ensures ∙ w.if-is_stack.true) w.if-slot-lt4.false
      | else-is_stack-via-else-is_stack w ↦ no_record _ _ _ _ c.word-slot.ensures (sym c.is_stack.ensures ∙ w.if-is_stack.false)
    ]
