use Rattle.buffers.proofs.Deciding.{bindable_slot}
use Rattle.buffers.proofs.Buffers.is_bindable.Goals as goal

pub returns-else-name-eq0 : goal.returns-else-name-eq0
returns-else-name-eq0 c = rw c.is_some.ensures (bindable_slot _ _ _ c.find_slot.ensures c.if-name-eq0.false)
