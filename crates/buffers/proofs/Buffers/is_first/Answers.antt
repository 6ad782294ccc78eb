use Rattle.buffers.proofs.Deciding.{first_found}
use Rattle.buffers.proofs.Buffers.is_first.Goals as goal

pub returns-else-name-eq0 : goal.returns-else-name-eq0
returns-else-name-eq0 c = rw c.eq.ensures (first_found _ _ _ _ c.find_slot.ensures c.if-name-eq0.false)
