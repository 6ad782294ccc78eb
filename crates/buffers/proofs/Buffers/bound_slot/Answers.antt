use Rattle.buffers.proofs.Uploads.{bound_finds}
use Rattle.buffers.proofs.Buffers.bound_slot.Goals as goal

pub returns-else-name-eq0 : goal.returns-else-name-eq0
returns-else-name-eq0 c = bound_finds _ c.requires _ _ c.bound-name.ensures c.if-name-eq0.false _ c.find_slot.ensures
