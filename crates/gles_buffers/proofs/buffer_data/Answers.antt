-- `gles_buffers::buffer_data` meets its contract, from the call on the buffers.
use mathlib.Core.Path.{refl}
use Rattle.context.proofs.Entries.{unsound_apart, upload_did}
use Rattle.gles_buffers.proofs.buffer_data.Goals as goal

pub returns-then-not-is_sound_apart : goal.returns-then-not-is_sound_apart
returns-then-not-is_sound_apart c = rw c.refuse.ensures (unsound_apart _ _ _ (c.is_sound_apart.ensures.no c.if-not-is_sound_apart.true))

pub returns : goal.returns
returns c = rw (c.put_buffers.ensures, c.number_of.ensures) (upload_did _ _ _ _ (c.is_sound_apart.ensures.yes c.if-not-is_sound_apart.false) _ _ refl c.set_data-done.ensures)
