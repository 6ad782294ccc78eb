-- `gles_buffers::delete_buffers` meets its contract, from the call on the buffers.
use mathlib.Core.Path.{refl}
use Rattle.context.proofs.Entries.{unsound_apart, buffer_does}
use Rattle.gles_buffers.proofs.delete_buffers.Goals as goal

pub returns-then-not-is_sound_apart : goal.returns-then-not-is_sound_apart
returns-then-not-is_sound_apart c = rw c.refuse.ensures (λ s. unsound_apart _ _ s (c.is_sound_apart.ensures.no c.if-not-is_sound_apart.true))

pub returns : goal.returns
returns c = rw (c.put_buffers.ensures, c.number_of.ensures) (buffer_does _ _ _ _ (c.is_sound_apart.ensures.yes c.if-not-is_sound_apart.false) refl c.delete-done.ensures)
