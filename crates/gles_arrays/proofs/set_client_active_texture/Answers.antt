-- `gles_arrays::set_client_active_texture` meets its contract, from the call on the arrays.
use Rattle.context.proofs.Entries.{unsound, sound_arrays_do}
use Rattle.gles_arrays.proofs.set_client_active_texture.Goals as goal

pub returns-then-not-is_sound : goal.returns-then-not-is_sound
returns-then-not-is_sound c = rw c.refuse.ensures (λ s. unsound _ _ s (c.is_sound.ensures.no c.if-not-is_sound.true))

pub returns : goal.returns
returns c = rw c.answer.ensures (sound_arrays_do _ _ _ _ (c.is_sound.ensures.yes c.if-not-is_sound.false) (c.set_client_active_texture-done.ensures _))
