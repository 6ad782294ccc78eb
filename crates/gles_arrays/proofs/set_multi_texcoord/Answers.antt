-- `gles_arrays::set_multi_texcoord` meets its contract, from the call on the current values.
use Rattle.context.proofs.Entries.{unsound, sound_attributes_do}
use Rattle.gles_arrays.proofs.set_multi_texcoord.Goals as goal

pub returns-then-not-is_sound : goal.returns-then-not-is_sound
returns-then-not-is_sound c = rw c.refuse.ensures (λ s. unsound _ _ s (c.is_sound.ensures.no c.if-not-is_sound.true))

pub returns : goal.returns
returns c = rw c.answer.ensures (sound_attributes_do _ _ _ _ (c.is_sound.ensures.yes c.if-not-is_sound.false) c.set_multi_texcoord-done.ensures)
