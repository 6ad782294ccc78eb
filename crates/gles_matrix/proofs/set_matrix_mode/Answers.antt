-- `gles_matrix::set_matrix_mode` meets its contract, from the table's answer.
use Rattle.context.proofs.Entries.{unsound, sound_mode_does}
use Rattle.gles_matrix.proofs.set_matrix_mode.Goals as goal

pub returns-then-not-is_sound : goal.returns-then-not-is_sound
returns-then-not-is_sound c = rw c.refuse.ensures (λ s. unsound _ _ s (c.is_sound.ensures.no c.if-not-is_sound.true))

pub returns : goal.returns
returns c = rw c.answer.ensures (sound_mode_does _ _ _ _ (c.is_sound.ensures.yes c.if-not-is_sound.false) c.put_mode-done.ensures)
