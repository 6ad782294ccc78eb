-- `gles_pipeline::set_front_face` meets its contract, from the call on the settings.
use Rattle.context.proofs.Entries.{unsound, sound_pipeline_does}
use Rattle.gles_pipeline.proofs.set_front_face.Goals as goal

pub returns-then-not-is_sound : goal.returns-then-not-is_sound
returns-then-not-is_sound c = rw c.refuse.ensures (λ s. unsound _ _ s (c.is_sound.ensures.no c.if-not-is_sound.true))

pub returns : goal.returns
returns c = rw c.answer.ensures (sound_pipeline_does _ _ _ _ (c.is_sound.ensures.yes c.if-not-is_sound.false) c.set_front_face-done.ensures)
