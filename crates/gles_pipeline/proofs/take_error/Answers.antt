-- `gles_pipeline::take_error` meets its contract: the slot is given out and emptied.
use mathlib.Core.Path.{refl}
use Rattle.context.proofs.Entries.{unsound, take_error_does}
use Rattle.gles_pipeline.proofs.take_error.Goals as goal

pub returns-then-not-is_sound : goal.returns-then-not-is_sound
returns-then-not-is_sound c =
    record { does = λ s. rw c.from.ensures (unsound _ _ s (c.is_sound.ensures.no c.if-not-is_sound.true)); code = rw c.from.ensures }

pub returns : goal.returns
returns c = record { does = take_error_does _ (c.is_sound.ensures.yes c.if-not-is_sound.false); code = refl }
