-- `gles_matrix::push_matrix` meets its contract: each arm is on the stack of the mode in force, which is lent.
use Rattle.context.specs.declared.MatrixMode.{MatrixMode}
use Rattle.context.proofs.Entries.{unsound, sound_stack_does}
use Rattle.gles_matrix.proofs.push_matrix.Goals as goal

pub returns-then-not-is_sound : goal.returns-then-not-is_sound
returns-then-not-is_sound c = rw c.refuse.ensures (λ s. unsound _ _ s (c.is_sound.ensures.no c.if-not-is_sound.true))

pub returns-in-Modelview : goal.returns-in-Modelview
returns-in-Modelview c =
    rw c.note.ensures (sound_stack_does _ _ MatrixMode.Modelview _ _ (c.is_sound.ensures.yes c.if-not-is_sound.false) c.in-Modelview.is c.pushed-a.ensures)

pub returns-in-Projection : goal.returns-in-Projection
returns-in-Projection c =
    rw c.note-in-Projection.ensures
    (sound_stack_does _ _ MatrixMode.Projection _ _ (c.is_sound.ensures.yes c.if-not-is_sound.false) c.in-Projection.is c.pushed-a-in-Projection.ensures)

pub returns-in-Texture : goal.returns-in-Texture
returns-in-Texture c =
    rw c.note-in-Texture.ensures
    (sound_stack_does _ _ MatrixMode.Texture _ _ (c.is_sound.ensures.yes c.if-not-is_sound.false) c.in-Texture.is c.pushed-a-in-Texture.ensures)
