-- `context::Stacks::is_sound` meets its contract: each of the three is asked.
use mathlib.Core.Path.{sym, ◌∙◌}
use Rattle.buffers.proofs.Bounds.{never}
use Rattle.context.proofs.Entries.{some_unsound, all_sound}
use Rattle.context.specs.declared.MatrixMode.{MatrixMode}
use Rattle.context.proofs.Stacks.is_sound.Goals as goal
use Rattle.context.proofs.Stacks.is_sound.Goals.{then-is_sound, else-is_sound}

pub returns-then-is_sound-2 : goal.returns-then-is_sound-2
returns-then-is_sound-2 c =
    elim c.if-is_sound.branch [
      | then-is_sound w ↦ all_sound _ (c.is_sound.ensures.yes w.if-is_sound.true) (w.is_sound-then-is_sound.ensures.yes (sym w.value-is ∙ c.if-is_sound-2.true))
          c.is_sound-then-is_sound-2.ensures
      | else-is_sound w ↦ absurd (never _ (sym w.value-is ∙ c.if-is_sound-2.true) w.if-is_sound.false)
    ]

pub returns-else-is_sound-2 : goal.returns-else-is_sound-2
returns-else-is_sound-2 c =
    elim c.if-is_sound.branch [
      | then-is_sound w ↦ rw c.if-is_sound-2.false (some_unsound _ MatrixMode.Projection (w.is_sound-then-is_sound.ensures.no (sym w.value-is ∙ c.if-is_sound-2.false)))
      | else-is_sound w ↦ rw c.if-is_sound-2.false (some_unsound _ MatrixMode.Modelview (c.is_sound.ensures.no w.if-is_sound.false))
    ]
