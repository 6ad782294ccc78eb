-- `gles_matrix::ortho` meets its contract, from the current matrix of the mode in force and the check of the planes.
use mathlib.Core.Path.{refl}
use Rattle.context.proofs.Entries.{checked_does}
use Rattle.gles_matrix.proofs.ortho.Goals as goal

pub returns : goal.returns
returns c = checked_does _ _ _ (λ x. refl) _ c.check_ortho.ensures c.ortho.ensures c.and.ensures c.multiply.ensures
