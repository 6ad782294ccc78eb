-- `gles_matrix::frustum` meets its contract, from the current matrix of the mode in force and the check of the planes.
use mathlib.Core.Path.{refl}
use Rattle.context.proofs.Entries.{checked_does}
use Rattle.gles_matrix.proofs.frustum.Goals as goal

pub returns : goal.returns
returns c = checked_does _ _ _ (λ x. refl) _ c.check_frustum.ensures c.frustum.ensures c.and.ensures c.multiply.ensures
