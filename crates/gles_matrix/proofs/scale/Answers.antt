-- `gles_matrix::scale` meets its contract, from the current matrix of the mode in force.
use mathlib.Core.Path.{refl}
use Rattle.context.proofs.Entries.{product_does}
use Rattle.gles_matrix.proofs.scale.Goals as goal

pub returns : goal.returns
returns c = product_does _ _ _ (λ x. refl) refl refl c.scale.ensures refl c.multiply.ensures
