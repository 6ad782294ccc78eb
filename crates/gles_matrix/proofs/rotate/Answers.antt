-- `gles_matrix::rotate` meets its contract, from the current matrix of the mode in force.
use mathlib.Core.Path.{refl}
use Rattle.context.proofs.Entries.{product_does}
use Rattle.gles_matrix.proofs.rotate.Goals as goal

pub returns : goal.returns
returns c = product_does _ _ _ (λ x. refl) refl refl c.rotate.ensures refl c.multiply.ensures
