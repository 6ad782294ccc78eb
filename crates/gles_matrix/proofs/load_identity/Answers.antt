-- `gles_matrix::load_identity` meets its contract, from the current matrix of the mode in force.
use mathlib.Core.Path.{refl}
use Rattle.context.proofs.Entries.{load_does}
use Rattle.gles_matrix.proofs.load_identity.Goals as goal

pub returns : goal.returns
returns c = load_does _ _ _ (λ x. refl) refl refl refl c.load.ensures
