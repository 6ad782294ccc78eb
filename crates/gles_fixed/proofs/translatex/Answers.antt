-- `gles_fixed::translatex` meets its contract, from the current matrix of the mode in force and the converted arguments.
use mathlib.Core.Path.{refl}
use Rattle.context.proofs.Entries.{product_does}
use Rattle.gles_fixed.proofs.Converted.{converted}
use Rattle.gles_fixed.proofs.translatex.Goals as goal

pub returns : goal.returns
returns c =
    let fits = c.ranges in
    let x = converted _ fits.x c.fixed_to_f32.ensures in
    let y = converted _ fits.y c.fixed_to_f32-2.ensures in
    let z = converted _ fits.z c.fixed_to_f32-3.ensures in
    product_does _ _ _ (λ x. refl) refl refl (rw (x, y, z) at c.translate-m.ensures) refl c.multiply.ensures
