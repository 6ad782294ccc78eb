-- `gles_fixed::frustumx` meets its contract, from the current matrix of the mode in force and the converted arguments.
use mathlib.Core.Path.{refl}
use Rattle.context.proofs.Entries.{checked_does}
use Rattle.gles_fixed.proofs.Converted.{converted}
use Rattle.gles_fixed.proofs.frustumx.Goals as goal

pub returns : goal.returns
returns c =
    let fits = c.ranges in
    let l = converted _ fits.l c.fixed_to_f32.ensures in
    let r = converted _ fits.r c.fixed_to_f32-2.ensures in
    let b = converted _ fits.b c.fixed_to_f32-3.ensures in
    let t = converted _ fits.t c.fixed_to_f32-4.ensures in
    let n = converted _ fits.n c.fixed_to_f32-5.ensures in
    let f = converted _ fits.f c.fixed_to_f32-6.ensures in
    checked_does _ _ _ (λ x. refl) _ (rw (l, r, b, t, n, f) at c.check_frustum.ensures) (rw (l, r, b, t, n, f) at c.frustum.ensures) c.and.ensures c.multiply.ensures
