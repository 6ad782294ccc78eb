-- `draw::draw_list` meets its contract, by the laws on the view and on the list.
use mathlib.Core.Path.{refl}
use Rattle.vertex.proofs.Sources.{view_refuses, view_passes}
use Rattle.draw.proofs.Drawing.{draw_refused, draw_listed, positive, handed_on}
use Rattle.draw.proofs.draw_list.Goals as goal

pub returns-in_err-check_view : goal.returns-in_err-check_view
returns-in_err-check_view c =
    λ element.
    rw (handed_on c.from_residual.result _ c.from_residual.ensures.1)
    (draw_refused _ element _ _ _ _ (view_refuses _ _ _ _ c.in_err-check_view.ensures _ (positive _)) (positive _))

pub returns : goal.returns
returns c = λ element. draw_listed _ element _ _ _ _ _ _ _ _ (view_passes _ _ _ _ c.in_ok-check_view.ensures _ refl) refl c.draw_indices.ensures
