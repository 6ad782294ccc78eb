-- `draw::draw_stored` meets its contract, by the laws on the view, the part and the list.
use mathlib.Core.Path.{refl, sym}
use Rattle.vertex.specs.SceneCode.{scene_in}
use Rattle.vertex.proofs.Sources.{view_refuses, view_passes, stored_refused, stored_none, stored_some}
use Rattle.draw.proofs.Drawing.{draw_refused, draw_by_list, empty_draw, positive, handed_on}
use Rattle.draw.proofs.draw_stored.Goals as goal

pub returns-in_err-check_view : goal.returns-in_err-check_view
returns-in_err-check_view c =
    rw (handed_on c.from_residual.result _ c.from_residual.ensures.1)
    (draw_refused _ _ _ _ _ _ (view_refuses _ _ _ _ c.in_err-check_view.ensures _ (positive _)) (positive _))

pub returns-in_err-list : goal.returns-in_err-list
returns-in_err-list c =
    rw (handed_on c.from_residual-in_err-list.result _ c.from_residual-in_err-list.ensures.1)
    (draw_refused _ _ _ _ _ _
    (stored_refused _ _ _ _ _ _ (λ n. view_passes _ _ _ _ c.in_ok-check_view.ensures n refl) _ c.in_err-list.ensures.number (positive _)) (positive _))

pub returns-then-count-eq0 : goal.returns-then-count-eq0
returns-then-count-eq0 c =
    empty_draw _ _ _ _ _ _ _
    (stored_none _ _ _ _ _ _ (λ n. view_passes _ _ _ _ c.in_ok-check_view.ensures n refl) c.in_ok-list.ensures.number c.if-count-eq0.true) c.if-count-eq0.true

pub returns : goal.returns
returns c =
    let s = scene_in c.args.s c.args.store.now c.args.guest.now in
    draw_by_list s _ _ _ _ _ _ _ _
    (stored_some s _ _ _ _ _ (λ n. view_passes _ _ _ _ c.in_ok-check_view.ensures n refl) c.in_ok-list.ensures.number c.if-count-eq0.false)
    (sym c.in_ok-list.ensures.indices) c.draw_indices.ensures
