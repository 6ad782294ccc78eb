-- `assembly::validate` meets its contract: the questions in their order.
use mathlib.Core.Path.{sym, ◌∙◌}
use Rattle.vertex.specs.SceneCode.{scene_in, index_list}
use Rattle.vertex.proofs.Questions.{no_vertices, no_position, no_mode, no_triangles, all_answered}
use Rattle.assembly.proofs.Fetching.{failing_nine}
use Rattle.assembly.proofs.validate.Goals as goal

pub returns-then-not-has_vertices : goal.returns-then-not-has_vertices
returns-then-not-has_vertices c = no_vertices _ _ _ (sym c.has_vertices.ensures ∙ c.if-not-has_vertices.true)

pub returns-then-place-n : goal.returns-then-place-n
returns-then-place-n c =
    let s = scene_in c.args.s c.args.store.now c.args.guest.now in
    no_position _ _ _ (sym c.has_vertices.ensures ∙ c.if-not-has_vertices.false) _ c.len-n.ensures _ c.first_failing-place.ensures
    c.if-place-n.true _ (failing_nine s (index_list c.args.list) _ _ c.first_failing-place.ensures c.if-place-n.true)

pub returns-then-mode-gt6 : goal.returns-then-mode-gt6
returns-then-mode-gt6 c =
    no_mode _ _ _ (sym c.has_vertices.ensures ∙ c.if-not-has_vertices.false) _ c.len-n.ensures _ c.first_failing-place.ensures
    c.if-place-n.false c.if-mode-gt6.true

pub returns-then-mode-lt4 : goal.returns-then-mode-lt4
returns-then-mode-lt4 c =
    no_triangles _ _ _ (sym c.has_vertices.ensures ∙ c.if-not-has_vertices.false) _ c.len-n.ensures _ c.first_failing-place.ensures
    c.if-place-n.false c.if-mode-gt6.false c.if-mode-lt4.true

pub returns : goal.returns
returns c =
    all_answered _ _ _ (sym c.has_vertices.ensures ∙ c.if-not-has_vertices.false) _ c.len-n.ensures _ c.first_failing-place.ensures
    c.if-place-n.false c.if-mode-gt6.false c.if-mode-lt4.false
