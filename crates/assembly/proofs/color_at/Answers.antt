-- `assembly::color_at` meets its contract: disabled, or the components of the fetch.
use mathlib.Core.Bool.{true}
use mathlib.Core.Path.{refl, sym, ap, ◌∙◌}
use borrow.Author.Tests.{not-true, not-false}
use Rattle.fetch.specs.declared.ArrayPointer.{ArrayPointer}
use Rattle.vertex.specs.SceneCode.{scene_in}
use Rattle.vertex.specs.Vertex.{element_of}
use Rattle.vertex.proofs.Vertices.{color_off, color_from}
use Rattle.assembly.proofs.Fetching.{own_array}
use Rattle.assembly.proofs.color_at.Goals as goal

pub returns-then-not-e : goal.returns-then-not-e
returns-then-not-e c =
    let s = scene_in c.args.s c.args.store.now c.args.guest.now in
    color_off s c.args.index
    (ap (λ (a : ArrayPointer). a.enabled) (sym c.requires.array) ∙ not-true c.args.e.array.enabled c.if-not-e.true)

pub fetch_element-requires : goal.fetch_element-requires
fetch_element-requires c = own_array (scene_in c.args.s c.args.store.now c.args.guest.now) c.args.store.now c.args.e c.requires

pub returns : goal.returns
returns c =
    let s = scene_in c.args.s c.args.store.now c.args.guest.now in
    c.components_or.ensures
    ∙ color_from s c.args.index (ap (λ (a : ArrayPointer). a.enabled) (sym c.requires.array) ∙ not-false c.args.e.array.enabled c.if-not-e.false) _ _
    (c.fetch_element.ensures ∙ ap (λ (a : ArrayPointer). element_of s a c.args.index true) c.requires.array) refl
