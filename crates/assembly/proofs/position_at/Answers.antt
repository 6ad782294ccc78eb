-- `assembly::position_at` meets its contract: the components of the fetch, or those of the origin.
use mathlib.Core.Bool.{false}
use mathlib.Core.Path.{ap, ◌∙◌}
use Rattle.fetch.specs.Fetch.{Fetched}
use Rattle.fetch.specs.declared.ArrayPointer.{ArrayPointer}
use Rattle.vertex.specs.SceneCode.{scene_in}
use Rattle.vertex.specs.Vertex.{element_of, components_or, origin}
use Rattle.assembly.proofs.Fetching.{own_array}
use Rattle.assembly.proofs.position_at.Goals as goal

pub fetch_element-requires : goal.fetch_element-requires
fetch_element-requires c = own_array (scene_in c.args.s c.args.store.now c.args.guest.now) c.args.store.now c.args.e c.requires

pub returns : goal.returns
returns c =
    let s = scene_in c.args.s c.args.store.now c.args.guest.now in
    c.components_or.ensures
    ∙ ap (λ (x : Fetched). components_or x origin) (c.fetch_element.ensures ∙ ap (λ (a : ArrayPointer). element_of s a c.args.index false) c.requires.array)
