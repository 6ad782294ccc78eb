-- `assembly::pair_at` meets its contract: with a stage or without, enabled or not.
use mathlib.Core.Bool.{false}
use mathlib.Core.Path.{sym, ap, ◌∙◌}
use lib.Pow.{pow_pos}
use borrow.Author.Tests.{not-true, not-false}
use Rattle.fetch.specs.declared.ArrayPointer.{ArrayPointer}
use Rattle.vertex.specs.SceneCode.{scene_in}
use Rattle.vertex.specs.Vertex.{element_of, components_or, origin, pair_from}
use Rattle.vertex.proofs.Vertices.{pair_none, pair_off, pair_on}
use Rattle.assembly.proofs.Fetching.{own_array}
use Rattle.assembly.proofs.pair_at.Goals as goal

pub has_stage-requires : goal.has_stage-requires
has_stage-requires c = rw c.requires.0 (pow_pos c.args.unit)

pub returns-then-not-has_stage : goal.returns-then-not-has_stage
returns-then-not-has_stage c =
    let s = scene_in c.args.s.now c.args.store.now c.args.guest.now in
    pair_none s c.args.index c.args.unit
    (sym (c.has_stage.ensures c.args.unit c.requires.0) ∙ c.if-not-has_stage.true)

pub returns-then-not-e : goal.returns-then-not-e
returns-then-not-e c =
    c.unit_pair.ensures
    ∙ pair_off (scene_in c.args.s.now c.args.store.now c.args.guest.now) c.args.index c.args.unit
    (sym (c.has_stage.ensures c.args.unit c.requires.0) ∙ c.if-not-has_stage.false)
    (ap (λ (a : ArrayPointer). a.enabled) (sym c.requires.1.array) ∙ not-true c.args.e.array.enabled c.if-not-e.true)

pub coordinates-requires : goal.coordinates-requires
coordinates-requires c =
    let s = scene_in c.args.s.now c.args.store.now c.args.guest.now in
    own_array s c.args.store.now c.args.e c.requires.1

pub returns : goal.returns
returns c =
    let s = (scene_in c.args.s.now c.args.store.now c.args.guest.now) in
    pair_on s c.args.index c.args.unit
    (sym (c.has_stage.ensures c.args.unit c.requires.0) ∙ c.if-not-has_stage.false)
    (ap (λ (a : ArrayPointer). a.enabled) (sym c.requires.1.array) ∙ not-false c.args.e.array.enabled c.if-not-e.false)
    (c.coordinates.ensures ∙ ap (λ (a : ArrayPointer). pair_from (components_or (element_of s a c.args.index false) origin)) c.requires.1.array)
    c.transform_pair.ensures
