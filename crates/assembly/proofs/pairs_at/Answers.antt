-- `assembly::pairs_at` meets its contract, from what the inner functions ensure.
use mathlib.Core.Path.{refl}
use native.Mathlib.Omega.{arith}
use Rattle.vertex.specs.SceneCode.{scene_in}
use Rattle.vertex.proofs.Vertices.{texcoords_are}
use Rattle.assembly.proofs.pairs_at.Goals as goal

pub pair_at-t0-requires : goal.pair_at-t0-requires
pair_at-t0-requires c = (refl, c.requires.units 0 _ (omega arith))

pub pair_at-t1-requires : goal.pair_at-t1-requires
pair_at-t1-requires c = (refl, c.requires.units 1 _ (omega arith))

pub pair_at-t2-requires : goal.pair_at-t2-requires
pair_at-t2-requires c = (refl, c.requires.units 2 _ (omega arith))

pub pair_at-t3-requires : goal.pair_at-t3-requires
pair_at-t3-requires c = (refl, c.requires.units 3 _ (omega arith))

pub returns : goal.returns
returns c =
    let s = scene_in c.args.s c.args.store.now c.args.guest.now in
    texcoords_are s c.args.index c.pair_at-t0.ensures c.pair_at-t1.ensures c.pair_at-t2.ensures
    c.pair_at-t3.ensures
