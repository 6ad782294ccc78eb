-- `assembly::assemble` meets its contract, from what the inner functions ensure.
use Rattle.vertex.specs.SceneCode.{scene_in}
use Rattle.vertex.proofs.Vertices.{assembled}
use Rattle.assembly.proofs.assemble.Goals as goal

pub color_at-color-requires : goal.color_at-color-requires
color_at-color-requires c = c.requires.color

pub position_at-o-requires : goal.position_at-o-requires
position_at-o-requires c = c.requires.position

pub pairs_at-texcoords-requires : goal.pairs_at-texcoords-requires
pairs_at-texcoords-requires c = c.requires

pub returns : goal.returns
returns c =
    let s = scene_in c.args.s c.args.store.now c.args.guest.now in
    assembled s c.args.index c.position_at-o.ensures c.transform-position.ensures c.transform-eye.ensures
    c.color_at-color.ensures c.pairs_at-texcoords.ensures c.abs.ensures
