-- `assembly::corner_index` meets its contract.
use Prim.Native.Nat.{ℕ}
use mathlib.Core.Path.{ap, ◌∙◌}
use lib.ListN.{get_or}
use Rattle.vertex.specs.SceneCode.{index_list}
use Rattle.assembly.proofs.corner_index.Goals as goal

pub returns : goal.returns
returns c =
    let a = c.args in
    c.index.ensures ∙ ap (λ (k : ℕ). get_or (index_list a.list) k 0) (c.corner_place.ensures.0 c.requires)
