use Prim.Native.Nat.{◌-◌, ◌≤◌}
use mathlib.Core.Path.{◌≡◌}
use Rattle.buffers.specs.Bounded.{first_from}
use Rattle.vertex.specs.Scene.{Scene}
use Rattle.vertex.specs.Questions.{fails}
use Rattle.vertex.specs.SceneCode.{index_list}
use Rattle.assembly.specs.ElementsCode.{PreparesFor}
use Rattle.assembly.proofs.first_failing.Given as goal

abbrev pub invariant-loop-i : goal.invariant-loop-i
invariant-loop-i l = (l.i ≤ l.n)
    × ((s : Scene) → PreparesFor s l.store s.arrays.vertex l.e
    → first_from (fails s (index_list l.list)) l.i (l.n - l.i) ≡ first_from (fails s (index_list l.list)) 0 l.n)

abbrev pub decreases-loop-i : goal.decreases-loop-i
decreases-loop-i l = l.n - l.i
