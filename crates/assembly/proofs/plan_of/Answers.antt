-- `assembly::plan_of` meets its contract, from what `prepare` ensures of each array.
use Prim.Native.Nat.{ℕ, zero, suc, ◌<◌}
use mathlib.Core.List.{List, [], ◌∷◌}
use mathlib.Core.Path.{◌≡◌, subst}
use native.Mathlib.Omega.{arith}
use lib.ListN.{get_or}
use Rattle.fetch.specs.declared.ArrayPointer.{ArrayPointer}
use Rattle.vertex.specs.Scene.{Scene}
use Rattle.vertex.specs.SceneCode.{scene_in}
use Rattle.vertex.specs.Vertex.{unit_array}
use Rattle.assembly.specs.declared.Prepared.{Prepared}
use Rattle.assembly.specs.ElementsCode.{PreparesFor}
use Rattle.assembly.proofs.plan_of.Goals as goal

-- the four units
module _ (s : Scene) (store : List ℕ) where
  own : (unit : ℕ) {a : ArrayPointer} {e : Prepared} → a ≡ unit_array s unit → PreparesFor s store a e → PreparesFor s store (unit_array s unit) e
  own unit {e} p h = subst (λ (a : ArrayPointer). PreparesFor s store a e) p h

  all : {e0 e1 e2 e3 : Prepared} → PreparesFor s store (unit_array s 0) e0 → PreparesFor s store (unit_array s 1) e1
      → PreparesFor s store (unit_array s 2) e2 → PreparesFor s store (unit_array s 3) e3
      → (unit : ℕ) (d : Prepared) → unit < 4 → PreparesFor s store (unit_array s unit) (get_or (e0 ∷ e1 ∷ e2 ∷ e3 ∷ []) unit d)
  all a b c d zero x h = a
  all a b c d (suc zero) x h = b
  all a b c d (suc (suc zero)) x h = c
  all a b c d (suc (suc (suc zero))) x h = d
  all a b c d (suc (suc (suc (suc unit)))) x h = absurd (omega arith)

pub returns : goal.returns
returns c =
    let s = scene_in c.args.s c.args.store.now c.args.guest.now in
    record {
      position = c.prepare-position.ensures;
      color = c.prepare-color.ensures;
      units = all s c.args.store.now (own s c.args.store.now 0 c.unit_array.ensures c.prepare-unit0.ensures)
          (own s c.args.store.now 1 c.unit_array-2.ensures c.prepare-unit1.ensures)
          (own s c.args.store.now 2 c.unit_array-3.ensures c.prepare-unit2.ensures)
          (own s c.args.store.now 3 c.unit_array-4.ensures c.prepare-unit3.ensures);
    }
