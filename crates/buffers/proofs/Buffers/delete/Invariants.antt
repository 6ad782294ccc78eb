use Prim.Native.Nat.{ℕ}
use mathlib.Core.List.{List}
use mathlib.Core.Path.{◌≡◌}
use lib.ListN.{drop}
use Rattle.buffers.specs.Objects.{objects, Sound, delete_names}
use Rattle.buffers.specs.ObjectsCode.{Freed}
use Rattle.buffers.proofs.Buffers.delete.Given as goal

-- the names from the index on are still to be deleted
abbrev pub invariant-loop-name : goal.invariant-loop-name
invariant-loop-name l =
    record {
      state : (s : List ℕ) → delete_names (drop l.name-index l.names) (objects l.self s) ≡ delete_names l.names (objects l.initial.self s);
      sound : Sound l.self;
      slots : Freed l.initial.self.slots l.self.slots;
    }
