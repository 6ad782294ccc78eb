-- `assembly::put` meets its contract: the words stand in the place of as many.
use mathlib.Core.List.{List, ◌++◌, append_assoc}
use mathlib.Core.Path.{sym, ap, ◌∙◌}
use native.Mathlib.Nat.{add-sub_cancel_left}
use lib.Ieee.{Float}
use Prim.Native.Nat.{◌+◌}
use lib.ListN.{length, take, drop}
use Rattle.std.proofs.Common.{drop-drop}
use lib.Seq.{sets-eq}
use Rattle.assembly.proofs.put.Goals as goal

pub returns : goal.returns
returns c =
    let a = c.args in
    rw (c.copy_from_slice.ensures.after, add-sub_cancel_left)
    (ap (λ (r : List Float). take a.at a.out.now ++ (a.words.now ++ r)) (drop-drop (length a.words.now) a.at a.out.now)
    ∙ sym (append_assoc (take a.at a.out.now) a.words.now (drop (a.at + length a.words.now) a.out.now)) ∙ sym (sets-eq a.words.now a.out.now a.at c.requires))
