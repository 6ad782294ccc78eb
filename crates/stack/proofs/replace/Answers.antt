-- `stack::replace` meets its contract: a list is that of its elements.
use mathlib.Core.List.{List, [], ◌∷◌}
use mathlib.Core.Path.{◌≡◌, sym, ap, ◌∙◌}
use Prim.Native.Nat.{ℕ, zero, suc, ◌+◌}
use native.Mathlib.Omega.{arith}
use borrow.Author.Rules.{rules}
use lib.Ieee.{Float}
use lib.ListN.{length, drop, drop_of_length-le}
use lib.Seq.{drop-cons}
use Rattle.matrix.specs.Matrix.{at}
use Rattle.stack.proofs.replace.Goals as goal

-- n elements from place k on
abbrev elements : List Float → ℕ → ℕ → List Float
elements l k zero = []
elements l k (suc n) = at l k ∷ elements l (suc k) n

to_the_end : (l : List Float) (n k : ℕ) → length l ≡ k + n → elements l k n ≡ drop k l
to_the_end l zero k h = sym (drop_of_length-le l {i = k} (omega arith))
to_the_end l (suc n) k h = ap (λ (r : List Float). at l k ∷ r) (to_the_end l n (suc k) (omega arith)) ∙ sym (drop-cons l k _ (omega arith))

pub returns : goal.returns
returns c = to_the_end c.args.from.entries 16 0 (search rules)
