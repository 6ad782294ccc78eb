-- `assembly::write_vertex` meets its contract: one run of stores after the other.
use Prim.Native.Nat.{ℕ, ◌+◌}
use mathlib.Core.List.{List, [], ◌∷◌, ◌++◌}
use mathlib.Core.Path.{◌≡◌, refl, sym, ap, ◌∙◌}
use native.Mathlib.Omega.{arith}
use lib.Ieee.{Float}
use lib.ListN.{length, set, length-append}
use lib.Seq.{sets}
use borrow.Author.Rules.{rules}
use Rattle.vertex.specs.Vertex.{vertex_words, four, next_four}
use Rattle.vertex.specs.declared.Vertex.{Vertex}
use Rattle.assembly.proofs.Written.{sets_then}
use Rattle.assembly.proofs.write_vertex.Goals as goal

-- the words of arrays of four and of eight
four_are : (l : List Float) → length l ≡ 4 → four l ≡ l
four_are [] h = absurd (omega arith)
four_are (a ∷ []) h = absurd (omega arith)
four_are (a ∷ b ∷ []) h = absurd (omega arith)
four_are (a ∷ b ∷ c ∷ []) h = absurd (omega arith)
four_are (a ∷ b ∷ c ∷ d ∷ []) h = refl
four_are (a ∷ b ∷ c ∷ d ∷ e ∷ l) h = absurd (omega arith)

eight_are : (l : List Float) → length l ≡ 8 → four l ++ next_four l ≡ l
eight_are (a ∷ b ∷ c ∷ d ∷ l) h = ap (λ (r : List Float). a ∷ b ∷ c ∷ d ∷ r) (four_are l (omega arith))
eight_are [] h = absurd (omega arith)
eight_are (a ∷ []) h = absurd (omega arith)
eight_are (a ∷ b ∷ []) h = absurd (omega arith)
eight_are (a ∷ b ∷ c ∷ []) h = absurd (omega arith)

words_are : (v : Vertex) → length v.position ≡ 4 → length v.color ≡ 4 → length v.texcoords ≡ 8
    → v.position ++ v.color ++ v.texcoords ++ (v.fog ∷ []) ≡ vertex_words v
unfolding vertex_words
words_are v p k t = λ i. sym (four_are v.position p) i ++ sym (four_are v.color k) i ++ sym (eight_are v.texcoords t) i ++ (v.fog ∷ [])

-- the stores, one run after the other
written : (out o1 o2 o3 : List Float) (at : ℕ) (v : Vertex) → length v.position ≡ 4 → length v.color ≡ 4 → length v.texcoords ≡ 8
    → o1 ≡ sets out at v.position → o2 ≡ sets o1 (at + 4) v.color → o3 ≡ sets o2 (at + 8) v.texcoords
    → set o3 (at + 16) v.fog ≡ sets out at (vertex_words v)
written out o1 o2 o3 at v p k t a b c =
    let two : length (v.position ++ v.color) ≡ 8 = length-append v.position v.color ∙ omega (arith, p, k) in
    let three : length (v.position ++ v.color ++ v.texcoords) ≡ 16 = length-append (v.position ++ v.color) v.texcoords ∙ omega (arith, two, t) in
    let e2 = sets_then out at v.position v.color a b (omega (arith, p)) in
    let e3 = sets_then out at (v.position ++ v.color) v.texcoords e2 c (omega (arith, two)) in
    sets_then out at (v.position ++ v.color ++ v.texcoords) (v.fog ∷ []) e3 refl (omega (arith, three)) ∙ ap (sets out at) (words_are v p k t)

pub returns : goal.returns
returns c = written c.args.out.now _ _ _ c.args.at c.args.v (search rules) (search rules) (search rules) c.put.ensures c.put-2.ensures c.put-3.ensures
