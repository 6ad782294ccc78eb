-- How many triangles a draw counts, by its number of indices. Assumes nothing.
use mathlib.Core.Bool.{Bool, true, false, not, cond}
use mathlib.Core.List.{List, []}
use mathlib.Core.Path.{◌≡◌, refl, ap, subst, ◌∙◌}
use Prim.Native.Nat.{ℕ, ◌+◌, ◌*◌, ◌<◌, ◌≤◌}
use native.Mathlib.Omega.{arith}
use borrow.Author.Tests.{ltb-true, ltb-false, eqb-true, eqb-false, not-true, not-false, ne_eqb}
use lib.Dec.{eqb, ltb, leb}
use lib.ListN.{length}
use Rattle.buffers.specs.Bounded.{first}
use Rattle.fetch.specs.Fetch.{Part, bytes, no_buffer, unreadable, part_state}
use Rattle.vertex.specs.Scene.{Scene, Source, list, range, elements}
use Rattle.vertex.specs.Index.{index_width, index_part, indices_in, indices_from, range_count, index_total}
use Rattle.vertex.specs.Questions.{position_at, fails, failing_place, has_vertices, list_number, part_number, elements_number, source_number, view_number, validation}
use Rattle.vertex.proofs.Search.{first_real}
use Rattle.vertex.proofs.IndexLists.{length_up_from, length_numbers}
use Rattle.corners.specs.Places.{triangle_count, primitive_of}
use Rattle.assembly.specs.Triangles.{Triangle}
use Rattle.draw.specs.Draw.{triangles_of, draw_in, Drawing}
use Rattle.draw.proofs.Drawing.{count_drawn}

-- where the number of some tests is 0, the first of them passed: it has a nonzero number where it fails
passed : (no : Bool) (number rest : ℕ) → (no ≡ true → number ≡ 0 → ⊥) → cond no number rest ≡ 0 → (no ≡ false) × (rest ≡ 0)
passed true number rest h e = absurd (h refl e)
passed false number rest h e = (refl, e)

-- a draw whose list passes has a mode of triangles
modes_of : (s : Scene) (mode : ℕ) (is : List ℕ) → list_number s mode is ≡ 0 → (4 ≤ mode) × (mode ≤ 6)
unfolding list_number first
modes_of s mode is e =
    let a = passed (not (has_vertices s.arrays.vertex)) 8 _ (λ _ k. absurd (omega arith)) e in
    let b = passed (ltb (failing_place s is) (length is)) (position_at s is (failing_place s is)) _ (λ h k. real h k) a.1 in
    let c = passed (ltb 6 mode) 0x0500 _ (λ _ k. absurd (omega arith)) b.1 in
    let d = passed (ltb mode 4) 10 0 (λ _ k. absurd (omega arith)) c.1 in
    (ltb-false _ _ d.0, ltb-false _ _ c.0)
  where
    real : ltb (failing_place s is) (length is) ≡ true → position_at s is (failing_place s is) ≡ 0 → ⊥
    real h = eqb-false _ _ (not-true _ (first_real (fails s is) 0 (length is) (omega (arith, ltb-true (failing_place s is) (length is) h))))

-- the bytes of the indices are there where the questions about them pass
part_there : (s : Scene) (element count ty pointer : ℕ) → elements_number s element count ty pointer ≡ 0
    → part_number element (part_state (index_part s element count ty pointer)) ≡ 0
unfolding elements_number
part_there s element count ty pointer e =
    let a = passed (eqb (index_width ty) 0) 0x0500 _ (λ _ k. absurd (omega arith)) e in
    (passed (leb 18446744073709551616 (count * index_width ty)) 0x0501 _ (λ _ k. absurd (omega arith)) a.1).1

indices_counted : (element w n : ℕ) (p : Part) → part_number element (part_state p) ≡ 0 → length (indices_in p w n) ≡ n
indices_counted element w n (bytes bs) e = length_numbers w n bs
indices_counted element w n no_buffer e = absurd (omega arith)
indices_counted element w n unreadable e = go (eqb element 0) e
  where
    go : {A : Type 0} (b : Bool) → ◌≡◌ {A = ℕ} (cond b 7 0x0501) 0 → A
    go true f = absurd (omega arith)
    go false f = absurd (omega arith)

module _ (s : Scene) (element mode : ℕ) where
  -- a draw that passes has all its indices, and a mode of triangles unless it has none
  pub source_passed : (source : Source) → source_number s element mode source ≡ 0
      → (length (indices_from s element source) ≡ index_total source) × (0 < index_total source → (4 ≤ mode) × (mode ≤ 6))
  source_passed (list is) e = (refl, λ _. modes_of s mode is e)
  source_passed (range first count) e = (length_up_from first (range_count first count), λ _. modes_of s mode _ e)
  source_passed (elements count ty pointer) e =
      let n = elements_number s element count ty pointer in
      let a = passed (not (eqb n 0)) n _ (λ h k. eqb-false n 0 (not-true _ h) k) e in
      (stored (eqb-true n 0 (not-false _ a.0)), λ h. modes_of s mode _ (some h a.1))
    where
      stored : elements_number s element count ty pointer ≡ 0 → length (indices_from s element (elements count ty pointer)) ≡ count
      stored f = indices_counted element (index_width ty) count (index_part s element count ty pointer) (part_there s element count ty pointer f)

      some : 0 < count → cond (eqb count 0) 0 (list_number s mode (indices_from s element (elements count ty pointer))) ≡ 0
          → list_number s mode (indices_from s element (elements count ty pointer)) ≡ 0
      some h f = subst (λ b. cond b 0 (list_number s mode (indices_from s element (elements count ty pointer))) ≡ 0) (ne_eqb count 0 (λ z. absurd (omega arith))) f

-- the answer by the two questions that settle it
abbrev chosen : Bool → Bool → ℕ → List Triangle → Drawing
chosen refused full number ts = cond refused (record { number = number; triangles = [] })
    (cond full (record { number = 11; triangles = [] }) (record { number = 0; triangles = ts }))

chosen_refused : (refused full : Bool) (number : ℕ) (ts : List Triangle) → ((chosen refused full number ts).number ≡ 0 → ⊥) → (chosen refused full number ts).triangles ≡ []
chosen_refused true full number ts h = refl
chosen_refused false true number ts h = refl
chosen_refused false false number ts h = absurd (h refl)

chosen_accepted : (refused full : Bool) (number : ℕ) (ts : List Triangle) → not (eqb number 0) ≡ refused → (chosen refused full number ts).number ≡ 0
    → (number ≡ 0) × ((chosen refused full number ts).triangles ≡ ts)
chosen_accepted true full number ts q e = absurd (eqb-false number 0 (not-true _ q) e)
chosen_accepted false true number ts q e = absurd (omega arith)
chosen_accepted false false number ts q e = (eqb-true number 0 (not-false _ q), refl)

view_passed : (base len stages n : ℕ) → view_number base len stages n ≡ 0 → n ≡ 0
unfolding view_number
view_passed base len stages n e = (passed (leb 16 stages) 3 n (λ _ k. absurd (omega arith)) (passed (ltb 4294967296 (base + len)) 2 _ (λ _ k. absurd (omega arith)) e).1).1

module _ (s : Scene) (element mode : ℕ) (source : Source) (room : ℕ) where
  pub refused_none : ((draw_in s element mode source room).number ≡ 0 → ⊥) → (draw_in s element mode source room).triangles ≡ []
  unfolding draw_in
  refused_none h =
      let ts = triangles_of s mode (indices_from s element source) in
      chosen_refused (not (eqb (validation s element mode source) 0)) (ltb room (51 * length ts)) (validation s element mode source) ts h

  pub accepted_count : (draw_in s element mode source room).number ≡ 0
      → (length (draw_in s element mode source room).triangles ≡ triangle_count (primitive_of mode) (index_total source)) × (0 < index_total source → (4 ≤ mode) × (mode ≤ 6))
  unfolding draw_in
  accepted_count e =
      let ts = triangles_of s mode (indices_from s element source) in
      let a = chosen_accepted (not (eqb (validation s element mode source) 0)) (ltb room (51 * length ts)) (validation s element mode source) ts refl e in
      let p = source_passed s element mode source (view_passed s.base (length s.guest) s.stages (source_number s element mode source) a.0) in
      (ap (λ (ts : List Triangle). length ts) a.1 ∙ count_drawn s mode (indices_from s element source) ∙ ap (λ (n : ℕ). triangle_count (primitive_of mode) n) p.0, p.1)

  -- what an accepted draw writes is within the room
  pub drawn_fits : 51 * length (draw_in s element mode source room).triangles ≤ room
  unfolding draw_in
  drawn_fits =
      let ts = triangles_of s mode (indices_from s element source) in
      chosen_fits (not (eqb (validation s element mode source) 0)) (ltb room (51 * length ts)) (validation s element mode source) ts refl
    where
      chosen_fits : (refused full : Bool) (number : ℕ) (ts : List Triangle) → ltb room (51 * length ts) ≡ full → 51 * length (chosen refused full number ts).triangles ≤ room
      chosen_fits true full number ts q = omega arith
      chosen_fits false true number ts q = omega arith
      chosen_fits false false number ts q = ltb-false _ _ q
