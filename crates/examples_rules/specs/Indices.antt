-- The list of stored indices that the code reads is the draw's, for every type that has a width: the bytes that are there, one or two to an index.
use mathlib.Core.Bool.{Bool, true, false, cond}
use mathlib.Core.List.{List}
use mathlib.Core.Logic.{◌⊎◌, inl, inr, ⊎_elim}
use mathlib.Core.Path.{◌≡◌, sym, ap, ◌∙◌}
use Prim.Native.Nat.{ℕ, ◌*◌, ◌/◌}
use native.Mathlib.Omega.{arith}
use borrow.Author.Tests.{eq-eqb, ne_eqb}
use lib.Dec.{eqb, leb}
use lib.ListN.{length}
use Rattle.std.specs.Borrow.{Bor}
use Rattle.fetch.specs.Fetch.{Part, bytes, no_buffer, unreadable, part_of, part_state, bytes_in}
use Rattle.vertex.specs.Scene.{Scene, elements}
use Rattle.vertex.specs.Index.{numbers, index_width, type_width, index_part, indices_in, indices_from}
use Rattle.vertex.specs.Questions.{part_number, elements_number}
use Rattle.vertex.specs.SceneCode.{index_list}
use Rattle.vertex.specs.declared.IndexList.{IndexList}
use Rattle.vertex.specs.declared.IndexType.{IndexType}
use Rattle.vertex.proofs.Sources.{Sized, sized, no_type}

widths : (ty w : ℕ) → w ≡ index_width ty → (w ≡ 0 → ⊥) → (w ≡ 1) ⊎ (w ≡ 2)
unfolding index_width
widths ty w e h = go (eqb ty 0x1401) (eqb ty 0x1403) e
  where
    go : (a b : Bool) → w ≡ cond a 1 (cond b 2 0) → (w ≡ 1) ⊎ (w ≡ 2)
    go true b f = inl f
    go false true f = inr f
    go false false f = absurd (h f)

abbrev pub list_by_width : ℕ → Bor (List ℕ) → IndexList
list_by_width w b = cond (eqb w 1) (IndexList.Bytes b) (IndexList.Shorts b)

of_part : (p : Part) (element w n : ℕ) (b : Bor (List ℕ)) → b.now ≡ bytes_in p → part_number element (part_state p) ≡ 0 → Sized p (n * w) → (w ≡ 1) ⊎ (w ≡ 2)
    → indices_in p w n ≡ index_list (list_by_width w b)
of_part (bytes bs) element w n b eb z e side = ⊎_elim one two side
  where
    one : w ≡ 1 → numbers w n bs ≡ index_list (list_by_width w b)
    one h = let k : n ≡ length bs = omega (arith, e, h, ap (λ (x : ℕ). n * x) h) in rw (eq-eqb w 1 h, h, k, eb)

    two : w ≡ 2 → numbers w n bs ≡ index_list (list_by_width w b)
    two h = let k : n ≡ length bs / 2 = omega (arith, e, ap (λ (x : ℕ). n * x) h) in rw (ne_eqb w 1 (λ q. omega arith), h, k, eb)
of_part no_buffer element w n b eb z e side = absurd (omega arith)
of_part unreadable element w n b eb z e side = absurd (go (eqb element 0) z)
  where
    go : (b : Bool) → ◌≡◌ {A = ℕ} (cond b 7 0x0501) 0 → ⊥
    go true z = omega arith
    go false z = omega arith

module _ (s : Scene) (element count ty pointer w : ℕ) (e : w ≡ index_width ty) (z : 0 ≡ elements_number s element count ty pointer) where
  width_there : (w ≡ 1) ⊎ (w ≡ 2)
  width_there = widths ty w e (λ q. absurd (omega (arith, no_type s element count ty pointer (sym e ∙ q), z)))

  part_there : part_number element (part_state (index_part s element count ty pointer)) ≡ 0
  unfolding elements_number
  part_there = go (eqb (index_width ty) 0) (leb 18446744073709551616 (count * index_width ty)) z
    where
      go : (a b : Bool) → 0 ≡ cond a 0x0500 (cond b 0x0501 (part_number element (part_state (index_part s element count ty pointer))))
          → part_number element (part_state (index_part s element count ty pointer)) ≡ 0
      go true b f = absurd (omega arith)
      go false true f = absurd (omega arith)
      go false false f = sym f

  pub stored_indices : (b : Bor (List ℕ)) → b.now ≡ bytes_in (part_of s.contents s.base s.guest element pointer (count * w))
      → indices_from s element (elements count ty pointer) ≡ index_list (list_by_width w b)
  stored_indices b eb =
      ap (λ (x : ℕ). indices_in (part_of s.contents s.base s.guest element pointer (count * x)) x count) (sym e)
      ∙ of_part (part_of s.contents s.base s.guest element pointer (count * w)) element w count b eb
      (ap (λ (x : ℕ). part_number element (part_state (part_of s.contents s.base s.guest element pointer (count * x)))) e ∙ part_there)
      (sized s.contents s.base s.guest element pointer (count * w)) width_there

  by_type : (k : IndexType) (b : Bor (List ℕ)) → type_width k ≡ w → index_list (list_by_width w b) ≡ numbers (type_width k) (length b.now / type_width k) b.now
  by_type IndexType.Byte b h = let n : length b.now / 1 ≡ length b.now = omega arith in rw (eq-eqb w 1 (sym h), n)
  by_type IndexType.Short b h = rw (ne_eqb w 1 (λ q. omega (arith, h)))

  -- so is each list that `IndexType::list` makes of the bytes, by its contract
  pub listed_indices : (k : IndexType) (b : Bor (List ℕ)) (x : IndexList) → type_width k ≡ w
      → b.now ≡ bytes_in (part_of s.contents s.base s.guest element pointer (count * w))
      → index_list x ≡ numbers (type_width k) (length b.now / type_width k) b.now → indices_from s element (elements count ty pointer) ≡ index_list x
  listed_indices k b x h eb e = stored_indices b eb ∙ by_type k b h ∙ sym e
