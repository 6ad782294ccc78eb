-- The three sources of indices: what their questions answer, and the list that the code reads. Assumes nothing.
use mathlib.Core.Bool.{Bool, true, false, cond, ◌&&◌}
use mathlib.Core.List.{List}
use mathlib.Core.Option.{Option, some, none}
use mathlib.Core.Path.{◌≡◌, refl, sym, ap, subst, ◌∙◌}
use Prim.Native.Nat.{ℕ, ◌+◌, ◌-◌, ◌*◌, ◌/◌, ◌<◌, ◌≤◌}
use native.Mathlib.Omega.{arith}
use borrow.Author.Tests.{eq-eqb, ne_eqb, leb-true, lt-leb}
use lib.Dec.{eqb, ltb, leb}
use lib.ListN.{length, take, drop, length-take, length-drop}
use Rattle.buffers.proofs.Bounds.{never}
use Rattle.number.specs.Tables.{lookup}
use Rattle.fetch.specs.Fetch.{Part, bytes, no_buffer, unreadable, in_buffer, in_guest, part_of, part_state}
use Rattle.vertex.specs.Scene.{Scene, elements}
use Rattle.vertex.specs.Index.{numbers, index_width, index_types, type_width, indices_from}
use Rattle.vertex.specs.Questions.{list_number, part_number, elements_number, view_number, validation}
use Rattle.vertex.specs.declared.IndexType.{IndexType}

-- ---- the guest view and the mask

module _ (base len stages k : ℕ) (e : k ≡ view_number base len stages 0) (n : ℕ) where
  pub view_refuses : (k ≡ 0 → ⊥) → view_number base len stages n ≡ k
  unfolding view_number
  view_refuses h = go (ltb 4294967296 (base + len)) (leb 16 stages) e
    where
      go : (a b : Bool) → k ≡ cond a 2 (cond b 3 0) → cond a 2 (cond b 3 n) ≡ k
      go true b f = sym f
      go false true f = sym f
      go false false f = absurd (h f)

  pub view_passes : k ≡ 0 → view_number base len stages n ≡ n
  unfolding view_number
  view_passes z = go (ltb 4294967296 (base + len)) (leb 16 stages) e
    where
      go : (a b : Bool) → k ≡ cond a 2 (cond b 3 0) → cond a 2 (cond b 3 n) ≡ n
      go true b f = absurd (omega arith)
      go false true f = absurd (omega arith)
      go false false f = refl

-- ---- indices in the element buffer or in guest memory

-- the bytes of a part are as many as were asked for
abbrev pub Sized : Part → ℕ → Type 0
Sized (bytes bs) len = length bs ≡ len
Sized no_buffer len = Unit {0}
Sized unreadable len = Unit {0}

cut : (l : List ℕ) (at len : ℕ) (b : Bool) → (b ≡ true → at + len ≤ length l) → Sized (cond b (bytes (take len (drop at l))) unreadable) len
cut l at len true h = let w = h refl in simp (length-take, length-drop) (omega arith)
cut l at len false h = tt

sized_buffer : (o : Option (List ℕ)) (address len : ℕ) → Sized (in_buffer o address len) len
sized_buffer none address len = tt
sized_buffer (some held) address len = cut held address len (leb (address + len) (length held)) (leb-true _ _)

both : (a b : Bool) → (a && b) ≡ true → b ≡ true
both true b e = e
both false b e = absurd (never false e refl)

pub sized : (contents : ℕ → Option (List ℕ)) (base : ℕ) (guest : List ℕ) (buffer address len : ℕ) → Sized (part_of contents base guest buffer address len) len
unfolding part_of
sized contents base guest buffer address len = go (eqb buffer 0)
  where
    go : (b : Bool) → Sized (cond b (in_guest base guest address len) (in_buffer (contents buffer) address len)) len
    go true =
        cut guest (address - base) len (leb base address && leb (address - base + len) (length guest))
        (λ e. leb-true (address - base + len) (length guest) (both (leb base address) (leb (address - base + len) (length guest)) e))
    go false = sized_buffer (contents buffer) address len

-- ---- the type of stored indices

-- the bytes of a type that was found, 0 where none was
abbrev pub width_or : Option IndexType → ℕ
width_or none = 0
width_or (some k) = type_width k

pub width_looked : (ty : ℕ) → index_width ty ≡ width_or (lookup index_types ty)
unfolding index_width
width_looked ty = go (eqb ty 0x1401) (eqb ty 0x1403)
  where
    go : (a b : Bool) → cond a 1 (cond b 2 0) ≡ width_or (cond a (some IndexType.Byte) (cond b (some IndexType.Short) none))
    go true b = refl
    go false true = refl
    go false false = refl

pub width_above : (k : IndexType) → type_width k ≡ 0 → ⊥
width_above IndexType.Byte z = omega arith
width_above IndexType.Short z = omega arith

-- a count of 32 bits times a width is below 2^64
pub product_fits : (n : ℕ) (k : IndexType) → n < 4294967296 → n * type_width k < 18446744073709551616
product_fits n IndexType.Byte h = omega arith
product_fits n IndexType.Short h = omega arith

-- so many indices that many bytes hold
held : (n : ℕ) (k : IndexType) (l : ℕ) → l ≡ n * type_width k → l / type_width k ≡ n
held n IndexType.Byte l e = omega arith
held n IndexType.Short l e = omega arith

-- ---- what the questions on such indices answer

-- the bytes of so many indices of a type
abbrev pub part : Scene → ℕ → ℕ → ℕ → IndexType → Part
part s element count pointer k = part_of s.contents s.base s.guest element pointer (count * type_width k)

module _ (s : Scene) (element count ty pointer : ℕ) where
  pub no_type : index_width ty ≡ 0 → elements_number s element count ty pointer ≡ 0x0500
  unfolding elements_number
  no_type z = rw (eq-eqb (index_width ty) 0 z)

  module _ (k : IndexType) (e : index_width ty ≡ type_width k) (small : count < 4294967296) where
    pub part_asked : elements_number s element count ty pointer ≡ part_number element (part_state (part s element count pointer k))
    unfolding elements_number
    part_asked = rw (e, ne_eqb (type_width k) 0 (width_above k), lt-leb 18446744073709551616 (count * type_width k) (product_fits count k small))

    -- the code's list of a part that is there
    pub stored_list : (bs : List ℕ) → bytes bs ≡ part s element count pointer k
        → numbers (type_width k) (length bs / type_width k) bs ≡ indices_from s element (elements count ty pointer)
    stored_list bs p =
        rw (e, sym p)
        (ap (λ (n : ℕ). numbers (type_width k) n bs)
        (held count k (length bs) (subst (λ (q : Part). Sized q (count * type_width k)) (sym p) (sized s.contents s.base s.guest element pointer (count * type_width k)))))

module _ (s : Scene) (element mode count ty pointer : ℕ) (v : (n : ℕ) → view_number s.base (length s.guest) s.stages n ≡ n) where
  pub stored_refused : (k : ℕ) → k ≡ elements_number s element count ty pointer → (k ≡ 0 → ⊥) → validation s element mode (elements count ty pointer) ≡ k
  stored_refused k f h = v _ ∙ rw (sym f, ne_eqb k 0 h)

  pub stored_none : 0 ≡ elements_number s element count ty pointer → count ≡ 0 → validation s element mode (elements count ty pointer) ≡ 0
  stored_none f z = v _ ∙ rw (sym f, eq-eqb count 0 z)

  pub stored_some : 0 ≡ elements_number s element count ty pointer → (count ≡ 0 → ⊥)
      → validation s element mode (elements count ty pointer) ≡ list_number s mode (indices_from s element (elements count ty pointer))
  stored_some f z = v _ ∙ rw (sym f, ne_eqb count 0 z)
