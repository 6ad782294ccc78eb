-- Laws of the buffer objects for a reader: how many names live, what gen makes, what delete gives back.
use Prim.Native.Nat.{ℕ, zero, suc, ◌+◌, ◌-◌, ◌<◌, ◌≤◌, max}
use mathlib.Core.Bool.{Bool, true, false, not, cond, ◌||◌}
use mathlib.Core.List.{List, []}
use mathlib.Core.Logic.{◌⊎◌, inl, inr, ⊎_elim}
use mathlib.Core.Option.{some}
use mathlib.Core.Path.{◌≡◌, refl, sym, ap, ◌∙◌}
use native.Mathlib.Omega.{arith}
use lib.Dec.{eqb, ltb}
use borrow.Author.Tests.{ltb-true, lt-ltb, not-true, eq-eqb, ne_eqb}
use Rattle.refusal.specs.Refusals.{answer}
use Rattle.buffers.specs.Bounded.{count}
use Rattle.buffers.specs.Objects.{Objects, objects, absent, name_at, slot_of, contents_of, live_names, make, gen_names, gen_answer, delete_name, room_for, Sound}
use Rattle.buffers.specs.ObjectsCode.{live_in}
use Rattle.buffers.specs.declared.Buffers.{Buffers}
use Rattle.buffers.proofs.Bounds.{never, same?, count_ext, count_more, count_le, count_suc, count_image}
use Rattle.buffers.proofs.Slots.{slot_cases, contents_none, contents_zero, contents_at}

-- a name with contents is not 0, and a slot holds it
module _ (b : Buffers) (s : List ℕ) (n : ℕ) (live : absent (contents_of b.slots s n) ≡ false) where
  live_pos : 0 < n
  live_pos = ⊎_elim (λ z. never (absent (contents_of b.slots s n)) (simp (contents_zero b.slots s n z)) live) (λ z. omega (arith, z)) (same? n 0)

  live_slot : (slot_of b.slots n < 16) × (name_at b.slots (slot_of b.slots n) ≡ n)
  live_slot = ⊎_elim (λ f. never (absent (contents_of b.slots s n)) (simp (contents_none b.slots s n f.1)) live) (λ f. f) (slot_cases b.slots n)

-- A live name is below next, so that counting up to next misses none.
pub live_below : (b : Buffers) → Sound b → (s : List ℕ) (n : ℕ) → absent (contents_of b.slots s n) ≡ false → n < b.next
live_below b sound s n live =
    let at = live_slot b s n live in omega (arith, at.1, sound.below (slot_of b.slots n) at.0)

-- As many slots are in use as names live.
pub live_law : (b : Buffers) → Sound b → (s : List ℕ) → live_in b.slots ≡ live_names (objects b s)
unfolding live_in live_names
live_law b sound s =
    count_image 16 (λ k. ltb 0 (name_at b.slots k)) (name_at b.slots) b.next (λ n. not (absent (contents_of b.slots s n)))
    (record {
      to = λ j l p. (sound.below j l, simp (contents_at b.slots sound.once s (name_at b.slots j) j (ltb-true 0 (name_at b.slots j) p) l refl));
      apart = λ j k l h p q. sound.once j k l h (ltb-true 0 (name_at b.slots j) p);
      back = λ i l q.
          let live = not-true (absent (contents_of b.slots s i)) q in
          let at = live_slot b s i live in
          record { at = slot_of b.slots i; below = at.0; passes = rw at.1 (lt-ltb 0 i (live_pos b s i live)); is = at.1 };
    })

-- At most 16 names live.
pub live_most : (b : Buffers) → Sound b → (s : List ℕ) → live_names (objects b s) ≤ 16
unfolding live_in
live_most b sound s = rw (sym (live_law b sound s)) (count_le 16 (λ k. ltb 0 (name_at b.slots k)))

-- The name after all others is one name more.
pub live_next : (o : Objects) → live_names (make o o.next) ≡ live_names o + 1
unfolding live_names
live_next o =
    ap (λ (k : ℕ). count k P) more
    ∙ omega (
      arith,
      count_suc P o.next,
      count_ext o.next P (λ m. not (absent (o.contents m))) (λ m l. simp (ne_eqb m o.next (omega arith))),
      ap {B = ℕ} (λ (t : Bool). cond t 1 0) last,
    )
  where
    P : ℕ → Bool
    P m = not (absent (cond (eqb m o.next) (some []) (o.contents m)))

    more : max o.next (o.next + 1) ≡ o.next + 1
    more = omega arith

    last : P o.next ≡ true
    last = simp (eq-eqb o.next o.next refl)

-- What n names made in order do: next is lifted by n, each of the names is live and empty, and any other name and the bindings are as before.
pub record GenMade (o : Objects) (n : ℕ) (r : Objects) : Type 0 where
  pub next : r.next ≡ o.next + n
  pub new : (k : ℕ) → k < n → r.contents (o.next + k) ≡ some []
  pub other : (m : ℕ) → (m < o.next) ⊎ (o.next + n ≤ m) → r.contents m ≡ o.contents m
  pub array : r.array ≡ o.array
  pub element : r.element ≡ o.element

gen_names_law : (n : ℕ) (o : Objects) → GenMade o n (gen_names n o)
unfolding gen_names
gen_names_law zero o = record { next = omega arith; new = λ k h. absurd (omega arith); other = λ m side. refl; array = refl; element = refl }
gen_names_law (suc n) o =
    let rest = gen_names_law n (make o o.next) in
    record {
      next = rest.next ∙ omega arith;
      new = λ k h. ⊎_elim
          (λ z. rest.other (o.next + k) (inl (omega arith)) ∙ simp (eq-eqb (o.next + k) o.next (omega arith)))
          (λ z. let at : o.next + k ≡ max o.next (o.next + 1) + (k - 1) = omega (arith, z) in
          ap (gen_names n (make o o.next)).contents at ∙ rest.new (k - 1) (omega (arith, z)))
          (same? k 0);
      other = λ m side.
          rest.other m (⊎_elim (λ l. inl (omega arith)) (λ l. inr (omega arith)) side)
          ∙ simp (ne_eqb m o.next (⊎_elim (λ l. omega arith) (λ l. omega arith) side));
      array = rest.array;
      element = rest.element;
    }

-- So does an accepted gen.
pub gen_law : (o : Objects) (n : ℕ) → (gen_answer o n).number ≡ 0 → GenMade o n (gen_answer o n).after
unfolding gen_answer
gen_law o n done = go (ltb 16 (live_names o + n)) (ltb 4294967295 (o.next + n)) done
  where
    go : (x y : Bool) → (cond x (answer 4 o) (cond y (answer 5 o) (answer 0 (gen_names n o)))).number ≡ 0
        → GenMade o n (cond x (answer 4 o) (cond y (answer 5 o) (answer 0 (gen_names n o)))).after
    go true y e = absurd (omega arith)
    go false true e = absurd (omega arith)
    go false false e = gen_names_law n o

-- A live name deleted is one name less.
pub delete_live : (o : Objects) (n : ℕ) → 0 < n → n < o.next → absent (o.contents n) ≡ false → live_names (delete_name o n) + 1 ≡ live_names o
unfolding live_names delete_name
delete_live o n pos below live =
    simp (ne_eqb n 0 (omega arith), live)
    (sym (count_more o.next _ (λ m. not (absent (o.contents m))) n below (simp (eq-eqb n n refl)) (simp live) (λ m l q. simp (ne_eqb m n q))))

-- So its slot is used again: after that any name finds room.
pub delete_room : (b : Buffers) → Sound b → (s : List ℕ) (n : ℕ) → absent (contents_of b.slots s n) ≡ false → (m : ℕ) → room_for (delete_name (objects b s) n) m ≡ true
delete_room b sound s n live m =
    either_last (eqb m 0) (not (absent ((delete_name (objects b s) n).contents m))) _
    (lt-ltb (live_names (delete_name (objects b s) n)) 16 (omega (arith, less, live_most b sound s)))
  where
    less : live_names (delete_name (objects b s) n) + 1 ≡ live_names (objects b s)
    less = delete_live (objects b s) n (live_pos b s n live) (live_below b sound s n live) live

    either_last : (x y z : Bool) → z ≡ true → (x || (y || z)) ≡ true
    either_last true y z e = refl
    either_last false true z e = refl
    either_last false false z e = e
