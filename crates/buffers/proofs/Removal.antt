-- Deleting a name: its slot is freed.
use mathlib.Core.Bool.{cond}
use Prim.Native.Nat.{ℕ, ◌+◌, ◌<◌, ◌≤◌}
use mathlib.Core.List.{List}
use mathlib.Core.Path.{◌≡◌, refl, ap, ◌∙◌, fun_ext}
use mathlib.Core.Logic.{inl, ⊎_elim}
use native.Mathlib.Numerals.{add-one}
use native.Mathlib.Omega.{arith}
use lib.Dec.{eqb}
use lib.ListN.{length, get_or, drop, set, drop_of_length-le}
use lib.Seq.{drop-cons}
use borrow.Author.Tests.{eq-eqb, ne_eqb}
use Rattle.buffers.specs.Objects.{Objects, name_at, slot_of, Bindable, Sound, delete_name, delete_names}
use Rattle.buffers.specs.ObjectsCode.{Steps}
use Rattle.buffers.specs.declared.Buffers.{Buffers}
use Rattle.buffers.proofs.Bounds.{same?}
use Rattle.buffers.proofs.Slots.{slot, slot_found, slot_unknown, contents_none, contents_some, contents_free, bindable_set, sound_set}
use Rattle.buffers.proofs.Free.{freed_same, freed_set}

module _ (b : Buffers) (n : ℕ) (sound : Sound b) where
  pub skip_zero : n ≡ 0 → Steps b (λ o. delete_name o n) b
  unfolding delete_name
  skip_zero z = record { state = λ s. simp (eq-eqb n 0 z); sound = sound; slots = freed_same }

  module _ (z : n ≡ 0 → ⊥) (k : ℕ) (found : k ≡ slot_of b.slots n) where
    pub skip_unknown : 16 ≤ k → Steps b (λ o. delete_name o n) b
    unfolding delete_name
    skip_unknown h = record { state = λ s. simp (ne_eqb n 0 z, contents_none b.slots s n (slot_unknown b.slots n (omega arith))); sound = sound; slots = freed_same }

    module _ (sized : length b.slots ≡ 16) (within : k < 16) where
      old : name_at b.slots k ≡ n
      old = ap (name_at b.slots) found ∙ slot_found b.slots n (omega arith)

      bindable_free : (l a : ℕ) → Bindable b.slots a → Bindable (set b.slots k (slot 0 l)) (cond (eqb a n) 0 a)
      bindable_free l a live =
          ⊎_elim (λ q. inl (simp (eq-eqb a n q)))
          (λ q. rw (ne_eqb a n q) (bindable_set b.slots k (slot 0 l) sized within a (λ p e. absurd (q (e ∙ old))) live))
          (same? a n)

      -- only the line on the slots asks that the length is 0
      pub deleted : (l : ℕ) → l ≡ 0 → (x y : ℕ) → x ≡ cond (eqb b.array_buffer n) 0 b.array_buffer → y ≡ cond (eqb b.element_buffer n) 0 b.element_buffer
          → Steps b (λ o. delete_name o n) (record { slots = set b.slots k (slot 0 l); next = b.next; array_buffer = x; element_buffer = y })
      unfolding delete_name
      deleted l empty x y ex ey =
          let pos : 0 < n = omega (arith, z) in
          record {
            state = λ s.
                (λ i. record {
                  next = b.next;
                  contents = fun_ext (contents_free b.slots k (slot 0 l) sized within sound.once (λ j h q p e. omega arith) s s (λ j h q p. refl) refl n pos old) i;
                  array = ex i;
                  element = ey i;
                })
                ∙ simp (ne_eqb n 0 z, contents_some b.slots s n pos (omega arith));
            sound = sound_set b sound k (slot 0 l) sized within (λ j h q p e. omega arith) (omega arith) b.next x y (omega arith) sound.started
                (rw ex (bindable_free l b.array_buffer sound.array_live)) (rw ey (bindable_free l b.element_buffer sound.element_live));
            slots = freed_set b.slots k l sized within (omega (arith, old, pos)) empty;
          }

-- names deleted one by one
pub delete_step : (names : List ℕ) (i : ℕ) (o : Objects) → i < length names → delete_names (drop i names) o ≡ delete_names (drop (i + 1) names) (delete_name o (get_or names i 0))
unfolding delete_names
delete_step names i o h = rw (drop-cons names i 0 h, add-one)

pub delete_end : (names : List ℕ) (i : ℕ) (o : Objects) → length names ≤ i → delete_names (drop i names) o ≡ o
unfolding delete_names
delete_end names i o h = rw (drop_of_length-le names h)
