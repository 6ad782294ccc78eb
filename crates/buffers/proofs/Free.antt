-- The lengths in free slots after a call: slots filled, freed, or as they were.
use Prim.Native.Nat.{ℕ, ◌<◌}
use mathlib.Core.List.{List}
use mathlib.Core.Logic.{◌⊎◌, inl, inr, ⊎_elim}
use mathlib.Core.Path.{◌≡◌, refl, sym, ap, ◌∙◌}
use native.Mathlib.Omega.{arith}
use lib.ListN.{length, get_or, set}
use borrow.Author.Tests.{eq-eqb, ne_eqb}
use Rattle.buffers.specs.Objects.{free_slot, name_at, len_at, free_len, FreeSlots}
use Rattle.buffers.specs.ObjectsCode.{FreedAt, Freed, Filled}
use Rattle.buffers.specs.declared.Slot.{Slot}
use Rattle.buffers.proofs.Slots.{slot, set_each}

-- a slot that stays
stayed : (before after : List Slot) (k : ℕ) → get_or after k free_slot ≡ get_or before k free_slot → name_at after k ≡ 0 → len_at after k ≡ free_len before k
stayed before after k e z = ap (λ (x : Slot). x.len) e ∙ sym (simp (eq-eqb (name_at before k) 0 (sym (ap (λ (x : Slot). x.name) e) ∙ z)))

pub free_same : {slots : List Slot} → FreeSlots slots slots
free_same {slots} = record { lengths = λ k h z. stayed slots slots k refl z }

pub filled_free : {before after : List Slot} → Filled before after → FreeSlots before after
filled_free {before} {after} f = record { lengths = λ k h z. stayed before after k (f.each k h z) z }

pub freed_free : {before after : List Slot} → Freed before after → FreeSlots before after
freed_free {before} {after} f =
    record {
      lengths = λ k h z.
          ⊎_elim (λ e. stayed before after k e z)
          (λ p. ap (λ (x : Slot). x.len) p.1 ∙ sym (simp (ne_eqb (name_at before k) 0 (λ q. omega (arith, p.0, q)))))
          (f.each k h);
    }

-- ---- one after the other

pub filled_same : {slots : List Slot} → Filled slots slots
filled_same = record { each = λ k h z. refl }

pub filled_then : {a b c : List Slot} → Filled a b → Filled b c → Filled a c
filled_then f g = record { each = λ k h z. let e = g.each k h z in e ∙ f.each k h (sym (ap (λ (x : Slot). x.name) e) ∙ z) }

pub freed_same : {slots : List Slot} → Freed slots slots
freed_same = record { each = λ k h. inl refl }

pub freed_then : {a b c : List Slot} → Freed a b → Freed b c → Freed a c
freed_then {a} {b} {c} f g = record { each = λ k h. go k (f.each k h) (g.each k h) }
  where
    go : (k : ℕ) → FreedAt a b k → FreedAt b c k → FreedAt a c k
    go k (inl p) (inl q) = inl (q ∙ p)
    go k (inr p) (inl q) = inr (p.0, q ∙ p.1)
    go k (inl p) (inr q) = inr (omega (arith, q.0, ap (λ (x : Slot). x.name) p), q.1)
    go k (inr p) (inr q) = inr (p.0, q.1)

-- ---- a slot replaced

module _ (slots : List Slot) (k : ℕ) (x : Slot) (sized : length slots ≡ 16) (within : k < 16) where
  pub filled_set : 0 < x.name → Filled slots (set slots k x)
  filled_set pos =
      record { each = λ j h. set_each slots k x sized within (λ y. y.name ≡ 0 → y ≡ get_or slots j free_slot) j (λ q z. absurd (omega arith)) (λ q z. refl) }

-- freed, with a length that is 0
pub freed_set : (slots : List Slot) (k l : ℕ) → length slots ≡ 16 → k < 16 → 0 < name_at slots k → l ≡ 0 → Freed slots (set slots k (slot 0 l))
freed_set slots k l sized within pos empty =
    record {
      each = λ j h.
          set_each slots k (slot 0 l) sized within (λ y. (y ≡ get_or slots j free_slot) ⊎ ((0 < name_at slots j) × (y ≡ free_slot))) j
          (λ q. inr (omega (arith, ap (name_at slots) q), ap (slot 0) empty)) (λ q. inl refl);
    }
