-- Soundness as the code decides it: slot by slot.
use Prim.Native.Nat.{ℕ, ◌<◌, ◌≤◌}
use mathlib.Core.Bool.{true, false}
use mathlib.Core.List.{List}
use mathlib.Core.Logic.{inl, inr}
use mathlib.Core.Path.{◌≡◌, refl, sym, ap, ◌∙◌}
use native.Mathlib.Omega.{arith}
use lib.Dec.{eqb, ltb}
use lib.ListN.{length}
use borrow.Author.Tests.{eqb-true, eqb-false, lt-ltb, ltb-true, ltb-false}
use Rattle.number.specs.Decides.{Decides}
use Rattle.buffers.specs.Objects.{name_at, slot_of, Bindable, Sound, SoundIs}
use Rattle.std.specs.Prelude.{Option, Some, None, is_some}
use Rattle.std.specs.Option.{option_eq}
use Rattle.buffers.specs.ObjectsCode.{SlotSound, FindsSlot}
use Rattle.buffers.specs.declared.Slot.{Slot}
use Rattle.buffers.specs.declared.Buffers.{Buffers}
use Rattle.buffers.proofs.Bounds.{never}
use Rattle.buffers.proofs.Slots.{slot_found, slot_unknown, slot_is}

pub holds : {P : Type 0} → P → Decides P true
holds p = record { yes = λ e. p; no = λ e. never true refl e }

pub fails : {P : Type 0} → (P → ⊥) → Decides P false
fails n = record { yes = λ e. never false e refl; no = λ e. n }

pub sound_fails : (b : Buffers) → length b.slots ≡ 16 → (Sound b → ⊥) → SoundIs b false
sound_fails b sized n = record { decides = fails n; slots = sized }

pub slot_facts : (b : Buffers) → Sound b → (k : ℕ) → k < 16 → SlotSound b k
slot_facts b sound k h =
    record { small = sound.small k h; below = sound.below k h; first = λ pos. slot_is b.slots sound.once (name_at b.slots k) k pos h refl }

pub sound_facts : (b : Buffers) → ((k : ℕ) → k < 16 → SlotSound b k) → Bindable b.slots b.array_buffer → Bindable b.slots b.element_buffer → Sound b
sound_facts b each a e =
    record {
      small = λ k h. (each k h).small;
      once = λ j k h l pos same. sym ((each j h).first pos) ∙ ap (slot_of b.slots) same ∙ (each k l).first (omega arith);
      started = omega (arith, (each 0 (omega arith)).below);
      below = λ k h. (each k h).below;
      array_live = a;
      element_live = e;
    }

-- ---- a slot that was found or not

pub slot_missing : (slots : List Slot) (n : ℕ) (r : Option ℕ) → FindsSlot slots n r → is_some r ≡ false → 16 ≤ slot_of slots n
slot_missing slots n None h e = omega arith
slot_missing slots n (Some k) h e = never true refl e

pub slot_there : (slots : List Slot) (n : ℕ) (r : Option ℕ) → FindsSlot slots n r → is_some r ≡ true → slot_of slots n < 16
slot_there slots n None h e = never false e refl
slot_there slots n (Some k) h e = omega (arith, h.0, h.1)

-- a nonzero name is bindable where a slot is found for it
pub bindable_found : (slots : List Slot) (n k : ℕ) → k ≡ slot_of slots n → (n ≡ 0 → ⊥) → Decides (Bindable slots n) (ltb k 16)
bindable_found slots n k found z = record { yes = λ e. there (ltb-true k 16 e); no = λ e. away (ltb-false k 16 e) }
  where
    there : k < 16 → Bindable slots n
    there h = inr (record { slot = k; within = h; holds = ap (name_at slots) found ∙ slot_found slots n (omega arith); nonzero = omega (arith, z) })

    away : 16 ≤ k → Bindable slots n → ⊥
    away h (inl e) = z e
    away h (inr l) = slot_unknown slots n (omega arith) l.slot l.within l.holds

pub bindable_slot : (slots : List Slot) (n : ℕ) (r : Option ℕ) → FindsSlot slots n r → (n ≡ 0 → ⊥) → Decides (Bindable slots n) (is_some r)
bindable_slot slots n None h z = bindable_found slots n 16 (sym h) z
bindable_slot slots n (Some k) h z = rw (lt-ltb k 16 h.0) at (bindable_found slots n k (sym h.1) z)

-- a slot is the first with a nonzero name where it is found for it
pub first_found : (slots : List Slot) (n k : ℕ) (r : Option ℕ) → FindsSlot slots n r → (n ≡ 0 → ⊥) → Decides (0 < n → (k < 16) × (slot_of slots n ≡ k)) (option_eq eqb r (Some k))
first_found slots n k None h z = fails (λ f. let g = f (omega (arith, z)) in omega (arith, g.0, g.1, h))
first_found slots n k (Some j) h z =
    record {
      yes = λ e p. let q = eqb-true j k e in (omega (arith, h.0, q), h.1 ∙ q);
      no = λ e f. eqb-false j k e (sym h.1 ∙ (f (omega (arith, z))).1);
    }
