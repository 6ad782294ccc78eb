-- `new` meets its contract: every slot is free.
use Prim.Native.Nat.{ℕ, ◌<◌}
use mathlib.Core.List.{List}
use mathlib.Core.Logic.{inl, ⊎_elim}
use mathlib.Core.Option.{none}
use mathlib.Core.Path.{◌≡◌, refl, sym, ap, ◌∙◌, fun_ext}
use native.Mathlib.Omega.{arith}
use lib.ListN.{replicate, get_or-replicate}
use Rattle.buffers.specs.Objects.{free_slot, name_at, contents_of}
use Rattle.buffers.specs.declared.Slot.{Slot}
use Rattle.buffers.proofs.Bounds.{same?}
use Rattle.buffers.proofs.Slots.{contents_zero, contents_none}
use Rattle.buffers.proofs.Buffers.new.Goals as goal

free : (k : ℕ) → k < 16 → name_at (replicate 16 free_slot) k ≡ 0
free k h = ap (λ (x : Slot). x.name) (get_or-replicate 16 k free_slot free_slot h)

nothing : (s : List ℕ) (n : ℕ) → contents_of (replicate 16 free_slot) s n ≡ none
nothing s n = ⊎_elim (contents_zero _ s n) (λ z. contents_none _ s n (λ k h e. z (sym e ∙ free k h))) (same? n 0)

pub returns : goal.returns
returns c =
    record {
      sound = record {
        small = λ k h p. absurd (omega (arith, free k h));
        once = λ j k h l p. absurd (omega (arith, free j h));
        started = omega arith;
        below = λ k h. omega (arith, free k h);
        array_live = inl refl;
        element_live = inl refl;
      };
      state = λ s i. record { next = 1; contents = fun_ext (nothing s) i; array = 0; element = 0 };
      lengths = λ k h. ap (λ (x : Slot). x.len) (get_or-replicate 16 k free_slot free_slot h);
    }
