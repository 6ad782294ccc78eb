-- The search for a live name finds one where one lives. Assumes nothing.
use mathlib.Core.Bool.{Bool, true, false}
use mathlib.Core.List.{List}
use mathlib.Core.Logic.{⊎_elim}
use mathlib.Core.Path.{◌≡◌, refl, sym}
use Prim.Native.Nat.{ℕ, zero, suc, ◌<◌, ◌≤◌}
use native.Mathlib.Omega.{arith}
use borrow.Author.Tests.{lt-ltb, le-ltb}
use lib.Dec.{ltb}
use Rattle.buffers.specs.Bounded.{count}
use Rattle.buffers.specs.Objects.{slot_count, name_at}
use Rattle.buffers.specs.ObjectsCode.{live_in}
use Rattle.buffers.specs.declared.Slot.{Slot}
use Rattle.buffers.proofs.Bounds.{lt_or_ge}
use Rattle.buffers.specs.Live.{NextLive, FindsNext}
use Rattle.std.specs.Prelude.{Option, Some, None, is_some}
use Rattle.trace_driver.specs.Permitted.{any_live}

module _ (P : ℕ → Bool) where
  none_counted : (n : ℕ) → ((k : ℕ) → k < n → P k ≡ false) → count n P ≡ 0
  unfolding count
  none_counted zero h = refl
  none_counted (suc n) h = rw (none_counted n (λ k l. h k (omega arith)), h n (omega arith))

  one_counted : (n k : ℕ) → k < n → P k ≡ true → 0 < count n P
  unfolding count
  one_counted zero k l e = absurd (omega arith)
  one_counted (suc n) k l e =
      ⊎_elim
      (λ (m : k < n). omega (arith, one_counted n k m e))
      (λ (m : n ≤ k). let q : n ≡ k = omega arith in rw (q, e) (omega arith))
      (lt_or_ge k n)

module _ (slots : List Slot) where
  unnamed : NextLive slots 0 slot_count slot_count → (k : ℕ) → k < slot_count → ltb 0 (name_at slots k) ≡ false
  unnamed h k l = ⊎_elim (λ u. absurd (omega (arith, (h.least k l u).0))) (λ z. le-ltb 0 (name_at slots k) z) (lt_or_ge 0 (name_at slots k))

  pub live_is : (r : Option ℕ) → FindsNext slots 0 slot_count r → is_some r ≡ any_live slots
  unfolding live_in
  live_is None h = rw (none_counted (λ k. ltb 0 (name_at slots k)) slot_count (unnamed h))
  live_is (Some r) h =
      sym (lt-ltb 0 (live_in slots) (one_counted (λ k. ltb 0 (name_at slots k)) slot_count r h.0 (lt-ltb 0 (name_at slots r) (h.1.found h.0).1)))
