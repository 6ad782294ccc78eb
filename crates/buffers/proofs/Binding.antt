-- The contract of a call that borrows no store, and `bind_buffer` case by case.
use Prim.Native.Nat.{ℕ, ◌<◌, ◌≤◌}
use mathlib.Core.Bool.{Bool, true, false, cond}
use mathlib.Core.List.{List}
use mathlib.Core.Path.{◌≡◌, refl, sym, ap, ◌∙◌}
use native.Mathlib.Omega.{arith}
use borrow.Author.Tests.{le-leb, lt-leb}
use Rattle.std.specs.Prelude.{Ok, Err}
use Rattle.refusal.specs.EnumerantsCode.{Decodes}
use Rattle.refusal.specs.declared.UnknownEnum.{UnknownEnum}
use Rattle.buffers.specs.declared.Target.{Target}
use Rattle.buffers.proofs.Targets.{tests_of}
use Rattle.refusal.specs.Refusals.{Answer, answer}
use Rattle.buffers.specs.Objects.{Objects, objects, Answers, FreeSlots, named, bind_array, bind_element, bind_answer, Sound}
use Rattle.buffers.specs.ObjectsCode.{MakesName, targets}
use Rattle.buffers.specs.declared.Buffers.{Buffers}
use Rattle.buffers.proofs.Slots.{sound_with}
use Rattle.buffers.proofs.Free.{free_same, filled_free}

module _ (b : Buffers) (rule : Objects → Answer Objects) where
  module _ (sound : Sound b) (number : ℕ) where
    pub answers_same : ((s : List ℕ) → answer number (objects b s) ≡ rule (objects b s)) → Answers b rule number b
    answers_same h = record { unsound = λ q. absurd (q sound); ruled = λ q. h; kept = λ s. s; free = free_same; stays = λ p s q. refl }

    pub answers_moved : (r : Buffers) → ((s : List ℕ) → answer number (objects r s) ≡ rule (objects b s)) → Sound r → FreeSlots b.slots r.slots
        → ((number ≡ 0 → ⊥) → (s : List ℕ) → (rule (objects b s)).after ≡ objects b s → r ≡ b) → Answers b rule number r
    answers_moved r h k f still = record { unsound = λ q. absurd (q sound); ruled = λ q. h; kept = λ s. k; free = f; stays = still }

  pub answers_done : (sound : Sound b) (r : Buffers) → ((s : List ℕ) → answer 0 (objects r s) ≡ rule (objects b s)) → Sound r → FreeSlots b.slots r.slots
      → Answers b rule 0 r
  answers_done sound r h k f = answers_moved sound 0 r h k f (λ p. absurd (p refl))

module _ (b : Buffers) (sound : Sound b) (t n : ℕ) where
  pub bind_last : 4294967295 ≤ n → Answers b (λ o. bind_answer o t n) 5 b
  unfolding bind_answer
  bind_last h = answers_same b _ sound 5 (λ s. simp (le-leb 4294967295 n h))

  -- after the name is made
  module _ (h : n < 4294967295) (ok : Bool) (m : Buffers) (made : MakesName b n ok m) where
    pub bind_full : ok ≡ false → Answers b (λ o. bind_answer o t n) 4 b
    unfolding bind_answer
    bind_full e = answers_same b _ sound 4 (λ s. simp (lt-leb 4294967295 n h, sym (made.room s) ∙ e))

    module _ (e : ok ≡ true) where
      after : (s : List ℕ) → objects m s ≡ named (objects b s) n
      after s = made.state s ∙ ap (λ (x : Bool). cond x (named (objects b s) n) (objects b s)) e

      pub bind_array_law : Decodes targets t (Ok Target.Array)
          → Answers b (λ o. bind_answer o t n) 0 (record { slots = m.slots; next = m.next; array_buffer = n; element_buffer = m.element_buffer })
      unfolding bind_answer
      bind_array_law q =
          answers_done b _ sound _
          (λ s. ap (λ (o : Objects). answer 0 (bind_array o n)) (after s) ∙ simp (lt-leb 4294967295 n h, sym (made.room s) ∙ e, tests_of t (Ok Target.Array) q))
          (sound_with m made.sound _ n _ (omega arith) (made.bound e) made.sound.element_live) (filled_free made.slots)

      pub bind_element_law : Decodes targets t (Ok Target.Element)
          → Answers b (λ o. bind_answer o t n) 0 (record { slots = m.slots; next = m.next; array_buffer = m.array_buffer; element_buffer = n })
      unfolding bind_answer
      bind_element_law q =
          let tests = tests_of t (Ok Target.Element) q in
          answers_done b _ sound _
          (λ s. ap (λ (o : Objects). answer 0 (bind_element o n)) (after s) ∙ simp (lt-leb 4294967295 n h, sym (made.room s) ∙ e, tests.0, tests.1))
          (sound_with m made.sound _ _ n (omega arith) made.sound.array_live (made.bound e)) (filled_free made.slots)

      pub bind_other : (u : UnknownEnum) → Decodes targets t (Err u) → Answers b (λ o. bind_answer o t n) 0x0500 m
      unfolding bind_answer
      bind_other u g =
          answers_moved b _ sound 0x0500 m (λ s. ap (answer 0x0500) (after s) ∙ refused s) made.sound (filled_free made.slots)
          (λ p s q. made.stays s (ap (λ (a : Answer Objects). a.after) (refused s) ∙ q))
        where
          refused : (s : List ℕ) → answer 0x0500 (named (objects b s) n) ≡ bind_answer (objects b s) t n
          refused s = simp (lt-leb 4294967295 n h, sym (made.room s) ∙ e, (tests_of t (Err u) g).0, (tests_of t (Err u) g).1)
