-- The four ways to make a name live.
use Prim.Native.Nat.{ℕ, ◌+◌, ◌<◌, ◌≤◌, max}
use mathlib.Core.Bool.{true, false}
use mathlib.Core.List.{List}
use mathlib.Core.Path.{◌≡◌, refl, sym, ap, ◌∙◌, fun_ext}
use mathlib.Core.Logic.{inl, inr}
use native.Mathlib.Omega.{arith}
use lib.ListN.{length, set}
use borrow.Author.Tests.{lt-ltb, eq-eqb, ne_eqb}
use Rattle.buffers.specs.Objects.{Objects, objects, absent, name_at, slot_of, contents_of, live_names, named, Bindable, Sound}
use Rattle.buffers.specs.ObjectsCode.{MakesName}
use Rattle.buffers.specs.declared.Buffers.{Buffers}
use Rattle.buffers.proofs.Bounds.{never}
use Rattle.buffers.proofs.Slots.{slot, Unknown, slot_found, slot_unknown, contents_none, contents_some, contents_put, live_here, bindable_set}
use Rattle.buffers.proofs.Slots.{sound_with, sound_set, live_room, live_full}
use Rattle.buffers.proofs.Free.{filled_same, filled_set}
use Rattle.buffers.proofs.Laws.{live_law}

-- a name that is made was absent and is live
unlike : (b : Buffers) (n : ℕ) → (n ≡ 0 → ⊥) → Unknown b.slots n → (s : List ℕ) → named (objects b s) n ≡ objects b s → ⊥
unfolding named
unlike b n z unknown s q =
    never (absent (contents_of b.slots s n)) (simp (contents_none b.slots s n unknown))
    (sym (ap (λ (o : Objects). absent (o.contents n)) q) ∙ simp (ne_eqb n 0 z, contents_none b.slots s n unknown, eq-eqb n n refl))

module _ (b : Buffers) (sound : Sound b) (n : ℕ) where
  pub made_zero : n ≡ 0 → MakesName b n true b
  unfolding named
  made_zero e =
      record {
        room = λ s. simp (eq-eqb n 0 e);
        state = λ s. simp (eq-eqb n 0 e);
        sound = sound;
        bound = λ h. inl e;
        slots = filled_same;
        stays = λ s q. refl;
        full = λ q. refl;
      }

  module _ (z : n ≡ 0 → ⊥) (k : ℕ) (found : k ≡ slot_of b.slots n) where
    pub made_live : (next : ℕ) → k < 16 → next ≡ max b.next (n + 1)
        → MakesName b n true (record { slots = b.slots; next = next; array_buffer = b.array_buffer; element_buffer = b.element_buffer })
    unfolding named
    made_live next h lifted =
        let pos : 0 < n = omega (arith, z) in
        let within : slot_of b.slots n < 16 = omega arith in
        record {
          room = λ s. simp (ne_eqb n 0 z, contents_some b.slots s n pos within);
          state = λ s. simp (ne_eqb n 0 z, contents_some b.slots s n pos within, lifted);
          sound = sound_with b sound next _ _ (omega arith) sound.array_live sound.element_live;
          bound = λ q. inr (record { slot = slot_of b.slots n; within = within; holds = slot_found b.slots n within; nonzero = pos });
          slots = filled_same;
          stays = λ s q i. record {
            slots = b.slots;
            next = (lifted ∙ below) i;
            array_buffer = b.array_buffer;
            element_buffer = b.element_buffer;
          };
          full = λ q. never true refl q;
        }
      where
        below : max b.next (n + 1) ≡ b.next
        below =
            let within : slot_of b.slots n < 16 = omega arith in
            omega (arith, slot_found b.slots n within, sound.below (slot_of b.slots n) within)

    module _ (new : 16 ≤ k) (f : ℕ) (first-free : f ≡ slot_of b.slots 0) where
      pub made_full : 16 ≤ f → MakesName b n false b
      made_full h =
          record {
            room = λ s. simp (ne_eqb n 0 z, contents_none b.slots s n (slot_unknown b.slots n (omega arith)), sym (live_law b sound s) ∙ live_full b.slots (omega arith));
            state = λ s. refl;
            sound = sound;
            bound = λ q. never false q refl;
            slots = filled_same;
            stays = λ s q. refl;
            full = λ q. refl;
          }

      pub made_new : length b.slots ≡ 16 → (next : ℕ) → f < 16 → next ≡ max b.next (n + 1)
          → MakesName b n true (record { slots = set b.slots f (slot n 0); next = next; array_buffer = b.array_buffer; element_buffer = b.element_buffer })
      unfolding named
      made_new sized next h lifted =
          let pos : 0 < n = omega (arith, z) in
          let unknown = slot_unknown b.slots n (omega arith) in
          let within : slot_of b.slots 0 < 16 = omega arith in
          let empty : name_at b.slots f ≡ 0 = ap (name_at b.slots) first-free ∙ slot_found b.slots 0 within in
          let still : (a : ℕ) → Bindable b.slots a → Bindable (set b.slots f (slot n 0)) a
          = λ a. bindable_set b.slots f (slot n 0) sized h a (λ p q. absurd (omega (arith, empty, q, p))) in
          record {
            room = λ s. simp
                (ne_eqb n 0 z, contents_none b.slots s n unknown, lt-ltb (live_names (objects b s)) 16 (omega (arith, live_law b sound s, live_room b.slots within)));
            state = λ s.
                (λ i. record {
                  next = next;
                  contents = fun_ext (contents_put b.slots f (slot n 0) sized h sound.once (λ j l q p. unknown j l) s s (λ j l q p. refl) pos (inr empty)) i;
                  array = b.array_buffer;
                  element = b.element_buffer;
                })
                ∙ simp (ne_eqb n 0 z, contents_none b.slots s n unknown, lifted);
            sound = sound_set b sound f (slot n 0) sized h (λ j l q p. unknown j l) (omega arith) next _ _ (omega arith) (omega arith)
                (still b.array_buffer sound.array_live) (still b.element_buffer sound.element_live);
            bound = λ q. inr (live_here b.slots f (slot n 0) sized h pos);
            slots = filled_set b.slots f (slot n 0) sized h pos;
            stays = λ s q. absurd (unlike b n z unknown s q);
            full = λ q. never true refl q;
          }
