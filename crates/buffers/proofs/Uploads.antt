-- `buffer_data` and `buffer_sub_data`, case by case.
use Prim.Native.Nat.{ℕ, ◌+◌, ◌*◌, ◌<◌, ◌≤◌}
use mathlib.Core.Bool.{cond}
use mathlib.Core.List.{List}
use mathlib.Core.Option.{some}
use mathlib.Core.Path.{◌≡◌, refl, sym, ap, ◌∙◌, fun_ext}
use mathlib.Core.Logic.{inl, inr, ⊎_elim}
use native.Mathlib.Omega.{arith}
use lib.Dec.{eqb}
use lib.ListN.{length, get_or, take, drop, set, length-take, length-drop}
use lib.Seq.{set-get_or}
use borrow.Author.Tests.{lt-ltb, le-ltb, ne_eqb}
use Rattle.number.specs.Bytes.{overwrite}
use Rattle.refusal.specs.Refusals.{Answer, answer}
use Rattle.buffers.specs.Objects.{Objects, objects, AnswersIn, FreeSlots, Bindable, Sound, slot_of, name_at, len_at, free_slot, bytes_in_slot}
use Rattle.buffers.specs.Objects.{contents_of, with_bytes, padded}
use Rattle.buffers.specs.Objects.{bound_at, data_answer, sub_data_answer, bytes_of}
use Rattle.std.specs.Prelude.{Option, Some, None, Ok, Err}
use Rattle.refusal.specs.EnumerantsCode.{Decodes}
use Rattle.refusal.specs.declared.UnknownEnum.{UnknownEnum}
use Rattle.buffers.specs.declared.Target.{Target}
use Rattle.buffers.specs.ObjectsCode.{targets, bound_to, FindsSlot, FindsBound}
use Rattle.buffers.specs.declared.Slot.{Slot}
use Rattle.buffers.specs.declared.Buffers.{Buffers}
use Rattle.buffers.proofs.Bounds.{lt_or_ge}
use Rattle.buffers.proofs.Slots.{slot, slot_found, slot_unknown, contents_some, contents_put, bindable_set, sound_set}
use Rattle.buffers.proofs.Free.{free_same, filled_free, filled_set}
use Rattle.buffers.proofs.Targets.{target_is, no_target}
use Rattle.buffers.proofs.Bytes.{length_padded, length_overwrite, padded_all, apart, written, within}

module _ (b : Buffers) (s : List ℕ) (rule : Objects → Answer Objects) where
  module _ (sound : Sound b) (sized : length s ≡ 65536) where
    pub in_same : (number : ℕ) → answer number (objects b s) ≡ rule (objects b s) → AnswersIn b s rule number b s
    in_same number e = record { invalid = λ q. absurd (q sound sized); ruled = λ p q. e; kept = λ p. p; free = free_same; size = refl; stays = λ q. (refl, refl) }

    pub in_done : (r : Buffers) (s' : List ℕ) → length s' ≡ length s → answer 0 (objects r s') ≡ rule (objects b s) → Sound r
        → FreeSlots b.slots r.slots → AnswersIn b s rule 0 r s'
    in_done r s' len e k f = record { invalid = λ q. absurd (q sound sized); ruled = λ p q. e; kept = λ p. k; free = f; size = len; stays = λ q. absurd (q refl) }

-- the slot of the name bound at a target
pub bound_finds : (b : Buffers) → Sound b → (t : Target) (n : ℕ) → n ≡ bound_to b t → (n ≡ 0 → ⊥) → (r : Option ℕ) → FindsSlot b.slots n r → FindsBound b t r
bound_finds b sound t n e z (Some k) h = (h.0, omega (arith, e, z), ap (slot_of b.slots) (sym e) ∙ h.1)
bound_finds b sound t n e z None h = absurd (go t e)
  where
    has : (m : ℕ) → n ≡ m → Bindable b.slots m → ⊥
    has m q (inl o) = z (q ∙ o)
    has m q (inr l) = slot_unknown b.slots n (omega (arith, h)) l.slot l.within (l.holds ∙ sym q)

    go : (u : Target) → n ≡ bound_to b u → ⊥
    go Target.Array q = has _ q sound.array_live
    go Target.Element q = has _ q sound.element_live

module _ (b : Buffers) (s : List ℕ) (t : ℕ) (sound : Sound b) (sized : length s ≡ 65536) where
  module _ (e : UnknownEnum) (d : Decodes targets t (Err e)) where
    pub data_no_target : (size : ℕ) (bytes : List ℕ) → AnswersIn b s (λ o. data_answer o t size bytes) 0x0500 b s
    unfolding data_answer
    data_no_target size bytes = in_same b s _ sound sized 0x0500 (simp (no_target t e d).0)

    pub sub_no_target : (off : ℕ) (bytes : List ℕ) → AnswersIn b s (λ o. sub_data_answer o t off bytes) 0x0502 b s
    unfolding sub_data_answer
    sub_no_target off bytes = in_same b s _ sound sized 0x0502 (simp ((no_target t e d).1 (objects b s)))

  module _ (target : Target) (d : Decodes targets t (Ok target)) (none_bound : bound_to b target ≡ 0) where
    nothing : bound_at (objects b s) t ≡ 0
    nothing = (target_is t target d).1 b s ∙ none_bound

    pub data_unbound : (size : ℕ) (bytes : List ℕ) → AnswersIn b s (λ o. data_answer o t size bytes) 0x0502 b s
    unfolding data_answer
    data_unbound size bytes = in_same b s _ sound sized 0x0502 (simp ((target_is t target d).0, nothing))

    pub sub_unbound : (off : ℕ) (bytes : List ℕ) → AnswersIn b s (λ o. sub_data_answer o t off bytes) 0x0502 b s
    unfolding sub_data_answer
    sub_unbound off bytes = in_same b s _ sound sized 0x0502 (simp nothing)

-- a buffer is bound, and k is its slot
module _ (b : Buffers) (s : List ℕ) (t : ℕ) (sound : Sound b) (slots16 : length b.slots ≡ 16) (sized : length s ≡ 65536)
    (target : Target) (d : Decodes targets t (Ok target)) (k : ℕ) (has : FindsBound b target (Some k)) where
  abbrev n : ℕ
  n = bound_to b target

  bound : n ≡ bound_at (objects b s) t
  bound = sym ((target_is t target d).1 b s)

  z : n ≡ 0 → ⊥
  z q = omega (arith, has.1, q)

  found : k ≡ slot_of b.slots n
  found = sym has.2

  in_slots : k < 16
  in_slots = has.0

  pub data_large : (size : ℕ) (bytes : List ℕ) → 4096 < size → AnswersIn b s (λ o. data_answer o t size bytes) 6 b s
  unfolding data_answer
  data_large size bytes h = in_same b s _ sound sized 6 (simp ((target_is t target d).0, sym bound, ne_eqb n 0 z, lt-ltb 4096 size h))

  pub bound_name : name_at b.slots k ≡ n
  bound_name = ap (name_at b.slots) found ∙ slot_found b.slots n (omega (arith, found, has.0))

  -- no other slot has the name
  only : (j : ℕ) → j < 16 → (j ≡ k → ⊥) → 0 < name_at b.slots j → name_at b.slots j ≡ n → ⊥
  only j h q pos e = q (sound.once j k h in_slots pos (e ∙ sym bound_name))

  -- a part of the named slot's block is written: the name's bytes are replaced, and no other's
  objects_put : (x : Slot) → x.name ≡ n → (at : ℕ) (new : List ℕ) → 4096 * k ≤ at → at + length new ≤ 4096 * k + 4096
      → objects (record { slots = set b.slots k x; next = b.next; array_buffer = b.array_buffer; element_buffer = b.element_buffer }) (overwrite s at new)
      ≡ with_bytes (objects b s) n (take x.len (drop (4096 * k) (overwrite s at new)))
  objects_put x e at new lo hi =
      (λ i. record { next = b.next; contents = fun_ext holds i; array = b.array_buffer; element = b.element_buffer })
      ∙ ap (λ (m : ℕ). with_bytes (objects b s) m (take x.len (drop (4096 * k) (overwrite s at new)))) e
    where
      kept : (j : ℕ) → j < 16 → (j ≡ k → ⊥) → 0 < name_at b.slots j → bytes_in_slot b.slots (overwrite s at new) j ≡ bytes_in_slot b.slots s j
      kept j h q pos =
          let small = sound.small j h pos in
          apart s at new (omega (arith, in_slots)) (len_at b.slots j) (4096 * j) (omega arith)
          (⊎_elim (λ l. inl (omega arith)) (λ l. inr (omega (arith, q))) (lt_or_ge j k))

      holds : (m : ℕ) → contents_of (set b.slots k x) (overwrite s at new) m
          ≡ cond (eqb m x.name) (some (take x.len (drop (4096 * k) (overwrite s at new)))) (contents_of b.slots s m)
      holds m =
          contents_put b.slots k x slots16 in_slots sound.once (λ j h q p w. only j h q p (w ∙ e)) s (overwrite s at new) kept (omega (arith, z, e))
          (inl (bound_name ∙ sym e)) m

  pub data_done : (size : ℕ) (bytes : List ℕ) → size ≤ 4096
      → (m : ℕ) → m ≡ n → (s' : List ℕ) → s' ≡ overwrite s (4096 * k) (padded size bytes)
      → AnswersIn b s (λ o. data_answer o t size bytes) 0
      (record { slots = set b.slots k (slot m size); next = b.next; array_buffer = b.array_buffer; element_buffer = b.element_buffer }) s'
  unfolding data_answer
  data_done size bytes small m named s' wrote =
      rw (named, wrote)
      (in_done b s _ sound sized _ _ (length_overwrite s (4096 * k) (padded size bytes) fits)
      (ap (answer 0) (objects_put (slot n size) refl (4096 * k) (padded size bytes) (omega arith) (omega (arith, length_padded size bytes)) ∙ ap (with_bytes (objects b s) n) here)
      ∙ simp ((target_is t target d).0, sym bound, ne_eqb n 0 z, le-ltb 4096 size small))
      (sound_set b sound k (slot n size) slots16 in_slots only small b.next _ _ (omega arith) (omega (arith, bound_name, sound.below k in_slots))
      (still b.array_buffer sound.array_live) (still b.element_buffer sound.element_live))
      (filled_free (filled_set b.slots k (slot n size) slots16 in_slots (omega (arith, z)))))
    where
      fits : 4096 * k + length (padded size bytes) ≤ length s
      fits = omega (arith, in_slots, length_padded size bytes)

      here : take size (drop (4096 * k) (overwrite s (4096 * k) (padded size bytes))) ≡ padded size bytes
      here = rw (length_padded size bytes) at (written s (4096 * k) (padded size bytes) fits)

      still : (a : ℕ) → Bindable b.slots a → Bindable (set b.slots k (slot n size)) a
      still a = bindable_set b.slots k (slot n size) slots16 in_slots a (λ p q. q ∙ bound_name)

  -- the named slot's bytes
  slot_bytes_law : bytes_of (contents_of b.slots s n) ≡ bytes_in_slot b.slots s k
  slot_bytes_law = ap bytes_of (contents_some b.slots s n (omega (arith, z)) (omega (arith, in_slots))) ∙ ap (bytes_in_slot b.slots s) (sym found)

  pub slot_small : len_at b.slots k ≤ 4096
  slot_small = sound.small k in_slots (omega (arith, z, bound_name))

  module _ (off : ℕ) (bytes : List ℕ) (len : ℕ) (long : len ≡ len_at b.slots k) where
    length_named : length (bytes_of (contents_of b.slots s n)) ≡ len
    length_named = ap length slot_bytes_law ∙ simp (length-take, length-drop) (omega (arith, slot_small, in_slots, long))

    pub sub_short : len < off + length bytes → AnswersIn b s (λ o. sub_data_answer o t off bytes) 0x0501 b s
    unfolding sub_data_answer
    sub_short h = in_same b s _ sound sized 0x0501 (simp (sym bound, ne_eqb n 0 z, length_named, lt-ltb len (off + length bytes) h))

    pub sub_done : off + length bytes ≤ len → (s' : List ℕ) → s' ≡ overwrite s (4096 * k + off) (padded (length bytes) bytes)
        → AnswersIn b s (λ o. sub_data_answer o t off bytes) 0 b s'
    unfolding sub_data_answer
    sub_done h s' wrote =
        rw (wrote, padded_all)
        (in_done b s _ sound sized b _ (length_overwrite s (4096 * k + off) bytes (omega (arith, in_slots, slot_small)))
        (ap (answer 0) (replaced ∙ ap (with_bytes (objects b s) n) inside) ∙ simp (sym bound, ne_eqb n 0 z, length_named, le-ltb len (off + length bytes) h))
        sound free_same)
      where
        after : List ℕ
        after = overwrite s (4096 * k + off) bytes

        replaced : objects b after ≡ with_bytes (objects b s) n (take (len_at b.slots k) (drop (4096 * k) after))
        replaced =
            ap (λ (l : List Slot). objects (record { slots = l; next = b.next; array_buffer = b.array_buffer; element_buffer = b.element_buffer }) after)
            (sym (set-get_or b.slots k free_slot))
            ∙ objects_put (get_or b.slots k free_slot) bound_name (4096 * k + off) bytes (omega arith) (omega (arith, slot_small))

        inside : take (len_at b.slots k) (drop (4096 * k) after) ≡ overwrite (bytes_of (contents_of b.slots s n)) off bytes
        inside =
            within s (4096 * k) (len_at b.slots k) off bytes (omega (arith, slot_small, in_slots)) (omega arith)
            ∙ ap (λ (x : List ℕ). overwrite x off bytes) (sym slot_bytes_law)
