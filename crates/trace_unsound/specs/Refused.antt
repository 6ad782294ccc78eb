-- The contexts that UNSOUND makes are unsound, of whatever kind and whatever they were before: a theorem.
use Rattle.std.specs.Prelude.{Bool, cond, List, [], ◌∷◌, ◌≡◌, ℕ, ◌+◌, ◌<◌, ◌≤◌, length, get_or, set}
use Rattle.std.proofs.Math.Bool.{true, false}
use Rattle.std.proofs.Common.{inl, inr, ⊎_elim, sym, ap, subst, ◌∙◌, arith, get_or-set_same, get_or-set_other}
use Rattle.std.proofs.Math.Path.{refl}
use borrow.Author.Tests.{lt-ltb, eqb-true, eqb-false}
use Rattle.std.proofs.Math.Dec.{eqb}
use Rattle.number.specs.Tables.{Row, ◌names◌, row_or}
use Rattle.buffers.specs.Objects as buffer
use Rattle.buffers.specs.Objects.{slot_count, slot_bytes, name_at, len_at, free_slot, Live, Bindable}
use Rattle.buffers.specs.declared.Slot.{Slot}
use Rattle.buffers.specs.declared.Buffers.{Buffers}
use Rattle.buffers.proofs.Bounds.{lt_or_ge}
use Rattle.context.specs.declared.Context.{Context}
use Rattle.context.specs.declared.MatrixMode.{MatrixMode}
use Rattle.context.specs.State.{Sound}
use Rattle.context.specs.Contract.{put_buffers}
use Rattle.trace_unsound.specs.Kinds.{deepen, slot, slot_replaced, other_than, buffers_of, Greatest, unsound_buffer_rows, buffers_made, BuffersMade}
use Rattle.trace_unsound.specs.Kinds.{context_rows, context_made, ContextMade}

-- ---- what holds of every row of a table, and of what stands for the rest, holds of what is looked up

abbrev Each : {A : Type 0} → (A → Type 0) → List (Row A) → Type 0
Each P [] = Unit {0}
Each P ((code names a) ∷ rows) = P a × Each P rows

each : {A : Type 0} (P : A → Type 0) (rows : List (Row A)) (n : ℕ) (other : A) → Each P rows → P other → P (row_or rows n other)
each P [] n other h o = o
each P ((code names a) ∷ rows) n other h o = go (eqb n code) refl (each P rows n other h.1 o)
  where
    go : (b : Bool) → eqb n code ≡ b → P (row_or rows n other) → P (row_or ((code names a) ∷ rows) n other)
    go true e r = rw e h.0
    go false e r = rw e r

-- ---- the buffers

abbrev Refused : Buffers → Type 0
Refused r = buffer.Sound r → ⊥

-- next is 0 or a live name
low_next : (r : Buffers) → Bindable r.slots r.next → Refused r
low_next r q h =
    ⊎_elim
    (λ (z : r.next ≡ 0). omega (arith, h.started, z))
    (λ (v : Live r.slots r.next). omega (arith, h.below v.slot v.within, v.holds))
    q

-- k is the slot of the least live name; `places` is true of all buffers that a program holds

module _ (b : Buffers) (places : length b.slots ≡ slot_count) (k last : ℕ)
    (lives : k < slot_count) (named : 0 < name_at b.slots k) (greatest : Greatest b.slots slot_count last) where
  abbrev stored : ℕ → Slot → Buffers
  stored j s = buffers_of (set b.slots j s) b.next b.array_buffer b.element_buffer

  -- what a slot holds where it was put
  put_there : (j : ℕ) (s : Slot) → j < slot_count → get_or (set b.slots j s) j free_slot ≡ s
  put_there j s l = get_or-set_same b.slots j s free_slot (omega arith)

  too_long : Refused (stored k (slot (name_at b.slots k) (slot_bytes + 1)))
  too_long h =
      let e = put_there k (slot (name_at b.slots k) (slot_bytes + 1)) lives in
      let n : name_at (set b.slots k (slot (name_at b.slots k) (slot_bytes + 1))) k ≡ name_at b.slots k = ap (λ (s : Slot). s.name) e in
      let l : len_at (set b.slots k (slot (name_at b.slots k) (slot_bytes + 1))) k ≡ slot_bytes + 1 = ap (λ (s : Slot). s.len) e in
      omega (arith, h.small k lives (omega arith), l)

  twice : (j : ℕ) → j < slot_count → (k ≡ j → ⊥) → Refused (stored j (slot (name_at b.slots k) 0))
  twice j l other h =
      let same : Slot = slot (name_at b.slots k) 0 in
      let e : name_at (set b.slots j same) j ≡ name_at b.slots k = ap (λ (s : Slot). s.name) (put_there j same l) in
      let f : name_at (set b.slots j same) k ≡ name_at b.slots k = ap (λ (s : Slot). s.name) (get_or-set_other b.slots j k same free_slot other) in
      other (h.once k j lives l (omega arith) (f ∙ sym e))

  in_two : Refused (slot_replaced (other_than k) (slot (name_at b.slots k) 0) b)
  unfolding slot_replaced
  in_two = go (eqb k 0) refl
    where
      go : (z : Bool) → eqb k 0 ≡ z → Refused (slot_replaced (cond z 1 0) (slot (name_at b.slots k) 0) b)
      go true e = twice 1 (omega arith) (λ q. omega (arith, eqb-true k 0 e))
      go false e = twice 0 (omega arith) (λ q. eqb-false k 0 e q)

  at_greatest : Refused (buffers_of b.slots last b.array_buffer b.element_buffer)
  at_greatest h = ⊎_elim (λ (l : 0 < last). low_next _ (inr (greatest.live l)) h) (λ (z : last ≤ 0). low_next _ (inl (omega arith)) h) (lt_or_ge 0 last)

  pub buffers_refused : (kind : ℕ) → Refused (buffers_made kind k last b)
  unfolding slot_replaced buffers_made
  buffers_refused kind =
      each Refused (unsound_buffer_rows k last b) kind (buffers_of b.slots b.next b.array_buffer b.next)
      (rw (lt-ltb k slot_count lives) too_long, (in_two, (low_next _ (inl refl), (at_greatest, ((λ h. low_next _ h.array_live h), tt)))))
      (λ h. low_next _ h.element_live h)

-- ---- the context, where a name lives (TRACE.md: "Only while a buffer lives")

pub never_sound : (c : Context) (kind name : ℕ) (r : Context) → length c.buffers.slots ≡ slot_count → Live c.buffers.slots name → ContextMade c kind r → Sound r → ⊥
unfolding context_made
never_sound c kind name r places v m =
    subst (λ (x : Context). Sound x → ⊥) (sym m.result)
    (each (λ (x : Context). Sound x → ⊥) (context_rows c) kind (put_buffers m.buffers c)
    (deep MatrixMode.Modelview, (deep MatrixMode.Projection, (deep MatrixMode.Texture, ((λ s. omega (arith, s.active_unit_in)), ((λ s. omega (arith, s.client_unit_in)), tt)))))
    (λ s. others m.made s.buffers))
  where
    deep : (mode : MatrixMode) → Sound (deepen mode c) → ⊥
    deep MatrixMode.Modelview s = omega (arith, (s.stacks MatrixMode.Modelview).within)
    deep MatrixMode.Projection s = omega (arith, (s.stacks MatrixMode.Projection).within)
    deep MatrixMode.Texture s = omega (arith, (s.stacks MatrixMode.Texture).within)

    others : {b : Buffers} → BuffersMade c.buffers kind b → Refused b
    others {b = b} made =
        let l = (made.least.least v.slot v.within (omega (arith, v.holds, v.nonzero))).0 in
        subst Refused (sym made.result) (buffers_refused c.buffers places made.slot_of_least made.last l (made.least.found l).1 made.greatest kind)
