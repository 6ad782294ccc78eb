-- A call changes its own part of the context and the error slot, whether it is valid or not. Assumes nothing.
use mathlib.Core.Bool.{Bool, true, false, cond, true≢false}
use mathlib.Core.List.{List}
use mathlib.Core.Logic.{◌⊎◌, inl, inr, ⊎_elim}
use mathlib.Core.Path.{◌≡◌, refl, sym, ap, subst}
use Prim.Native.Nat.{ℕ, zero, suc, ◌<◌, ◌≤◌}
use native.Mathlib.Omega.{arith}
use borrow.Author.Tests.{lt-ltb, le-ltb}
use lib.Dec.{ltb, eqb}
use lib.ListN.{length}
use Rattle.stack.specs.Stack as stack
use Rattle.stack.specs.Stack.{limit, MatrixUpdate, update_number, update, push, pop, stack_answered, changed, stack_answer}
use Rattle.stack.specs.declared.MatrixStack.{MatrixStack}
use Rattle.buffers.specs.Objects as buffer
use Rattle.buffers.specs.Objects.{name_at, len_at, slot_of, slot_bytes, store_bytes, Bindable}
use Rattle.buffers.specs.ObjectsCode.{SlotSound}
use Rattle.buffers.specs.declared.Slot.{Slot}
use Rattle.buffers.specs.declared.Buffers.{Buffers}
use Rattle.buffers.proofs.Bounds.{lt_or_ge, same?}
use Rattle.buffers.proofs.Deciding.{slot_facts, sound_facts, bindable_found}
use Rattle.arrays.specs.Arrays.{unit_count}
use Rattle.context.specs.declared.MatrixMode.{MatrixMode}
use Rattle.context.specs.declared.Stacks.{Stacks}
use Rattle.context.specs.declared.Context.{Context}
use Rattle.context.specs.State.{stack_at, state_of, Sound}
use Rattle.context.specs.Calls.{buffer, array, borrows_store, Call, matrix, mode, object, attribute, pipeline, take_error, draw}
use Rattle.context.specs.Rules.{step}
use Rattle.context.specs.Contract.{put_stack, put_buffers, put_error, stacks_after, Valid, Follows, Did}
use Rattle.context.specs.ContractCode.{currents_of, with_current, put_currents, put_stacks, put_mode, put_arrays, put_attributes, put_pipeline}

-- ---- a call is valid or it is not

abbrev Decided : Type 0 → Type 0
Decided P = P ⊎ (P → ⊥)

decided_by : {P Q : Type 0} → (P → Q) → (Q → P) → Decided P → Decided Q
decided_by f g (inl p) = inl (f p)
decided_by f g (inr n) = inr (λ q. n (g q))

both : {P Q : Type 0} → Decided P → Decided Q → Decided (P × Q)
both (inl p) (inl q) = inl (p, q)
both (inl p) (inr n) = inr (λ x. n x.1)
both (inr n) q = inr (λ x. n x.0)

implied : {P Q : Type 0} → Decided P → Decided Q → Decided (P → Q)
implied (inl p) (inl q) = inl (λ x. q)
implied (inl p) (inr n) = inr (λ f. n (f p))
implied (inr n) q = inl (λ p. absurd (n p))

at_most : (a b : ℕ) → Decided (a ≤ b)
at_most a b = ⊎_elim (λ l. inr (λ h. absurd (omega arith))) (λ l. inl l) (lt_or_ge b a)

below : (a b : ℕ) → Decided (a < b)
below a b = ⊎_elim (λ l. inl l) (λ l. inr (λ h. absurd (omega arith))) (lt_or_ge a b)

is_true : (b : Bool) → Decided (b ≡ true)
is_true true = inl refl
is_true false = inr (λ e. true≢false (sym e))

all_below : {P : ℕ → Type 0} → ((k : ℕ) → Decided (P k)) → (n : ℕ) → Decided ((k : ℕ) → k < n → P k)
all_below d zero = inl (λ k h. absurd (omega arith))
all_below {P = P} d (suc n) = go (all_below d n) (d n)
  where
    go : Decided ((k : ℕ) → k < n → P k) → Decided (P n) → Decided ((k : ℕ) → k < suc n → P k)
    go (inl a) (inl p) = inl (λ k h. ⊎_elim (a k) (λ l. subst P (omega arith) p) (lt_or_ge k n))
    go (inl a) (inr m) = inr (λ f. m (f n (omega arith)))
    go (inr m) q = inr (λ f. m (λ k h. f k (omega arith)))

slot_decided : (b : Buffers) (k : ℕ) → Decided (SlotSound b k)
slot_decided b k =
    decided_by (λ x. record { small = x.0; below = x.1.0; first = x.1.1 }) (λ s. (s.small, (s.below, s.first)))
    (both (implied (below 0 (name_at b.slots k)) (at_most (len_at b.slots k) slot_bytes))
    (both (below (name_at b.slots k) b.next) (implied (below 0 (name_at b.slots k)) (same? (slot_of b.slots (name_at b.slots k)) k))))

bindable_decided : (slots : List Slot) (n : ℕ) → Decided (Bindable slots n)
bindable_decided slots n =
    ⊎_elim (λ e. inl (inl e))
    (λ z. let d = bindable_found slots n (slot_of slots n) refl z in ⊎_elim (λ l. inl (d.yes (lt-ltb _ _ l))) (λ l. inr (d.no (le-ltb _ _ l))) (lt_or_ge (slot_of slots n) 16))
    (same? n 0)

buffers_decided : (b : Buffers) → Decided (buffer.Sound b)
buffers_decided b =
    decided_by (λ x. sound_facts b x.0 x.1.0 x.1.1) (λ s. (slot_facts b s, (s.array_live, s.element_live)))
    (both (all_below (slot_decided b) 16) (both (bindable_decided b.slots b.array_buffer) (bindable_decided b.slots b.element_buffer)))

stack_decided : (s : MatrixStack) → Decided (stack.Sound s)
stack_decided s = decided_by (λ x. record { places = x.0; within = x.1 }) (λ h. (h.places, h.within)) (both (same? (length s.saved) limit) (at_most s.depth limit))

stacks_decided : (t : Stacks) → Decided ((m : MatrixMode) → stack.Sound (stack_at m t))
stacks_decided t =
    decided_by each (λ f. (f MatrixMode.Modelview, (f MatrixMode.Projection, f MatrixMode.Texture)))
    (both (stack_decided t.modelview) (both (stack_decided t.projection) (stack_decided t.texture)))
  where
    each : stack.Sound t.modelview × (stack.Sound t.projection × stack.Sound t.texture) → (m : MatrixMode) → stack.Sound (stack_at m t)
    each x MatrixMode.Modelview = x.0
    each x MatrixMode.Projection = x.1.0
    each x MatrixMode.Texture = x.1.1

sound_decided : (c : Context) → Decided (Sound c)
sound_decided c =
    decided_by (λ x. record { stacks = x.0; buffers = x.1.0; client_unit_in = x.1.1.0; active_unit_in = x.1.1.1 })
    (λ s. (s.stacks, (s.buffers, (s.client_unit_in, s.active_unit_in))))
    (both (stacks_decided c.stacks) (both (buffers_decided c.buffers) (both (below _ unit_count) (below _ unit_count))))

pub valid_decided : (k : Call) (c : Context) (s : List ℕ) → Decided (Valid k c s)
valid_decided k c s =
    decided_by (λ x. record { sound = x.0; store = x.1 }) (λ v. (v.sound, v.store))
    (both (sound_decided c) (implied (is_true (borrows_store k)) (same? (length s) store_bytes)))

-- ---- what it changes

-- the context c with the part that the call may change, and the error slot, as they are in c1
abbrev pub changed_in : Call → Context → Context → Context
changed_in (matrix (update u)) c c1 = put_error c1.error (put_stacks (put_currents (currents_of c1.stacks) c.stacks) c)
changed_in (matrix push) c c1 = put_error c1.error (put_stacks c1.stacks c)
changed_in (matrix pop) c c1 = put_error c1.error (put_stacks c1.stacks c)
changed_in (mode code) c c1 = put_error c1.error (put_mode c1.mode c)
changed_in (object (buffer k)) c c1 = put_error c1.error (put_buffers c1.buffers c)
changed_in (object (array k)) c c1 = put_error c1.error (put_arrays c1.arrays c)
changed_in (attribute k) c c1 = put_error c1.error (put_attributes c1.attributes c)
changed_in (pipeline k) c c1 = put_error c1.error (put_pipeline c1.pipeline c)
changed_in take_error c c1 = put_error c1.error c
changed_in (draw d) c c1 = put_error c1.error c

unchanged : (k : Call) (c : Context) → changed_in k c c ≡ c
unchanged (matrix (update u)) c = refl
unchanged (matrix push) c = refl
unchanged (matrix pop) c = refl
unchanged (mode code) c = refl
unchanged (object (buffer k)) c = refl
unchanged (object (array k)) c = refl
unchanged (attribute k) c = refl
unchanged (pipeline k) c = refl
unchanged take_error c = refl
unchanged (draw d) c = refl

-- an update changes the current matrix alone
update_current : (u : MatrixUpdate) (s : MatrixStack) → with_current (stack_answer (update u) s).after.current s ≡ (stack_answer (update u) s).after
unfolding stack_answer
update_current u s = go (ltb limit s.depth) (eqb (update_number u) 0)
  where
    go : (b d : Bool)
        → let a = cond b (stack_answered 1 s) (cond d (stack_answered 0 (changed (update u) s)) (stack_answered (update_number u) s)) in with_current a.after.current s ≡ a.after
    go true d = refl
    go false true = refl
    go false false = refl

update_currents : (u : MatrixUpdate) (m : MatrixMode) (t : Stacks) → let t1 = put_stack m (stack_answer (update u) (stack_at m t)).after t in put_currents (currents_of t1) t ≡ t1
update_currents u MatrixMode.Modelview t = ap (λ (x : MatrixStack). put_stack MatrixMode.Modelview x t) (update_current u t.modelview)
update_currents u MatrixMode.Projection t = ap (λ (x : MatrixStack). put_stack MatrixMode.Projection x t) (update_current u t.projection)
update_currents u MatrixMode.Texture t = ap (λ (x : MatrixStack). put_stack MatrixMode.Texture x t) (update_current u t.texture)

module _ {c c1 : Context} {n : ℕ} {s s1 : List ℕ} where
  -- all that the rule says of the parts
  ruled : (k : Call) → Follows k c s n c1 s1 → (b : Buffers) → b ≡ c1.buffers
      → let r = step k (state_of c s) in
      record { mode = r.mode; stacks = stacks_after k c; buffers = b; arrays = r.objects.arrays; attributes = r.attributes; pipeline = r.pipeline; error = c1.error } ≡ c1
  ruled k f b e =
      let p = sym f.state in
      λ i. record {
        mode = (p i).mode;
        stacks = sym f.stacks i;
        buffers = e i;
        arrays = (p i).objects.arrays;
        attributes = (p i).attributes;
        pipeline = (p i).pipeline;
        error = c1.error;
      }

  valid_changes : (k : Call) → Follows k c s n c1 s1 → changed_in k c c1 ≡ c1
  valid_changes (matrix (update u)) f =
      let q = subst (λ (x : Stacks). put_currents (currents_of x) c.stacks ≡ x) (sym f.stacks) (update_currents u c.mode c.stacks) in
      λ i. put_stacks (q i) (ruled (matrix (update u)) f c.buffers (sym (f.slots refl)) i)
  valid_changes (matrix push) f = λ i. put_stacks c1.stacks (ruled (matrix push) f c.buffers (sym (f.slots refl)) i)
  valid_changes (matrix pop) f = λ i. put_stacks c1.stacks (ruled (matrix pop) f c.buffers (sym (f.slots refl)) i)
  valid_changes (mode code) f = λ i. put_mode c1.mode (ruled (mode code) f c.buffers (sym (f.slots refl)) i)
  valid_changes (object (buffer k)) f = ruled (object (buffer k)) f c1.buffers refl
  valid_changes (object (array k)) f = λ i. put_arrays c1.arrays (ruled (object (array k)) f c.buffers (sym (f.slots refl)) i)
  valid_changes (attribute k) f = λ i. put_attributes c1.attributes (ruled (attribute k) f c.buffers (sym (f.slots refl)) i)
  valid_changes (pipeline k) f = λ i. put_pipeline c1.pipeline (ruled (pipeline k) f c.buffers (sym (f.slots refl)) i)
  valid_changes take_error f = ruled take_error f c.buffers (sym (f.slots refl))
  valid_changes (draw d) f = ruled (draw d) f c.buffers (sym (f.slots refl))

  pub changes_part : {k : Call} → Did k c s n c1 s1 → changed_in k c c1 ≡ c1
  changes_part {k = k} d =
      ⊎_elim (λ v. valid_changes k (d.follows v)) (λ i. subst (λ (x : Context). changed_in k c x ≡ x) (sym (d.invalid i).1) (unchanged k c)) (valid_decided k c s)
