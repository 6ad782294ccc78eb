-- Laws of the slots: where a name is found, what it holds, and what replacing a slot does to that.
use Prim.Native.Nat.{ℕ, ◌*◌, ◌<◌, ◌≤◌}
use mathlib.Core.Bool.{Bool, true, false, cond}
use mathlib.Core.List.{List}
use mathlib.Core.Option.{some, none}
use mathlib.Core.Path.{◌≡◌, refl, sym, ap, ◌∙◌}
use mathlib.Core.Logic.{◌⊎◌, inl, inr, ⊎_elim}
use native.Mathlib.Omega.{arith}
use lib.Dec.{eqb, ltb}
use lib.ListN.{length, get_or, take, drop, set}
use lib.Seq.{get_or-set_same, get_or-set_other}
use borrow.Author.Tests.{eqb-true, eqb-false, lt-ltb, le-ltb, eq-eqb, ne_eqb}
use Rattle.buffers.specs.Objects.{free_slot, name_at, slot_of, bytes_in_slot, contents_of, Live, Bindable, Sound}
use Rattle.std.specs.Prelude.{Option, Some, None, MatchOption}
use Rattle.std.specs.List.{AllWithin, HoldsAt}
use Rattle.buffers.specs.ObjectsCode.{live_in, FindsSlot}
use Rattle.buffers.specs.declared.Slot.{Slot}
use Rattle.buffers.specs.declared.Buffers.{Buffers}
use Rattle.buffers.proofs.Bounds.{same?, first_cases, first_is, first_none, count_le, count_short, count_full}
use Rattle.std.proofs.Common.{zero, suc, ◌+◌, add-one}
use Rattle.std.specs.List.{count_by}
use Rattle.std.proofs.lemmas.List.Sums.{count_by_more_yes, count_by_more_no}
use lib.Seq.{take-length}
use Rattle.buffers.specs.Bounded.{count}

abbrev pub slot : ℕ → ℕ → Slot
slot n l = record { name = n; len = l }

-- no slot has the name
abbrev pub Unknown : List Slot → ℕ → Type 0
Unknown slots n = (j : ℕ) → j < 16 → name_at slots j ≡ n → ⊥

-- no name stands twice
abbrev pub Once : List Slot → Type 0
Once slots = (j k : ℕ) → j < 16 → k < 16 → 0 < name_at slots j → name_at slots j ≡ name_at slots k → j ≡ k

-- no slot has the name; or slot_of is one that has it
pub slot_cases : (slots : List Slot) (n : ℕ) →
    ((slot_of slots n ≡ 16) × Unknown slots n) ⊎ ((slot_of slots n < 16) × (name_at slots (slot_of slots n) ≡ n))
unfolding slot_of
slot_cases slots n =
    ⊎_elim
    (λ f. inl (f.0, λ j l. eqb-false _ _ (f.1 j l)))
    (λ s. inr (s.below, eqb-true _ _ s.passes))
    (first_cases 16 (λ k. eqb (name_at slots k) n))

pub slot_unknown : (slots : List Slot) (n : ℕ) → 16 ≤ slot_of slots n → Unknown slots n
slot_unknown slots n h = ⊎_elim (λ f. f.1) (λ f. absurd (omega arith)) (slot_cases slots n)

pub slot_found : (slots : List Slot) (n : ℕ) → slot_of slots n < 16 → name_at slots (slot_of slots n) ≡ n
slot_found slots n h = ⊎_elim (λ f. absurd (omega arith)) (λ f. f.1) (slot_cases slots n)

pub slot_is : (slots : List Slot) → Once slots → (n k : ℕ) → 0 < n → k < 16 → name_at slots k ≡ n → slot_of slots n ≡ k
slot_is slots once n k pos h e =
    ⊎_elim (λ f. absurd (f.1 k h e)) (λ f. once (slot_of slots n) k f.0 h (omega (arith, f.1)) (f.1 ∙ sym e)) (slot_cases slots n)

-- the first of the slots with the name, as `position` finds it
pub finds_slot : (slots : List Slot) (n : ℕ) → length slots ≡ 16 → (r : Option ℕ) → MatchOption r (AllWithin (λ x. x.name ≡ n → ⊥) slots 0 (length slots))
    (λ k. (k < length slots) × HoldsAt (λ x. x.name ≡ n) slots k × AllWithin (λ x. x.name ≡ n → ⊥) slots 0 k) → FindsSlot slots n r
unfolding slot_of
finds_slot slots n sized None h = first_none 16 _ (λ j l. ne_eqb _ _ (h j free_slot (omega arith) (omega arith)))
finds_slot slots n sized (Some k) h =
    let l : k < 16 = omega (arith, h.0) in
    (l, first_is 16 _ k l (eq-eqb _ _ (h.1 free_slot)) (λ j m. ne_eqb _ _ (h.2 j free_slot (omega arith) m)))

-- ---- what a name holds

pub contents_none : (slots : List Slot) (s : List ℕ) (n : ℕ) → Unknown slots n → contents_of slots s n ≡ none
unfolding contents_of
contents_none slots s n h = go (eqb n 0)
  where
    go : (t : Bool) → cond t none (cond (ltb (slot_of slots n) 16) (some (bytes_in_slot slots s (slot_of slots n))) none) ≡ none
    go true = refl
    go false = ⊎_elim (λ f. simp f.0) (λ f. absurd (h (slot_of slots n) f.0 f.1)) (slot_cases slots n)

pub contents_zero : (slots : List Slot) (s : List ℕ) (n : ℕ) → n ≡ 0 → contents_of slots s n ≡ none
unfolding contents_of
contents_zero slots s n z = simp (eq-eqb n 0 z)

pub contents_some : (slots : List Slot) (s : List ℕ) (n : ℕ) → 0 < n → slot_of slots n < 16 → contents_of slots s n ≡ some (bytes_in_slot slots s (slot_of slots n))
unfolding contents_of
contents_some slots s n pos h = simp (ne_eqb n 0 (omega arith), lt-ltb (slot_of slots n) 16 h)

pub contents_at : (slots : List Slot) → Once slots → (s : List ℕ) (n k : ℕ) → 0 < n → k < 16 → name_at slots k ≡ n → contents_of slots s n ≡ some (bytes_in_slot slots s k)
contents_at slots once s n k pos h e =
    let is = slot_is slots once n k pos h e in contents_some slots s n pos (omega arith) ∙ ap (λ (j : ℕ). some (bytes_in_slot slots s j)) is

-- ---- a slot replaced

module _ (slots : List Slot) (k : ℕ) (x : Slot) (sized : length slots ≡ 16) (within : k < 16) where
  -- a fact of each slot after it
  pub set_each : (P : Slot → Type 0) (j : ℕ) → (j ≡ k → P x) → ((j ≡ k → ⊥) → P (get_or slots j free_slot)) → P (get_or (set slots k x) j free_slot)
  set_each P j here there = go (same? j k)
    where
      go : (j ≡ k) ⊎ (j ≡ k → ⊥) → P (get_or (set slots k x) j free_slot)
      go (inl q) = rw (q, get_or-set_same slots k x free_slot (omega arith)) (here q)
      go (inr q) = rw (get_or-set_other slots k j x free_slot q) (there q)

  set_here : get_or (set slots k x) k free_slot ≡ x
  set_here = get_or-set_same slots k x free_slot (omega arith)

  pub live_here : 0 < x.name → Live (set slots k x) x.name
  live_here pos = record { slot = k; within = within; holds = ap (λ (y : Slot). y.name) set_here; nonzero = pos }

  -- a binding stays one, unless the name was the slot's
  pub bindable_set : (m : ℕ) → (0 < m → m ≡ name_at slots k → m ≡ x.name) → Bindable slots m → Bindable (set slots k x) m
  bindable_set m still (inl z) = inl z
  bindable_set m still (inr l) =
      inr (record {
        slot = l.slot;
        within = l.within;
        holds = set_each (λ y. y.name ≡ m) l.slot (λ q. sym (still l.nonzero (sym l.holds ∙ ap (name_at slots) q))) (λ q. l.holds);
        nonzero = l.nonzero;
      })

  module _ (once : Once slots) (alone : (j : ℕ) → j < 16 → (j ≡ k → ⊥) → 0 < name_at slots j → name_at slots j ≡ x.name → ⊥) where
    pub once_set : Once (set slots k x)
    once_set i j hi hj =
        set_each (λ y. 0 < y.name → y.name ≡ name_at (set slots k x) j → i ≡ j) i
        (λ qi pos. set_each (λ y. x.name ≡ y.name → i ≡ j) j (λ qj e. qi ∙ sym qj) (λ qj e. absurd (alone j hj qj (omega arith) (sym e))))
        (λ qi pos. set_each (λ y. name_at slots i ≡ y.name → i ≡ j) j (λ qj e. absurd (alone i hi qi pos e)) (λ qj e. once i j hi hj pos e))

    module _ (s s' : List ℕ) (kept : (j : ℕ) → j < 16 → (j ≡ k → ⊥) → 0 < name_at slots j → bytes_in_slot slots s' j ≡ bytes_in_slot slots s j) where
      -- a name that neither was nor is the slot's
      contents_other : (m : ℕ) → (m ≡ name_at slots k → ⊥) → (m ≡ x.name → ⊥) → contents_of (set slots k x) s' m ≡ contents_of slots s m
      contents_other m was is = ⊎_elim (λ z. contents_zero _ s' m z ∙ sym (contents_zero slots s m z)) (λ z. ⊎_elim unknown (found z) (slot_cases slots m)) (same? m 0)
        where
          unknown : (slot_of slots m ≡ 16) × Unknown slots m → contents_of (set slots k x) s' m ≡ contents_of slots s m
          unknown f = contents_none _ s' m (λ j h. set_each (λ y. y.name ≡ m → ⊥) j (λ q e. is (sym e)) (λ q. f.1 j h)) ∙ sym (contents_none slots s m f.1)

          found : (m ≡ 0 → ⊥) → (slot_of slots m < 16) × (name_at slots (slot_of slots m) ≡ m) → contents_of (set slots k x) s' m ≡ contents_of slots s m
          found z f =
              let j = slot_of slots m in
              let pos : 0 < m = omega (arith, z) in
              let away : j ≡ k → ⊥ = λ q. was (sym f.1 ∙ ap (name_at slots) q) in
              let same : get_or (set slots k x) j free_slot ≡ get_or slots j free_slot = get_or-set_other slots k j x free_slot away in
              contents_at _ once_set s' m j pos f.0 (ap (λ (y : Slot). y.name) same ∙ f.1)
              ∙ ap (λ (y : Slot). some (take y.len (drop (4096 * j) s'))) same
              ∙ ap some (kept j f.0 away (omega (arith, f.1)))
              ∙ sym (contents_some slots s m pos f.0)

      -- the slot holds a name that had it, or had none
      pub contents_put : 0 < x.name → (name_at slots k ≡ x.name) ⊎ (name_at slots k ≡ 0)
          → (m : ℕ) → contents_of (set slots k x) s' m ≡ cond (eqb m x.name) (some (take x.len (drop (4096 * k) s'))) (contents_of slots s m)
      contents_put pos was m = go (same? m x.name) (same? m 0)
        where
          go : (m ≡ x.name) ⊎ (m ≡ x.name → ⊥) → (m ≡ 0) ⊎ (m ≡ 0 → ⊥)
              → contents_of (set slots k x) s' m ≡ cond (eqb m x.name) (some (take x.len (drop (4096 * k) s'))) (contents_of slots s m)
          go (inl q) d =
              rw (eq-eqb m x.name q)
              (contents_at _ once_set s' m k (omega arith) within (ap (λ (y : Slot). y.name) set_here ∙ sym q)
              ∙ ap (λ (y : Slot). some (take y.len (drop (4096 * k) s'))) set_here)
          go (inr q) (inl z) = rw (ne_eqb m x.name q) (contents_zero _ s' m z ∙ sym (contents_zero slots s m z))
          go (inr q) (inr z) = rw (ne_eqb m x.name q) (contents_other m (λ e. ⊎_elim (λ w. q (e ∙ w)) (λ w. z (e ∙ w)) was) q)

      -- the slot is free after it
      pub contents_free : x.name ≡ 0 → (n : ℕ) → 0 < n → name_at slots k ≡ n → (m : ℕ) → contents_of (set slots k x) s' m ≡ cond (eqb m n) none (contents_of slots s m)
      contents_free free n pos old m = go (same? m n) (same? m 0)
        where
          gone : Unknown (set slots k x) n
          gone j h = set_each (λ y. y.name ≡ n → ⊥) j (λ q e. omega arith) (λ q e. q (once j k h within (omega arith) (e ∙ sym old)))

          go : (m ≡ n) ⊎ (m ≡ n → ⊥) → (m ≡ 0) ⊎ (m ≡ 0 → ⊥) → contents_of (set slots k x) s' m ≡ cond (eqb m n) none (contents_of slots s m)
          go (inl q) d = rw (eq-eqb m n q) (contents_none _ s' m (λ j h e. gone j h (e ∙ q)))
          go (inr q) (inl z) = rw (ne_eqb m n q) (contents_zero _ s' m z ∙ sym (contents_zero slots s m z))
          go (inr q) (inr z) = rw (ne_eqb m n q) (contents_other m (λ e. q (e ∙ old)) (λ e. z (e ∙ free)))

-- sound buffers stay so with next lifted and other bindings
pub sound_with : (b : Buffers) → Sound b → (next a e : ℕ) → b.next ≤ next → Bindable b.slots a → Bindable b.slots e
    → Sound (record { slots = b.slots; next = next; array_buffer = a; element_buffer = e })
sound_with b sound next a e more al el =
    record { small = sound.small; once = sound.once; started = omega (arith, sound.started); below = λ j h. omega (arith, sound.below j h); array_live = al; element_live = el }

-- and with a slot replaced
pub sound_set : (b : Buffers) (sound : Sound b) (k : ℕ) (x : Slot) → length b.slots ≡ 16 → k < 16
    → ((j : ℕ) → j < 16 → (j ≡ k → ⊥) → 0 < name_at b.slots j → name_at b.slots j ≡ x.name → ⊥)
    → x.len ≤ 4096 → (next a e : ℕ) → b.next ≤ next → x.name < next → Bindable (set b.slots k x) a → Bindable (set b.slots k x) e
    → Sound (record { slots = set b.slots k x; next = next; array_buffer = a; element_buffer = e })
sound_set b sound k x sized within alone small next a e more past al el =
    record {
      small = λ j h. set_each b.slots k x sized within (λ y. 0 < y.name → y.len ≤ 4096) j (λ q pos. small) (λ q. sound.small j h);
      once = once_set b.slots k x sized within sound.once alone;
      started = omega arith;
      below = λ j h. set_each b.slots k x sized within (λ y. y.name < next) j (λ q. past) (λ q. omega (arith, sound.below j h));
      array_live = al;
      element_live = el;
    }

-- ---- the count of live names

-- by the slots one by one
count_taken : (P : Slot → Bool) (xs : List Slot) (i : ℕ) → i ≤ length xs → count i (λ k. P (get_or xs k free_slot)) ≡ count_by P (take i xs)
unfolding count
count_taken P xs zero h = refl
count_taken P xs (suc i) h = go (P (get_or xs i free_slot)) refl (count_taken P xs i (omega arith))
  where
    go : (t : Bool) → P (get_or xs i free_slot) ≡ t → count i (λ k. P (get_or xs k free_slot)) ≡ count_by P (take i xs)
        → count i (λ k. P (get_or xs k free_slot)) + cond (P (get_or xs i free_slot)) 1 0 ≡ count_by P (take (suc i) xs)
    go true e q = rw (e, ← add-one i, count_by_more_yes P xs i free_slot (omega arith) e, q) refl
    go false e q = rw (e, ← add-one i, count_by_more_no P xs i free_slot (omega arith) e) (omega (arith, q))

pub live_by : (slots : List Slot) → length slots ≡ 16 → (n : ℕ) → n ≡ count_by (λ x. ltb 0 x.name) slots → (n ≡ live_in slots) × (n ≤ 16)
unfolding live_in
live_by slots sized n e =
    let all : take 16 slots ≡ slots = ap (λ k. take k slots) (sym sized) ∙ take-length slots in
    let q = e ∙ sym (count_taken (λ x. ltb 0 x.name) slots 16 (omega arith) ∙ ap (count_by (λ x. ltb 0 x.name)) all) in
    (q, omega (arith, q, count_le 16 (λ k. ltb 0 (name_at slots k))))

-- a slot is free exactly where fewer than 16 are in use
pub live_room : (slots : List Slot) → slot_of slots 0 < 16 → live_in slots < 16
unfolding live_in
live_room slots h = count_short 16 _ (slot_of slots 0) h (le-ltb 0 (name_at slots (slot_of slots 0)) (omega (arith, slot_found slots 0 h)))

pub live_full : (slots : List Slot) → 16 ≤ slot_of slots 0 → live_in slots ≡ 16
unfolding live_in
live_full slots h = count_full 16 _ (λ j l. lt-ltb 0 (name_at slots j) (omega (arith, slot_unknown slots 0 h j l)))
