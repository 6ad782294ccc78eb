-- For the code: what contracts of inner functions of crate buffers say. Nothing here is needed to read what a call promises.
use Rattle.std.specs.Prelude.{ℕ, ◌<◌, ◌≤◌, Bool, true, false, cond, List, [], ◌∷◌, ◌⊎◌, ◌≡◌, get_or, ltb, Option, MatchOption}
use Rattle.number.specs.Tables.{Row, ◌names◌}
use Rattle.buffers.specs.Bounded.{count}
use Rattle.buffers.specs.Objects.{slot_count, slot_bytes, Objects, free_slot, name_at, len_at, slot_of, objects, Bindable, Sound, named, room_for}
use Rattle.buffers.specs.declared.Slot.{Slot}
use Rattle.buffers.specs.declared.Buffers.{Buffers}
use Rattle.buffers.specs.declared.Target.{Target}

-- how many slots are in use: as many as names live (`live_law` in proofs/Laws.antt)
unfoldable pub live_in : List Slot → ℕ
live_in slots = count slot_count (λ k. ltb 0 (name_at slots k))

-- the slot that was found for a name, none where no slot has it
abbrev pub FindsSlot : List Slot → ℕ → Option ℕ → Type 0
FindsSlot slots n r = MatchOption r (slot_of slots n ≡ slot_count) (λ k. (k < slot_count) × (slot_of slots n ≡ k))

-- the numbers of the targets
abbrev pub targets : List (Row Target)
targets = 0x8892 names Target.Array ∷ 0x8893 names Target.Element ∷ []

-- the name bound at a target
abbrev pub bound_to : Buffers → Target → ℕ
bound_to b Target.Array = b.array_buffer
bound_to b Target.Element = b.element_buffer

-- the slot of the buffer bound at a target, none where none is bound
abbrev pub FindsBound : Buffers → Target → Option ℕ → Type 0
FindsBound b t r =
    MatchOption r (bound_to b t ≡ 0) (λ k. (k < slot_count) × (0 < bound_to b t) × (slot_of b.slots (bound_to b t) ≡ k))

-- a slot is free, or within the limits
pub record SlotFits (slot : Slot) (next : ℕ) : Type 0 where
  pub small : 0 < slot.name → slot.len ≤ slot_bytes
  pub below : slot.name < next

-- slot k is free, or within the limits and the first with its name
pub record SlotSound (b : Buffers) (k : ℕ) : Type 0 where
  pub small : 0 < name_at b.slots k → len_at b.slots k ≤ slot_bytes
  pub below : name_at b.slots k < b.next
  pub first : 0 < name_at b.slots k → slot_of b.slots (name_at b.slots k) ≡ k

-- slots of which some were freed: each is as it was, or was in use and is free with length 0
abbrev pub FreedAt : List Slot → List Slot → ℕ → Type 0
FreedAt before after k = (get_or after k free_slot ≡ get_or before k free_slot) ⊎ ((0 < name_at before k) × (get_or after k free_slot ≡ free_slot))

pub record Freed (before after : List Slot) : Type 0 where
  pub each : (k : ℕ) → k < slot_count → FreedAt before after k

-- slots of which some were filled: each that is free is as it was
pub record Filled (before after : List Slot) : Type 0 where
  pub each : (k : ℕ) → k < slot_count → name_at after k ≡ 0 → get_or after k free_slot ≡ get_or before k free_slot

-- what a step of delete does to the objects over any store, and to the slots: each stays, or is freed
pub record Steps (b : Buffers) (rule : Objects → Objects) (r : Buffers) : Type 0 where
  pub state : (s : List ℕ) → objects r s ≡ rule (objects b s)
  pub sound : Sound r
  pub slots : Freed b.slots r.slots

-- a name made live, or no room for it; where it changes no object, or there is no room, it changes nothing
pub record MakesName (b : Buffers) (n : ℕ) (ok : Bool) (r : Buffers) : Type 0 where
  pub room : (s : List ℕ) → ok ≡ room_for (objects b s) n
  pub state : (s : List ℕ) → objects r s ≡ cond ok (named (objects b s) n) (objects b s)
  pub sound : Sound r
  pub bound : ok ≡ true → Bindable r.slots n
  pub slots : Filled b.slots r.slots
  pub stays : (s : List ℕ) → named (objects b s) n ≡ objects b s → r ≡ b
  pub full : ok ≡ false → r ≡ b
