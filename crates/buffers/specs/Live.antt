-- The live buffers by rising names.
use Rattle.std.specs.Prelude.{List, ℕ, ◌<◌, ◌≤◌, Option, MatchOption}
use Rattle.buffers.specs.declared.Slot.{Slot}
use Rattle.buffers.specs.Objects.{slot_count, name_at}

-- of the first n slots, r is one with the least name above a number; slot_count where none has a name above it
pub record NextLive (slots : List Slot) (above n r : ℕ) : Type 0 where
  pub within : r ≤ slot_count
  pub found : r < slot_count → (r < n) × (above < name_at slots r)
  pub least : (k : ℕ) → k < n → above < name_at slots k → (r < slot_count) × (name_at slots r ≤ name_at slots k)

-- the same of a slot that was found, or none
abbrev pub FindsNext : List Slot → ℕ → ℕ → Option ℕ → Type 0
FindsNext slots above n r = MatchOption r (NextLive slots above n slot_count) (λ k. (k < slot_count) × NextLive slots above n k)
