-- The slot of the least live name. Assumes nothing.
use mathlib.Core.List.{List}
use Prim.Native.Nat.{ℕ}
use Rattle.std.specs.Prelude.{Option, Some, None}
use Rattle.std.specs.Option.{unwrap_or}
use Rattle.buffers.specs.Objects.{slot_count}
use Rattle.buffers.specs.Live.{NextLive, FindsNext}
use Rattle.buffers.specs.declared.Slot.{Slot}

-- slot_count where none lives
pub least_found : (slots : List Slot) (above : ℕ) (r : Option ℕ) → FindsNext slots above slot_count r → NextLive slots above slot_count (unwrap_or r slot_count)
least_found slots above None h = h
least_found slots above (Some k) h = h.1
