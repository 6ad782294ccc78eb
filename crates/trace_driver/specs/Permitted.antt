-- Which records may come in a state (TRACE.md: "Input", "Settings", "Outer stacks, unsound contexts, state", "Output").
use Rattle.std.specs.Prelude.{Bool, true, false, not, ◌&&◌, ◌||◌, List, [], ◌∷◌, ℕ, ◌+◌, ◌-◌, ◌*◌, eqb, ltb, leb}
use Rattle.number.specs.Tables.{Row, ◌names◌, row_or}
use Rattle.buffers.specs.Objects.{store_bytes}
use Rattle.buffers.specs.ObjectsCode.{live_in}
use Rattle.buffers.specs.declared.Slot.{Slot}
use Rattle.vertex.specs.Index.{range_count, index_width}
use Rattle.context.specs.declared.Context.{Context}
use Rattle.list_words.specs.Words.{word_at}
use Rattle.trace_format.specs.Trace.{max_entries}
use Rattle.trace_driver.specs.declared.Borrowed.{Borrowed}

-- a buffer lives
abbrev pub any_live : List Slot → Bool
any_live slots = ltb 0 (live_in slots)

-- ---- "While S is not 65,536 only BUFFER_DATA, BUFFER_SUB_DATA and draws are made"

-- records that make a call: of those on stacks outside the context STACK_PUSH and STACK_POP, and all from 10 to 6f
unfoldable pub is_call : ℕ → Bool
is_call code = eqb code 0x71 || (eqb code 0x72 || (leb 0x10 code && ltb code 0x70))

abbrev pub store_calls : List (Row Bool)
store_calls =
    0x23 names true
    ∷ 0x24 names true
    ∷ 0x60 names true
    ∷ 0x61 names true
    ∷ 0x62 names true
    ∷ []

unfoldable pub code_borrows_store : ℕ → Bool
code_borrows_store code = row_or store_calls code false

unfoldable pub is_made : ℕ → ℕ → Bool
is_made store code = eqb store store_bytes || (not (is_call code) || code_borrows_store code)

-- ---- the bounds that a state decides

-- guest bytes of a number can be read at an address, as `in_guest` of crate fetch has it of the bytes (`readable_is`)
abbrev pub is_readable : ℕ → ℕ → ℕ → ℕ → Bool
is_readable base size address len = leb base address && leb ((address - base) + len) size

-- so many indices of a type can be read in guest memory: no element buffer is bound. A buffer holds fewer than the bound (`few_in_a_buffer`)
unfoldable pub can_be_read : Borrowed → ℕ → ℕ → ℕ → ℕ → Bool
can_be_read v element count ty pointer =
    not (eqb (index_width ty) 0) && (eqb element 0 && is_readable v.base v.guest pointer (count * index_width ty))

-- "DRAW_ARRAYS gives min(first+count, 2^32-1)-first <= 16,384 unless the vertex array is disabled"
abbrev pub is_short : Bool → ℕ → ℕ → Bool
is_short enabled first count = not enabled || leb (range_count first count) max_entries

-- "a DRAW_GUEST whose index range can be read has a count <= 16,384"
abbrev pub is_few : Borrowed → ℕ → ℕ → ℕ → ℕ → Bool
is_few v element count ty pointer = not (can_be_read v element count ty pointer) || leb count max_entries

-- STORE_FILL and STORE_BYTES only while no buffer lives; a live name exists when UNSOUND comes
abbrev pub state_rows : Bool → Bool → ℕ → Borrowed → List ℕ → List (Row Bool)
state_rows live enabled element v w =
    0x03 names not live
    ∷ 0x04 names not live
    ∷ 0x61 names is_short enabled (word_at w 3) (word_at w 4)
    ∷ 0x62 names is_few v element (word_at w 3) (word_at w 4) (word_at w 5)
    ∷ 0x7e names live
    ∷ []

unfoldable pub suits : Bool → Bool → ℕ → Borrowed → ℕ → List ℕ → Bool
suits live enabled element v code w = row_or (state_rows live enabled element v w) code true

-- w: a record's words
abbrev pub is_permitted : Context → Borrowed → ℕ → List ℕ → Bool
is_permitted c v code w =
    is_made v.store code && suits (any_live c.buffers.slots) c.arrays.vertex.enabled c.buffers.element_buffer v code w
