-- What the kinds of UNSOUND make of a context (TRACE.md: "Outer stacks, unsound contexts, state").
use Rattle.std.specs.Prelude.{cond, List, [], ◌∷◌, ◌≡◌, ℕ, ◌+◌, ◌<◌, ◌≤◌, eqb, ltb, set}
use Rattle.number.specs.Tables.{Row, ◌names◌, row_or}
use Rattle.stack.specs.Stack.{limit}
use Rattle.stack.specs.declared.MatrixStack.{MatrixStack}
use Rattle.buffers.specs.Objects.{slot_count, slot_bytes, name_at, Live}
use Rattle.buffers.specs.declared.Slot.{Slot}
use Rattle.buffers.specs.declared.Buffers.{Buffers}
use Rattle.arrays.specs.Arrays.{unit_count}
use Rattle.arrays.specs.declared.Arrays.{Arrays}
use Rattle.pipeline.specs.declared.Pipeline.{Pipeline}
use Rattle.context.specs.declared.MatrixMode.{MatrixMode}
use Rattle.context.specs.declared.Context.{Context}
use Rattle.context.specs.State.{stack_at}
use Rattle.context.specs.Contract.{put_stack, put_buffers}
use Rattle.context.specs.ContractCode.{put_stacks, put_arrays, put_pipeline}
use Rattle.buffers.specs.Live.{NextLive}

-- ---- stacks and units

-- the stack of a mode with 16 saved
abbrev pub deepened : MatrixStack → MatrixStack
deepened s = record { current = s.current; saved = s.saved; depth = limit + 1 }

abbrev pub deepen : MatrixMode → Context → Context
deepen m c = put_stacks (put_stack m (deepened (stack_at m c.stacks)) c.stacks) c

-- active unit 4, client unit 4
abbrev pub past_units : Pipeline → Pipeline
past_units p =
    record {
      active_texture = unit_count;
      units = p.units;
      depth = p.depth;
      alpha = p.alpha;
      blend = p.blend;
      cull = p.cull;
      front_face = p.front_face;
      fog = p.fog;
    }

abbrev pub past_client_units : Arrays → Arrays
past_client_units a = record { vertex = a.vertex; color = a.color; normal = a.normal; texcoord = a.texcoord; client_active_texture = unit_count }

-- ---- buffers

abbrev pub buffers_of : List Slot → ℕ → ℕ → ℕ → Buffers
buffers_of slots next array element = record { slots = slots; next = next; array_buffer = array; element_buffer = element }

abbrev pub slot : ℕ → ℕ → Slot
slot name len = record { name = name; len = len }

-- what slot k holds is replaced, where there is a slot k
unfoldable pub slot_replaced : ℕ → Slot → Buffers → Buffers
slot_replaced k s b = cond (ltb k slot_count) (buffers_of (set b.slots k s) b.next b.array_buffer b.element_buffer) b

-- a slot other than k
abbrev pub other_than : ℕ → ℕ
other_than k = cond (eqb k 0) 1 0

-- r is a live name and the greatest in the first n slots; 0 where none of them has one
pub record Greatest (slots : List Slot) (n r : ℕ) : Type 0 where
  pub bound : (k : ℕ) → k < n → name_at slots k ≤ r
  pub live : 0 < r → Live slots r

-- k: the slot of the least live name; last: the greatest live name.
-- 6: its length 4,097; 7: the name in two slots; 9: next 0; 10: next the greatest; 11: the array binding to next, which is not live while the buffers are sound
abbrev pub unsound_buffer_rows : ℕ → ℕ → Buffers → List (Row Buffers)
unsound_buffer_rows k last b =
    6 names slot_replaced k (slot (name_at b.slots k) (slot_bytes + 1)) b
    ∷ 7 names slot_replaced (other_than k) (slot (name_at b.slots k) 0) b
    ∷ 9 names buffers_of b.slots 0 b.array_buffer b.element_buffer
    ∷ 10 names buffers_of b.slots last b.array_buffer b.element_buffer
    ∷ 11 names buffers_of b.slots b.next b.next b.element_buffer
    ∷ []

-- a kind that no row has counts as 12: the element binding to next
unfoldable pub buffers_made : ℕ → ℕ → ℕ → Buffers → Buffers
buffers_made kind k last b = row_or (unsound_buffer_rows k last b) kind (buffers_of b.slots b.next b.array_buffer b.next)

pub record BuffersMade (b : Buffers) (kind : ℕ) (r : Buffers) : Type 0 where
  pub slot_of_least : ℕ
  pub least : NextLive b.slots 0 slot_count slot_of_least
  pub last : ℕ
  pub greatest : Greatest b.slots slot_count last
  pub result : r ≡ buffers_made kind slot_of_least last b

-- ---- the context

-- Kinds 1, 2, 3: the modelview, projection, texture stack with 16 saved; 4: active unit 4; 5: client unit 4
abbrev pub context_rows : Context → List (Row Context)
context_rows c =
    1 names deepen MatrixMode.Modelview c
    ∷ 2 names deepen MatrixMode.Projection c
    ∷ 3 names deepen MatrixMode.Texture c
    ∷ 4 names put_pipeline (past_units c.pipeline) c
    ∷ 5 names put_arrays (past_client_units c.arrays) c
    ∷ []

-- the others are on the buffers
unfoldable pub context_made : ℕ → Buffers → Context → Context
context_made kind b c = row_or (context_rows c) kind (put_buffers b c)

pub record ContextMade (c : Context) (kind : ℕ) (r : Context) : Type 0 where
  pub buffers : Buffers
  pub made : BuffersMade c.buffers kind buffers
  pub result : r ≡ context_made kind buffers c
