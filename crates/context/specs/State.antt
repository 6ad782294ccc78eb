-- The state that the rules speak of (01: "Records", "Strands and fold"), the state that a context and its store stand for, and soundness.
use Rattle.std.specs.Prelude.{List, ◌≡◌, ℕ, ◌<◌}
use Rattle.stack.specs.Stack as stack
use Rattle.stack.specs.declared.MatrixStack.{MatrixStack}
use Rattle.buffers.specs.Objects as buffer
use Rattle.arrays.specs.Arrays.{unit_count, fresh_arrays}
use Rattle.arrays.specs.Attributes.{fresh_attributes}
use Rattle.arrays.specs.declared.Arrays.{Arrays}
use Rattle.arrays.specs.declared.Attributes.{Attributes}
use Rattle.pipeline.specs.Pipeline.{fresh_pipeline}
use Rattle.pipeline.specs.declared.Pipeline.{Pipeline}
use Rattle.context.specs.declared.MatrixMode.{MatrixMode}
use Rattle.context.specs.declared.Stacks.{Stacks}
use Rattle.context.specs.declared.Context.{Context}

-- ---- the state

-- next, the live names with their bytes, both bindings; the client unit and the seven arrays
pub record ObjectState : Type 0 where
  pub buffers : buffer.Objects
  pub arrays : Arrays

pub record State : Type 0 where
  pub mode : MatrixMode  -- the mode in force
  pub stacks : MatrixMode → stack.StackState
  pub objects : ObjectState
  pub attributes : Attributes
  pub pipeline : Pipeline
  pub error : ℕ  -- the error slot, 0 while it is empty

abbrev pub fresh_state : State
fresh_state =
    record {
      mode = MatrixMode.Modelview;
      stacks = λ m. stack.fresh_stack_state;
      objects = record { buffers = buffer.fresh_objects; arrays = fresh_arrays };
      attributes = fresh_attributes;
      pipeline = fresh_pipeline;
      error = 0;
    }

-- ---- the state of a context and its store

-- the stack of a mode
abbrev pub stack_at : MatrixMode → Stacks → MatrixStack
stack_at MatrixMode.Modelview t = t.modelview
stack_at MatrixMode.Projection t = t.projection
stack_at MatrixMode.Texture t = t.texture

-- Which slot holds a name, the store's bytes outside live buffers, and the places of a stack that save nothing do not show in it.
abbrev pub state_of : Context → List ℕ → State
state_of c s =
    record {
      mode = c.mode;
      stacks = λ m. stack.stack_state_of (stack_at m c.stacks);
      objects = record { buffers = buffer.objects c.buffers s; arrays = c.arrays };
      attributes = c.attributes;
      pipeline = c.pipeline;
      error = c.error;
    }

-- ---- soundness

-- At most the allowed matrices saved, sound buffers, units below 4.
pub record Sound (c : Context) : Type 0 where
  pub stacks : (m : MatrixMode) → stack.Sound (stack_at m c.stacks)
  pub buffers : buffer.Sound c.buffers
  pub client_unit_in : c.arrays.client_active_texture < unit_count
  pub active_unit_in : c.pipeline.active_texture < unit_count

-- What a fresh context promises: it is sound, it stands for the fresh state over any store, its stacks are fresh in every place, and no slot has a length.
pub record Fresh (c : Context) : Type 0 where
  pub sound : Sound c
  pub state : (s : List ℕ) → state_of c s ≡ fresh_state
  pub stacks : (m : MatrixMode) → stack_at m c.stacks ≡ stack.fresh_stack
  pub lengths : (k : ℕ) → k < buffer.slot_count → buffer.len_at c.buffers.slots k ≡ 0
