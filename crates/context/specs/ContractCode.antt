-- For the code: what contracts of inner functions of crate context say. Nothing here is needed to read what an entry promises.
use Rattle.std.specs.Prelude.{List, ◌≡◌, ℕ, ◌<◌, Float, Result, Ok, Err}
use Rattle.refusal.specs.declared.Refusal.{Refusal}
use Rattle.refusal.specs.Refusals.{refusal_number}
use Rattle.matrix.specs.Matrix.{product}
use Rattle.stack.specs.Stack as stack
use Rattle.stack.specs.declared.Matrix.{Matrix}
use Rattle.stack.specs.declared.MatrixStack.{MatrixStack}
use Rattle.arrays.specs.Arrays.{unit_count}
use Rattle.arrays.specs.declared.Arrays.{Arrays}
use Rattle.arrays.specs.declared.Attributes.{Attributes}
use Rattle.pipeline.specs.declared.Pipeline.{Pipeline}
use Rattle.vertex.specs.declared.DrawInputs.{DrawInputs}
use Rattle.context.specs.declared.MatrixMode.{MatrixMode}
use Rattle.context.specs.declared.Stacks.{Stacks}
use Rattle.context.specs.declared.Context.{Context}
use Rattle.context.specs.declared.Currents.{Currents}
use Rattle.context.specs.declared.Reply.{Reply}
use Rattle.context.specs.State.{stack_at, Sound}
use Rattle.context.specs.Contract.{noted}

-- a sound context but for its buffers
pub record SoundApart (c : Context) : Type 0 where
  pub stacks : (m : MatrixMode) → stack.Sound (stack_at m c.stacks)
  pub client_unit_in : c.arrays.client_active_texture < unit_count
  pub active_unit_in : c.pipeline.active_texture < unit_count

-- ---- one part of a context replaced

abbrev pub put_mode : MatrixMode → Context → Context
put_mode m c = record { mode = m; stacks = c.stacks; buffers = c.buffers; arrays = c.arrays; attributes = c.attributes; pipeline = c.pipeline; error = c.error }

abbrev pub put_stacks : Stacks → Context → Context
put_stacks t c = record { mode = c.mode; stacks = t; buffers = c.buffers; arrays = c.arrays; attributes = c.attributes; pipeline = c.pipeline; error = c.error }

abbrev pub put_arrays : Arrays → Context → Context
put_arrays a c = record { mode = c.mode; stacks = c.stacks; buffers = c.buffers; arrays = a; attributes = c.attributes; pipeline = c.pipeline; error = c.error }

abbrev pub put_attributes : Attributes → Context → Context
put_attributes a c = record { mode = c.mode; stacks = c.stacks; buffers = c.buffers; arrays = c.arrays; attributes = a; pipeline = c.pipeline; error = c.error }

abbrev pub put_pipeline : Pipeline → Context → Context
put_pipeline p c = record { mode = c.mode; stacks = c.stacks; buffers = c.buffers; arrays = c.arrays; attributes = c.attributes; pipeline = p; error = c.error }

-- ---- replies, and the current matrices

abbrev pub reply : ℕ → Context → Reply
reply n c = record { number = n; context = c }

-- the current matrices alone: that of a mode, one replaced, those of the stacks, and the stacks with all three replaced
abbrev pub current_at : MatrixMode → Currents → List Float
current_at MatrixMode.Modelview m = m.modelview.entries
current_at MatrixMode.Projection m = m.projection.entries
current_at MatrixMode.Texture m = m.texture.entries

abbrev pub put_current : MatrixMode → List Float → Currents → Currents
put_current MatrixMode.Modelview e m = record { modelview = record { entries = e }; projection = m.projection; texture = m.texture }
put_current MatrixMode.Projection e m = record { modelview = m.modelview; projection = record { entries = e }; texture = m.texture }
put_current MatrixMode.Texture e m = record { modelview = m.modelview; projection = m.projection; texture = record { entries = e } }

abbrev pub currents_of : Stacks → Currents
currents_of t = record { modelview = t.modelview.current; projection = t.projection.current; texture = t.texture.current }

abbrev pub with_current : Matrix → MatrixStack → MatrixStack
with_current m s = record { current = m; saved = s.saved; depth = s.depth }

abbrev pub put_currents : Currents → Stacks → Stacks
put_currents m t =
    record {
      modelview = with_current m.modelview t.modelview;
      projection = with_current m.projection t.projection;
      texture = with_current m.texture t.texture;
    }

-- with the matrix of the mode in force replaced, and multiplied on the right where no refusal stands in place of the factor
abbrev pub loaded : List Float → Context → Currents
loaded e c = put_current c.mode e (currents_of c.stacks)

abbrev pub multiplied : Result (List Float) Refusal → Context → Result Currents Refusal
multiplied (Ok m) c = Ok (loaded (product (current_at c.mode (currents_of c.stacks)) m) c)
multiplied (Err e) c = Err e

-- the reply of a sound context to a call that updates a matrix, by the matrices that the code has made for it
abbrev pub currents_reply : Result Currents Refusal → Context → Reply
currents_reply (Ok m) c = reply 0 (noted 0 (put_stacks (put_currents m c.stacks) c))
currents_reply (Err e) c = reply (refusal_number e) (noted (refusal_number e) c)

-- a sound context replies r, an unsound one 1
pub record Settled (c : Context) (r : Reply) (out : Reply) : Type 0 where
  pub sound : Sound c → out ≡ r
  pub unsound : (Sound c → ⊥) → out ≡ reply 1 c

-- what a draw's vertices are made from, in the code's record
abbrev pub inputs_for : Context → ℕ → ℕ → DrawInputs
inputs_for c base stages =
    record {
      transform = product c.stacks.projection.current.entries c.stacks.modelview.current.entries;
      modelview = c.stacks.modelview.current.entries;
      texture = c.stacks.texture.current.entries;
      buffers = c.buffers;
      arrays = c.arrays;
      attributes = c.attributes;
      base = base;
      stages = stages;
    }
