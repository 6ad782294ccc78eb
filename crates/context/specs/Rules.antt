-- What each call answers and makes of the state of a sound context (01, whole; the draw rules are crate draw's).
use Rattle.std.specs.Prelude.{Bool, true, false, not, cond, ◌&&◌, List, [], ◌∷◌, ℕ, eqb, leb, length}
use Rattle.std.proofs.Math.Option.{Option, some, none, get_or}
use Rattle.number.specs.Tables.{Row, ◌names◌, lookup}
use Rattle.stack.specs.Stack.{StackState, stack_number, stack_step}
use Rattle.refusal.specs.Refusals.{Answer}
use Rattle.buffers.specs.Objects as objects
use Rattle.arrays.specs.Arrays.{array_step}
use Rattle.arrays.specs.Attributes.{attribute_step}
use Rattle.arrays.specs.declared.Attributes.{Attributes}
use Rattle.pipeline.specs.Pipeline.{pipeline_step}
use Rattle.pipeline.specs.declared.Pipeline.{Pipeline}
use Rattle.vertex.specs.Scene.{DrawState, DrawCall}
use Rattle.draw.specs.Draw.{Drawing, draw_of}
use Rattle.context.specs.declared.MatrixMode.{MatrixMode}
use Rattle.context.specs.State.{ObjectState, State}
use Rattle.context.specs.Calls.{BufferCall, gen_buffers, bind_buffer, delete_buffers, buffer_data, buffer_sub_data, ObjectCall, buffer, array, Call, matrix, mode}
use Rattle.context.specs.Calls.{object, attribute, pipeline, take_error, draw}

-- ---- one part of the state replaced

abbrev pub with_mode : MatrixMode → State → State
with_mode m s = record { mode = m; stacks = s.stacks; objects = s.objects; attributes = s.attributes; pipeline = s.pipeline; error = s.error }

abbrev pub with_stacks : (MatrixMode → StackState) → State → State
with_stacks t s = record { mode = s.mode; stacks = t; objects = s.objects; attributes = s.attributes; pipeline = s.pipeline; error = s.error }

abbrev pub with_objects : ObjectState → State → State
with_objects o s = record { mode = s.mode; stacks = s.stacks; objects = o; attributes = s.attributes; pipeline = s.pipeline; error = s.error }

abbrev pub with_attributes : Attributes → State → State
with_attributes a s = record { mode = s.mode; stacks = s.stacks; objects = s.objects; attributes = a; pipeline = s.pipeline; error = s.error }

abbrev pub with_pipeline : Pipeline → State → State
with_pipeline p s = record { mode = s.mode; stacks = s.stacks; objects = s.objects; attributes = s.attributes; pipeline = p; error = s.error }

abbrev pub with_error : ℕ → State → State
with_error e s = record { mode = s.mode; stacks = s.stacks; objects = s.objects; attributes = s.attributes; pipeline = s.pipeline; error = e }

-- ---- mode calls

abbrev pub matrix_modes : List (Row MatrixMode)
matrix_modes = 0x1700 names MatrixMode.Modelview ∷ 0x1701 names MatrixMode.Projection ∷ 0x1702 names MatrixMode.Texture ∷ []

-- the number of a mode
abbrev pub mode_code : MatrixMode → ℕ
mode_code MatrixMode.Modelview = 0x1700
mode_code MatrixMode.Projection = 0x1701
mode_code MatrixMode.Texture = 0x1702

-- an unknown enumerant is refused, and the mode in force stays
abbrev pub known_number : {A : Type 0} → Option A → ℕ
known_number (some a) = 0
known_number none = 0x0500

abbrev pub mode_after : ℕ → MatrixMode → MatrixMode
mode_after code m = get_or (lookup matrix_modes code) m

abbrev pub same_mode : MatrixMode → MatrixMode → Bool
same_mode MatrixMode.Modelview MatrixMode.Modelview = true
same_mode MatrixMode.Modelview MatrixMode.Projection = false
same_mode MatrixMode.Modelview MatrixMode.Texture = false
same_mode MatrixMode.Projection MatrixMode.Modelview = false
same_mode MatrixMode.Projection MatrixMode.Projection = true
same_mode MatrixMode.Projection MatrixMode.Texture = false
same_mode MatrixMode.Texture MatrixMode.Modelview = false
same_mode MatrixMode.Texture MatrixMode.Projection = false
same_mode MatrixMode.Texture MatrixMode.Texture = true

-- ---- buffer, pointer and client calls

abbrev pub buffer_answer : BufferCall → objects.Objects → Answer objects.Objects
buffer_answer (gen_buffers n) o = objects.gen_answer o n
buffer_answer (bind_buffer target name) o = objects.bind_answer o target name
buffer_answer (delete_buffers ns) o = objects.delete_answer o ns
-- the usage word is not kept
buffer_answer (buffer_data target size bytes usage) o = objects.data_answer o target size bytes
buffer_answer (buffer_sub_data target offset bytes) o = objects.sub_data_answer o target offset bytes

-- whether a call makes a name although its target is refused: bind of a name that is neither 0 nor live
abbrev pub makes_name : BufferCall → objects.Objects → Bool
makes_name (gen_buffers n) o = false
makes_name (bind_buffer target name) o = not (eqb name 0) && objects.absent (o.contents name)
makes_name (delete_buffers ns) o = false
makes_name (buffer_data target size bytes usage) o = false
makes_name (buffer_sub_data target offset bytes) o = false

abbrev pub object_number : ObjectCall → ObjectState → ℕ
object_number (buffer k) o = (buffer_answer k o.buffers).number
object_number (array k) o = (array_step k o.buffers.array o.arrays).number

-- a buffer call leaves the arrays alone: a deleted name stays in an array's buffer field
abbrev pub object_step : ObjectCall → ObjectState → ObjectState
object_step (buffer k) o = record { buffers = (buffer_answer k o.buffers).after; arrays = o.arrays }
object_step (array k) o = record { buffers = o.buffers; arrays = (array_step k o.buffers.array o.arrays).after }

-- ---- draws

-- what a draw reads of the state: the current matrices, the buffers, the arrays and the current values, and nothing else
abbrev pub draw_state : (MatrixMode → StackState) → ObjectState → Attributes → DrawState
draw_state stacks o a =
    record {
      modelview = (stacks MatrixMode.Modelview).current.entries;
      projection = (stacks MatrixMode.Projection).current.entries;
      texture = (stacks MatrixMode.Texture).current.entries;
      contents = o.buffers.contents;
      element = o.buffers.element;
      arrays = o.arrays;
      attributes = a;
    }

-- a draw's number and triangles, by the three stacks, the objects and the current values
abbrev pub drawing : (MatrixMode → StackState) → ObjectState → Attributes → DrawCall → Drawing
drawing stacks o a d = draw_of (draw_state stacks o a) d

-- ---- all calls

-- the number that a call answers, 0 for done
abbrev pub number_of : Call → State → ℕ
number_of (matrix k) s = stack_number k (length (s.stacks s.mode).saved)
number_of (mode code) s = known_number (lookup matrix_modes code)
number_of (object k) s = object_number k s.objects
number_of (attribute k) s = (attribute_step k s.attributes).number
number_of (pipeline k) s = (pipeline_step k s.pipeline).number
number_of take_error s = 0
number_of (draw d) s = (drawing s.stacks s.objects s.attributes d).number

-- what a call makes of the part that it touches: a matrix call touches the stack of the mode in force, take_error empties the error slot, a draw touches nothing
abbrev pub effect : Call → State → State
effect (matrix k) s = with_stacks (λ m. cond (same_mode m s.mode) (stack_step k (s.stacks m)) (s.stacks m)) s
effect (mode code) s = with_mode (mode_after code s.mode) s
effect (object k) s = with_objects (object_step k s.objects) s
effect (attribute k) s = with_attributes (attribute_step k s.attributes).after s
effect (pipeline k) s = with_pipeline (pipeline_step k s.pipeline).after s
effect take_error s = with_error 0 s
effect (draw d) s = s

-- the error slot after an answer: it keeps the first code, and only codes from 0x0500 enter it
abbrev pub slot_after : ℕ → ℕ → ℕ
slot_after number slot = cond (leb 0x0500 number && eqb slot 0) number slot

-- take_error's code: what the slot held, or 0 where the call is not valid
abbrev pub error_code : ℕ → ℕ → ℕ
error_code number slot = cond (eqb number 0) slot 0

-- the state after a call
abbrev pub step : Call → State → State
step call s = with_error (slot_after (number_of call s) (effect call s).error) (effect call s)
