-- The calls, with all their arguments and borrowed data, in groups by the part of the state that they touch.
use Rattle.std.specs.Prelude.{Bool, true, false, List, ℕ}
use Rattle.stack.specs.Stack.{MatrixCall}
use Rattle.arrays.specs.Arrays.{ArrayCall}
use Rattle.arrays.specs.Attributes.{AttributeCall}
use Rattle.pipeline.specs.Pipeline.{PipelineCall}
use Rattle.vertex.specs.Scene.{DrawCall}

pub data BufferCall : Type 0 where
  gen_buffers : (n : ℕ) → BufferCall
  bind_buffer : (target name : ℕ) → BufferCall
  delete_buffers : (names : List ℕ) → BufferCall
  buffer_data : (target size : ℕ) (bytes : List ℕ) (usage : ℕ) → BufferCall
  buffer_sub_data : (target offset : ℕ) (bytes : List ℕ) → BufferCall

-- buffer, pointer, client state and client unit calls
pub data ObjectCall : Type 0 where
  buffer : BufferCall → ObjectCall
  array : ArrayCall → ObjectCall

pub data Call : Type 0 where
  matrix : MatrixCall → Call
  mode : (code : ℕ) → Call
  object : ObjectCall → Call
  attribute : AttributeCall → Call
  pipeline : PipelineCall → Call
  take_error : Call
  draw : DrawCall → Call

-- a property of buffer calls, false of all others
abbrev pub of_buffers : (BufferCall → Bool) → Call → Bool
of_buffers p (matrix k) = false
of_buffers p (mode code) = false
of_buffers p (object (buffer k)) = p k
of_buffers p (object (array k)) = false
of_buffers p (attribute k) = false
of_buffers p (pipeline k) = false
of_buffers p take_error = false
of_buffers p (draw d) = false

abbrev pub is_upload : BufferCall → Bool
is_upload (gen_buffers n) = false
is_upload (bind_buffer target name) = false
is_upload (delete_buffers names) = false
is_upload (buffer_data target size bytes usage) = true
is_upload (buffer_sub_data target offset bytes) = true

-- the calls that borrow the store
abbrev pub borrows_store : Call → Bool
borrows_store (matrix k) = false
borrows_store (mode code) = false
borrows_store (object (buffer k)) = is_upload k
borrows_store (object (array k)) = false
borrows_store (attribute k) = false
borrows_store (pipeline k) = false
borrows_store take_error = false
borrows_store (draw d) = true
