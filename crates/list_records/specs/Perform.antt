-- What the function that makes the call of a record promises.
use Rattle.std.specs.Prelude.{Bool, true, false, List, ◌++◌, ◌≡◌, ℕ, ◌≤◌, length, take, drop, Float}
use Rattle.std.specs.Prelude.{Option as Maybe, Some, None}
use Rattle.std.proofs.Math.Option.{Option, some, none}
use Rattle.buffers.specs.Objects.{gen_first}
use Rattle.vertex.specs.Scene.{DrawCall}
use Rattle.context.specs.declared.Context.{Context}
use Rattle.context.specs.declared.DrawReply.{DrawReply}
use Rattle.context.specs.Calls.{BufferCall, gen_buffers, bind_buffer, delete_buffers, buffer_data, buffer_sub_data, buffer, array}
use Rattle.context.specs.Calls.{Call, matrix, mode, object, attribute, pipeline, take_error, draw}
use Rattle.context.specs.Rules.{error_code}
use Rattle.context.specs.Contract.{Did, draw_reply}
use Rattle.history.specs.Demand3.{DrawDid}
use Rattle.list_records.specs.declared.CallReply.{CallReply}

-- ---- one call

abbrev pub is_draw : Call → Bool
is_draw (matrix k) = false
is_draw (mode code) = false
is_draw (object k) = false
is_draw (attribute k) = false
is_draw (pipeline k) = false
is_draw take_error = false
is_draw (draw d) = true

-- what a call that is no draw answers besides its number: gen its first name, take_error the code
abbrev pub buffer_value : BufferCall → Context → ℕ → ℕ
buffer_value (gen_buffers n) c number = gen_first number c.buffers.next n
buffer_value (bind_buffer target name) c number = 0
buffer_value (delete_buffers ns) c number = 0
buffer_value (buffer_data target size bytes usage) c number = 0
buffer_value (buffer_sub_data target offset bytes) c number = 0

abbrev pub value_of : Call → Context → ℕ → ℕ
value_of (matrix k) c number = 0
value_of (mode code) c number = 0
value_of (object (buffer k)) c number = buffer_value k c number
value_of (object (array k)) c number = 0
value_of (attribute k) c number = 0
value_of (pipeline k) c number = 0
value_of take_error c number = error_code number c.error
value_of (draw d) c number = 0

-- a draw, with the first f32 of the output
pub record DrewIn (d : DrawCall) (c : Context) (s : List ℕ) (out : List Float) (r : DrawReply) (out1 : List Float) : Type 0 where
  pub part : List Float
  pub did : DrawDid d c s r (take d.room out) part
  pub room : d.room ≤ length out
  pub output : out1 ≡ part ++ drop d.room out

abbrev pub reply_of : ℕ → ℕ → Context → CallReply
reply_of n value c = record { number = n; value = value; context = c }

-- A call was made. A draw has the first f32 of the output, as many as it asks for, and its value is the count; any other call leaves the output.
pub data Performed (c : Context) (s : List ℕ) (out : List Float) (n value : ℕ) (c1 : Context) (s1 : List ℕ) (out1 : List Float) : Call → Type 0 where
  called : {k : Call} → Did k c s n c1 s1 → is_draw k ≡ false → value ≡ value_of k c n → out1 ≡ out → Performed c s out n value c1 s1 out1 k
  drew : {d : DrawCall} → DrewIn d c s out (draw_reply n value c1) out1 → s1 ≡ s → Performed c s out n value c1 s1 out1 (draw d)

-- what is answered of a code and words: the call's answer, or none of words that are no record's, which change nothing
pub data Performs (c : Context) (s : List ℕ) (out : List Float) (answer : Maybe CallReply) (s1 : List ℕ) (out1 : List Float) : Option Call → Type 0 where
  was_made : {k : Call} {r : CallReply} → answer ≡ Some r → Performed c s out r.number r.value r.context s1 out1 k → Performs c s out answer s1 out1 (some k)
  was_unknown : answer ≡ None → s1 ≡ s → out1 ≡ out → Performs c s out answer s1 out1 none
