-- Lists of calls put into words and bytes, so that `decode` gives the calls back (theorems: proofs/Encode.antt).
use Rattle.std.specs.Prelude.{Bool, cond, List, [], ◌∷◌, ◌++◌, map, ◌≡◌, ℕ, ◌+◌, ◌/◌, ◌%◌, ◌^◌, ◌≤◌, ◌<◌, T, length, Float}
use Rattle.std.specs.Float.{binary32}
use Rattle.std.specs.Float.Ieee.{fits, to_bits}
use Rattle.stack.specs.Stack.{load_identity, load, mult, translate, scale, rotate, frustum, ortho, MatrixCall, update, push, pop}
use Rattle.arrays.specs.Arrays.{ArrayCall, vertex_pointer, color_pointer, normal_pointer, texcoord_pointer, client_state, client_unit}
use Rattle.arrays.specs.Attributes.{AttributeCall, color, multi_texcoord}
use Rattle.pipeline.specs.Pipeline.{PipelineCall, active_texture, capability, tex_env, tex_env_color, depth_func, depth_range, alpha_func, blend_func, cull_face, front_face, fog}
use Rattle.vertex.specs.Scene.{Source, list, range, elements, DrawCall}
use Rattle.context.specs.Calls.{BufferCall, gen_buffers, bind_buffer, delete_buffers, buffer_data, buffer_sub_data, buffer, array, Call, matrix, mode, object}
use Rattle.context.specs.Calls.{attribute, pipeline, take_error, draw}

-- ---- arguments

-- an argument of a call, by its type in the function that makes the call: a usize is a `u64`, `f32s n` is an array of n f32, `u32s` and `u8s` are borrowed
pub data Argument : Type 0 where
  u32 u64 : ℕ → Argument
  bool : Bool → Argument
  f32 : Float → Argument
  f32s : ℕ → List Float → Argument
  u32s u8s : List ℕ → Argument

-- the low word first
abbrev pub long_words : ℕ → List ℕ
long_words n = n % 2 ^ 32 ∷ n / 2 ^ 32 ∷ []

-- its words: of borrowed bytes, which lie in an area of bytes, their place and number
abbrev pub argument_words : ℕ → Argument → List ℕ
argument_words place (u32 n) = n ∷ []
argument_words place (u64 n) = long_words n
argument_words place (bool on) = cond on 1 0 ∷ []
argument_words place (f32 x) = to_bits binary32 x ∷ []
argument_words place (f32s n l) = map (to_bits binary32) l
argument_words place (u32s l) = l
argument_words place (u8s l) = long_words place ++ long_words (length l)

-- the bytes that it borrows
abbrev pub argument_bytes : Argument → List ℕ
argument_bytes (u32 n) = []
argument_bytes (u64 n) = []
argument_bytes (bool on) = []
argument_bytes (f32 x) = []
argument_bytes (f32s n l) = []
argument_bytes (u32s l) = []
argument_bytes (u8s l) = l

-- one place is enough: no call borrows bytes twice
unfoldable pub words_of_arguments : ℕ → List Argument → List ℕ
words_of_arguments place [] = []
words_of_arguments place (a ∷ l) = argument_words place a ++ words_of_arguments place l

unfoldable pub borrowed_by : List Argument → List ℕ
borrowed_by [] = []
borrowed_by (a ∷ l) = argument_bytes a ++ borrowed_by l

-- ---- calls: the codes and the order of the arguments are those of `call_of` (crate list_records)

pub record Encoded : Type 0 where
  pub code : ℕ
  pub arguments : List Argument

infix 30 ◌with◌
abbrev pub ◌with◌ : ℕ → List Argument → Encoded
◌with◌ c l = record { code = c; arguments = l }

unfoldable pub matrix_record : MatrixCall → Encoded
matrix_record (update load_identity) = 0x11 with []
matrix_record (update (load m)) = 0x12 with f32s 16 m ∷ []
matrix_record (update (mult m)) = 0x13 with f32s 16 m ∷ []
matrix_record push = 0x14 with []
matrix_record pop = 0x15 with []
matrix_record (update (translate x y z)) = 0x16 with f32 x ∷ f32 y ∷ f32 z ∷ []
matrix_record (update (scale x y z)) = 0x17 with f32 x ∷ f32 y ∷ f32 z ∷ []
matrix_record (update (rotate c s x y z)) = 0x18 with f32 c ∷ f32 s ∷ f32 x ∷ f32 y ∷ f32 z ∷ []
matrix_record (update (frustum l r b t n f)) = 0x1a with f32 l ∷ f32 r ∷ f32 b ∷ f32 t ∷ f32 n ∷ f32 f ∷ []
matrix_record (update (ortho l r b t n f)) = 0x1b with f32 l ∷ f32 r ∷ f32 b ∷ f32 t ∷ f32 n ∷ f32 f ∷ []

unfoldable pub buffer_record : BufferCall → Encoded
buffer_record (gen_buffers n) = 0x20 with u64 n ∷ []
buffer_record (bind_buffer target name) = 0x21 with u32 target ∷ u32 name ∷ []
buffer_record (delete_buffers names) = 0x22 with u32s names ∷ []
buffer_record (buffer_data target size bytes usage) = 0x23 with u32 target ∷ u64 size ∷ u32 usage ∷ u8s bytes ∷ []
buffer_record (buffer_sub_data target offset bytes) = 0x24 with u32 target ∷ u32 offset ∷ u8s bytes ∷ []

unfoldable pub array_record : ArrayCall → Encoded
array_record (vertex_pointer size ty stride pointer) = 0x30 with u32 size ∷ u32 ty ∷ u32 stride ∷ u32 pointer ∷ []
array_record (color_pointer size ty stride pointer) = 0x31 with u32 size ∷ u32 ty ∷ u32 stride ∷ u32 pointer ∷ []
array_record (normal_pointer ty stride pointer) = 0x32 with u32 ty ∷ u32 stride ∷ u32 pointer ∷ []
array_record (texcoord_pointer size ty stride pointer) = 0x33 with u32 size ∷ u32 ty ∷ u32 stride ∷ u32 pointer ∷ []
array_record (client_state kind on) = 0x34 with u32 kind ∷ bool on ∷ []
array_record (client_unit unit) = 0x35 with u32 unit ∷ []

unfoldable pub attribute_record : AttributeCall → Encoded
attribute_record (color value) = 0x36 with f32s 4 value ∷ []
attribute_record (multi_texcoord unit s t) = 0x37 with u32 unit ∷ f32 s ∷ f32 t ∷ []

unfoldable pub pipeline_record : PipelineCall → Encoded
pipeline_record (active_texture unit) = 0x40 with u32 unit ∷ []
pipeline_record (capability cap on) = 0x41 with u32 cap ∷ bool on ∷ []
pipeline_record (tex_env pname value) = 0x42 with u32 pname ∷ u32 value ∷ []
pipeline_record (tex_env_color value) = 0x43 with f32s 4 value ∷ []
pipeline_record (depth_func func) = 0x44 with u32 func ∷ []
pipeline_record (alpha_func func reference) = 0x45 with u32 func ∷ f32 reference ∷ []
pipeline_record (blend_func src dst) = 0x46 with u32 src ∷ u32 dst ∷ []
pipeline_record (cull_face face) = 0x47 with u32 face ∷ []
pipeline_record (front_face face) = 0x48 with u32 face ∷ []
pipeline_record (fog pname value) = 0x49 with u32 pname ∷ f32 value ∷ []
pipeline_record (depth_range near far) = 0x4a with f32 near ∷ f32 far ∷ []

-- where a draw's indices come from: they stand after its other arguments
abbrev pub source_record : Source → Encoded
source_record (list indices) = 0x60 with u32s indices ∷ []
source_record (range first count) = 0x61 with u32 first ∷ u32 count ∷ []
source_record (elements count ty pointer) = 0x62 with u32 count ∷ u32 ty ∷ u32 pointer ∷ []

unfoldable pub draw_record : DrawCall → Encoded
draw_record d = (source_record d.source).code with u32 d.mode ∷ u32 d.stages ∷ u64 d.room ∷ u32 d.base ∷ u8s d.guest ∷ (source_record d.source).arguments

abbrev pub record_of : Call → Encoded
record_of (mode code) = 0x10 with u32 code ∷ []
record_of (matrix k) = matrix_record k
record_of (object (buffer k)) = buffer_record k
record_of (object (array k)) = array_record k
record_of (attribute k) = attribute_record k
record_of (pipeline k) = pipeline_record k
record_of take_error = 0x50 with []
record_of (draw d) = draw_record d

-- the words of a call's record, where its bytes lie at a place
abbrev pub record_words : ℕ → Call → List ℕ
record_words place k = words_of_arguments place (record_of k).arguments

abbrev pub borrowed_bytes : Call → List ℕ
borrowed_bytes k = borrowed_by (record_of k).arguments

-- ---- lists

-- the words of a list of calls, where the bytes that they borrow lie one after the other from a place on
unfoldable pub encode_from : ℕ → List Call → List ℕ
encode_from place [] = []
encode_from place (k ∷ l) = (record_of k).code ∷ length (record_words place k) ∷ record_words place k ++ encode_from (place + length (borrowed_bytes k)) l

abbrev pub encode : List Call → List ℕ
encode l = encode_from 0 l

-- these bytes
unfoldable pub encoded_bytes : List Call → List ℕ
encoded_bytes [] = []
encoded_bytes (k ∷ l) = borrowed_bytes k ++ encoded_bytes l

-- ---- bounds

abbrev pub All : {A : Type 0} → (A → Type 0) → List A → Type 0
All P [] = Unit {0}
All P (a ∷ l) = P a × All P l

abbrev pub IsWord : ℕ → Type 0
IsWord n = n < 2 ^ 32

abbrev pub IsByte : ℕ → Type 0
IsByte n = n < 256

abbrev pub IsFloat : Float → Type 0
IsFloat x = T (fits binary32 x)

-- the bounds of an argument's type
abbrev pub InType : Argument → Type 0
InType (u32 n) = IsWord n
InType (u64 n) = n < 2 ^ 64
InType (bool on) = Unit {0}
InType (f32 x) = IsFloat x
InType (f32s n l) = (length l ≡ n) × All IsFloat l
InType (u32s l) = All IsWord l
InType (u8s l) = (length l < 2 ^ 64) × All IsByte l

-- how many f32 a call's output holds
abbrev pub output_length : Call → ℕ
output_length (matrix k) = 0
output_length (mode code) = 0
output_length (object k) = 0
output_length (attribute k) = 0
output_length (pipeline k) = 0
output_length take_error = 0
output_length (draw d) = d.room

-- The calls that have a record where an output of `room` f32 is lent. The arguments are within their types, as in every call of a program. Two bounds are the encoding's own:
-- one word says how many words a record has (as many at every place; only `delete_buffers` and a draw of a list can have too many), and no draw has more output than is lent.
pub record Encodable (room : ℕ) (k : Call) : Type 0 where
  pub typed : All InType (record_of k).arguments
  pub short : IsWord (length (record_words 0 k))
  pub lent : output_length k ≤ room
