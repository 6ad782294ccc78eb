-- Calls as records (specs of crate list_runner: lists of them). A record has a code and words.
-- The bytes that a call borrows lie in an area of bytes, at the place that the words name.
use Rattle.std.specs.Prelude.{Bool, false, cond, List, [], ◌∷◌, ℕ, min, max, eqb, ltb, length, drop, Float}
use Rattle.std.proofs.Math.Option.{Option, some, none}
use Rattle.number.specs.Tables.{Row, ◌names◌, lookup, row_or}
use Rattle.list_words.specs.Words.{word_at, long_at, switch, four_floats, matrix_floats, bytes_at}
use Rattle.matrix.specs.Matrix.{at}
use Rattle.stack.specs.Stack.{load_identity, load, mult, translate, scale, rotate, frustum, ortho, MatrixUpdate, MatrixCall, update, push, pop}
use Rattle.arrays.specs.Arrays.{ArrayCall, vertex_pointer, color_pointer, normal_pointer, texcoord_pointer, client_state, client_unit}
use Rattle.arrays.specs.Attributes.{AttributeCall, color, multi_texcoord}
use Rattle.pipeline.specs.Pipeline.{PipelineCall, active_texture, capability, tex_env, tex_env_color, depth_func, depth_range, alpha_func, blend_func, cull_face, front_face, fog}
use Rattle.vertex.specs.Scene.{Source, list, range, elements, DrawCall}
use Rattle.context.specs.Calls.{BufferCall, gen_buffers, bind_buffer, delete_buffers, buffer_data, buffer_sub_data, buffer, array, Call, matrix, mode, object}
use Rattle.context.specs.Calls.{attribute, pipeline, take_error, draw}
use Rattle.context.specs.Contract.{draw_call}

-- ---- the call of a record. A code that no row has counts as the last of its group: `record_sizes` says which codes there are

-- f: the words as f32
abbrev pub update_rows : List Float → List (Row MatrixUpdate)
update_rows f =
    0x11 names load_identity
    ∷ 0x12 names load f
    ∷ 0x13 names mult f
    ∷ 0x16 names translate (at f 0) (at f 1) (at f 2)
    ∷ 0x17 names scale (at f 0) (at f 1) (at f 2)
    ∷ 0x18 names rotate (at f 0) (at f 1) (at f 2) (at f 3) (at f 4)
    ∷ 0x1a names frustum (at f 0) (at f 1) (at f 2) (at f 3) (at f 4) (at f 5)
    ∷ []

unfoldable pub update_of : ℕ → List Float → MatrixUpdate
update_of code f = row_or (update_rows f) code (ortho (at f 0) (at f 1) (at f 2) (at f 3) (at f 4) (at f 5))

abbrev pub stack_rows : List (Row MatrixCall)
stack_rows = 0x14 names push ∷ 0x15 names pop ∷ []

unfoldable pub matrix_of : ℕ → List Float → MatrixCall
matrix_of code f = row_or stack_rows code (update (update_of code f))

-- w: the words
abbrev pub data_of : List ℕ → List ℕ → BufferCall
data_of bytes w = buffer_data (word_at w 0) (long_at w 1) (bytes_at bytes (long_at w 4) (long_at w 6)) (word_at w 3)

abbrev pub sub_data_of : List ℕ → List ℕ → BufferCall
sub_data_of bytes w = buffer_sub_data (word_at w 0) (word_at w 1) (bytes_at bytes (long_at w 2) (long_at w 4))

abbrev pub buffer_rows : List ℕ → List ℕ → List (Row BufferCall)
buffer_rows bytes w =
    0x20 names gen_buffers (long_at w 0)
    ∷ 0x21 names bind_buffer (word_at w 0) (word_at w 1)
    ∷ 0x22 names delete_buffers w
    ∷ 0x23 names data_of bytes w
    ∷ []

unfoldable pub buffer_of : List ℕ → ℕ → List ℕ → BufferCall
buffer_of bytes code w = row_or (buffer_rows bytes w) code (sub_data_of bytes w)

-- a, b, c, d: the first four words
abbrev pub array_rows : ℕ → ℕ → ℕ → ℕ → List (Row ArrayCall)
array_rows a b c d =
    0x30 names vertex_pointer a b c d
    ∷ 0x31 names color_pointer a b c d
    ∷ 0x32 names normal_pointer a b c
    ∷ 0x33 names texcoord_pointer a b c d
    ∷ 0x34 names client_state a (switch b)
    ∷ []

unfoldable pub array_call_of : ℕ → ℕ → ℕ → ℕ → ℕ → ArrayCall
array_call_of code a b c d = row_or (array_rows a b c d) code (client_unit a)

-- a: the first word
abbrev pub attribute_rows : ℕ → List Float → List (Row AttributeCall)
attribute_rows a f =
    0x36 names color f
    ∷ []

unfoldable pub attribute_of : ℕ → ℕ → List Float → AttributeCall
attribute_of code a f = row_or (attribute_rows a f) code (multi_texcoord a (at f 1) (at f 2))

-- a, b: the first two words
abbrev pub pipeline_rows : ℕ → ℕ → List Float → List (Row PipelineCall)
pipeline_rows a b f =
    0x40 names active_texture a
    ∷ 0x41 names capability a (switch b)
    ∷ 0x42 names tex_env a b
    ∷ 0x43 names tex_env_color f
    ∷ 0x44 names depth_func a
    ∷ 0x45 names alpha_func a (at f 1)
    ∷ 0x46 names blend_func a b
    ∷ 0x47 names cull_face a
    ∷ 0x48 names front_face a
    ∷ 0x49 names fog a (at f 1)
    ∷ []

unfoldable pub pipeline_of : ℕ → ℕ → ℕ → List Float → PipelineCall
pipeline_of code a b f = row_or (pipeline_rows a b f) code (depth_range (at f 0) (at f 1))

-- where a draw's indices come from
abbrev pub list_of : List ℕ → Source
list_of w = list (drop 9 w)

abbrev pub range_of : List ℕ → Source
range_of w = range (word_at w 9) (word_at w 10)

abbrev pub elements_of : List ℕ → Source
elements_of w = elements (word_at w 9) (word_at w 10) (word_at w 11)

abbrev pub source_rows : List ℕ → List (Row Source)
source_rows w =
    0x60 names list_of w
    ∷ 0x61 names range_of w
    ∷ []

unfoldable pub source_of : ℕ → List ℕ → Source
source_of code w = row_or (source_rows w) code (elements_of w)

-- the first nine words of a draw: mode, stages, output length, guest base, place and number of the guest bytes; no draw has more output than there is room
abbrev pub draw_of_words : List ℕ → ℕ → Source → List ℕ → DrawCall
draw_of_words bytes room source w = draw_call source (word_at w 0) (word_at w 1) (word_at w 4) (bytes_at bytes (long_at w 5) (long_at w 7)) (min (long_at w 2) room)

unfoldable pub call_of : List ℕ → ℕ → ℕ → List ℕ → Call
call_of bytes room code w =
    cond (eqb code 0x10) (mode (word_at w 0))
    (cond (ltb code 0x20) (matrix (matrix_of code (matrix_floats w)))
    (cond (ltb code 0x30) (object (buffer (buffer_of bytes code w)))
    (cond (ltb code 0x36) (object (array (array_call_of code (word_at w 0) (word_at w 1) (word_at w 2) (word_at w 3))))
    (cond (ltb code 0x40) (attribute (attribute_of code (word_at w 0) (four_floats w)))
    (cond (ltb code 0x50) (pipeline (pipeline_of code (word_at w 0) (word_at w 1) (four_floats w)))
    (cond (eqb code 0x50) take_error
    (draw (draw_of_words bytes room (source_of code w) w))))))))

-- ---- records

-- the codes, with how many words a record of n words must have: delete has any number, a draw of a list at least nine
abbrev pub record_sizes : ℕ → List (Row ℕ)
record_sizes n =
    0x22 names n
    ∷ 0x60 names max 9 n
    ∷ 0x11 names 0 ∷ 0x14 names 0 ∷ 0x15 names 0 ∷ 0x50 names 0
    ∷ 0x10 names 1 ∷ 0x35 names 1 ∷ 0x40 names 1 ∷ 0x44 names 1 ∷ 0x47 names 1 ∷ 0x48 names 1
    ∷ 0x20 names 2 ∷ 0x21 names 2 ∷ 0x34 names 2 ∷ 0x41 names 2 ∷ 0x42 names 2 ∷ 0x45 names 2 ∷ 0x46 names 2 ∷ 0x49 names 2 ∷ 0x4a names 2
    ∷ 0x16 names 3 ∷ 0x17 names 3 ∷ 0x32 names 3 ∷ 0x37 names 3
    ∷ 0x30 names 4 ∷ 0x31 names 4 ∷ 0x33 names 4 ∷ 0x36 names 4 ∷ 0x43 names 4
    ∷ 0x18 names 5
    ∷ 0x1a names 6 ∷ 0x1b names 6 ∷ 0x24 names 6
    ∷ 0x23 names 8
    ∷ 0x61 names 11
    ∷ 0x62 names 12
    ∷ 0x12 names 16 ∷ 0x13 names 16
    ∷ []

abbrev pub is_size : Option ℕ → ℕ → Bool
is_size (some k) n = eqb n k
is_size none n = false

unfoldable pub is_record : ℕ → ℕ → Bool
is_record code n = is_size (lookup (record_sizes n) code) n

-- the call of a code and its words, if they are a record's
abbrev pub record_call : List ℕ → ℕ → ℕ → List ℕ → Option Call
record_call bytes room code w = cond (is_record code (length w)) (some (call_of bytes room code w)) none
