-- Worked examples of single rules of document 01, as theorems about the rules that the calls follow.
use Rattle.std.specs.Prelude.{true, false, ◌≡◌, refl, ℕ, ◌+◌, ◌<◌, ◌≤◌, Err}
use mathlib.Core.List.{List, [], ◌∷◌, foldl}
use Rattle.std.proofs.Math.Option.{some, none, bind}
use Rattle.std.proofs.Common.{lt-ltb, le-ltb}
use Rattle.std.specs.Float.{nan}
use Rattle.std.specs.Float.Ieee.{of_bits, eq, le}
use Rattle.number.specs.F32.{f1, f2}
use Rattle.buffers.specs.Objects as objects
use Rattle.buffers.specs.Bounded.{count}
use Rattle.stack.specs.Stack.{frustum, ortho, update}
use Rattle.pipeline.specs.Pipeline.{capability, fresh_pipeline, accepted_pipeline, pipeline_step}
use Rattle.fetch.specs.Decode.{component_bytes}
use Rattle.fetch.specs.Fetch.{bytes, unreadable, in_guest, part_of, address_of, fetched}
use Rattle.fetch.specs.declared.ArrayPointer.{ArrayPointer}
use Rattle.fetch.specs.declared.FetchFailure.{FetchFailure}
use Rattle.context.specs.State.{State, fresh_state}
use Rattle.context.specs.Calls.{BufferCall, bind_buffer, delete_buffers, buffer_data, buffer_sub_data, buffer, Call, matrix, object, pipeline}
use Rattle.context.specs.Rules.{number_of, step}

abbrev pub after : List Call → State
after calls = foldl (λ s call. step call s) fresh_state calls

abbrev pub on : BufferCall → Call
on k = object (buffer k)

abbrev pub bound : List Call
bound = on (bind_buffer 0x8892 1) ∷ []

-- gen: live + n <= 16, but next + n passes 2^32-1: 5
pub past_the_last_name : (o : objects.Objects) (n : ℕ) → objects.live_names o + n ≤ 16 → 4294967295 < o.next + n → (objects.gen_answer o n).number ≡ 5
unfolding objects.gen_answer
past_the_last_name o n h k = rw (le-ltb 16 (objects.live_names o + n) h, lt-ltb 4294967295 (o.next + n) k)

-- deleting skips 0, unknown and repeated names
pub deletes : (number_of (on (delete_buffers (0 ∷ 9 ∷ 1 ∷ 1 ∷ []))) (after bound) ≡ 0)
    × ((after (on (bind_buffer 0x8892 1) ∷ on (delete_buffers (0 ∷ 9 ∷ 1 ∷ 1 ∷ [])) ∷ [])).objects.buffers.contents 1 ≡ none)
    × ((after (on (bind_buffer 0x8892 1) ∷ on (delete_buffers (0 ∷ 9 ∷ [])) ∷ [])).objects.buffers.contents 1 ≡ some [])
unfolding objects.bind_answer objects.named objects.live_names count objects.delete_names objects.delete_name
deletes = (refl, refl, refl)

-- data: such a target? 0x0500; bound? 0x0502. Sub-data: such a target, and bound? 0x0502
pub targets : (number_of (on (buffer_data 0 0 [] 0)) fresh_state ≡ 0x0500) × (number_of (on (buffer_data 0x8892 0 [] 0)) fresh_state ≡ 0x0502)
    × (number_of (on (buffer_sub_data 0 0 [])) fresh_state ≡ 0x0502) × (number_of (on (buffer_sub_data 0x8892 0 [])) fresh_state ≡ 0x0502)
unfolding objects.data_answer objects.sub_data_answer
targets = (refl, refl, refl, refl)

-- no data acts as empty data
pub no_data : (after (on (bind_buffer 0x8892 1) ∷ on (buffer_data 0x8892 2 [] 0) ∷ [])).objects.buffers.contents 1 ≡ some (0 ∷ 0 ∷ [])
unfolding objects.bind_answer objects.named objects.live_names count objects.data_answer objects.padded
no_data = refl

abbrev pub array_of_type : ℕ → ArrayPointer
array_of_type ty = record { enabled = true; size = 1; ty = ty; stride = 0; pointer = 0; buffer = 1 }

-- a fetch fails if the type is another, or the buffer is absent
pub failures : (fetched (λ n. some (0 ∷ [])) 0 [] (array_of_type 0x1404) 0 false ≡ Err FetchFailure.UnknownType)
    × (fetched (λ n. none) 0 [] (array_of_type 0x1400) 0 false ≡ Err FetchFailure.NoBuffer)
unfolding component_bytes address_of part_of fetched
failures = (refl, refl)

-- three guest bytes from address 100 on: all can be read, and none of them at their end; one byte past the end cannot, nor none past it, nor what begins below
pub guest_reads : (in_guest 100 (7 ∷ 8 ∷ 9 ∷ []) 101 2 ≡ bytes (8 ∷ 9 ∷ [])) × (in_guest 100 (7 ∷ 8 ∷ 9 ∷ []) 103 0 ≡ bytes [])
    × (in_guest 100 (7 ∷ 8 ∷ 9 ∷ []) 101 3 ≡ unreadable) × (in_guest 100 (7 ∷ 8 ∷ 9 ∷ []) 104 0 ≡ unreadable) × (in_guest 100 (7 ∷ 8 ∷ 9 ∷ []) 99 1 ≡ unreadable)
guest_reads = (refl, refl, refl, refl, refl)

-- scissor is accepted and changes nothing
pub scissor : (number_of (pipeline (capability 0x0C11 true)) fresh_state ≡ 0) × ((pipeline_step (capability 0x0C11 true) fresh_pipeline).after ≡ fresh_pipeline)
unfolding pipeline_step accepted_pipeline bind
scissor = (refl, refl)

-- a comparison with NaN is false
pub nan_planes : (number_of (matrix (update (frustum nan f1 nan f1 nan f2))) fresh_state ≡ 0) × (number_of (matrix (update (ortho nan nan f1 f2 f1 f2))) fresh_state ≡ 0)
unfolding of_bits eq le
nan_planes = (refl, refl)
