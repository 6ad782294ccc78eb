-- Every list of calls within the bounds is the decoding of its encoding, and the encoding is words and bytes. Assumes nothing.
use mathlib.Core.Bool.{Bool, true, false, ◌&&◌, cond, true≢false}
use mathlib.Core.List.{List, [], ◌∷◌, ◌++◌, map, append_assoc, append-nil}
use mathlib.Core.Option.{some}
use mathlib.Core.Path.{◌≡◌, refl, sym, ap, subst, ◌∙◌}
use Prim.Native.Nat.{ℕ, zero, suc, ◌+◌, ◌/◌, ◌%◌, ◌^◌, ◌<◌, ◌≤◌, min, max}
use native.Mathlib.Omega.{arith}
use native.Mathlib.Nat.{mod-add-div, mod-lt, div-lt_iff_lt-mul}
use borrow.Author.Tests.{eqb-true, eq-eqb, ne_eqb, le-leb}
use lib.Dec.{T, eqb, ltb, ltb→lt}
use lib.ListN.{length, take, drop, length-append, length-map}
use lib.Seq.{drop-cons, take_all, take-length, take-append_seam, drop-append_seam}
use lib.IntN.{pos, negsuc}
use lib.Ieee.{Float, nan, fin, binary32, fits, of_bits, to_bits}
use lib.Ieee.Bits.{of_bits-to_bits, to_bits-lt}
use lib.Ieee.Fits.{and_l, and_r}
use Rattle.number.specs.Tables.{Row, ◌names◌, lookup}
use Rattle.stack.specs.Stack.{load_identity, load, mult, translate, scale, rotate, frustum, ortho, MatrixCall, update, push, pop}
use Rattle.arrays.specs.Arrays.{ArrayCall, vertex_pointer, color_pointer, normal_pointer, texcoord_pointer, client_state, client_unit}
use Rattle.arrays.specs.Attributes.{AttributeCall, color, multi_texcoord}
use Rattle.pipeline.specs.Pipeline.{PipelineCall, active_texture, capability, tex_env, tex_env_color, depth_func, depth_range, alpha_func, blend_func, cull_face, front_face, fog}
use Rattle.vertex.specs.Scene.{Source, list, range, elements}
use Rattle.context.specs.Calls.{BufferCall, gen_buffers, bind_buffer, delete_buffers, buffer_data, buffer_sub_data, buffer, array, Call, matrix, mode, object}
use Rattle.context.specs.Calls.{attribute, pipeline, take_error, draw}
use Rattle.context.specs.Contract.{draw_call}
use Rattle.list_words.specs.Words.{long, switch, float_at, bytes_at}
use Rattle.list_records.specs.Encoding.{update_of, matrix_of, buffer_of, array_call_of, attribute_of, pipeline_of, source_of, call_of, record_sizes, is_size, is_record}
use Rattle.buffers.specs.Objects.{store_bytes}
use Rattle.history.specs.Demand3.{History}
use Rattle.std.specs.Prelude.{Result, Ok, Err, IsOkAnd}
use Rattle.refusal.specs.declared.Refusal.{Refusal}
use Rattle.list_runner.specs.declared.ListReply.{ListReply}
use Rattle.list_runner.specs.Run.{output_from, Runs}
use Rattle.list_runner.specs.Lists.{record_length, first_call, onward, decode_to, decode}
use Rattle.list_runner.specs.Encode.{Argument, Encoded, u32, u64, bool, f32, f32s, u32s, u8s, argument_words, argument_bytes, long_words, words_of_arguments, borrowed_by}
use Rattle.list_runner.specs.Encode.{matrix_record, buffer_record, array_record, attribute_record, pipeline_record, draw_record, record_of}
use Rattle.list_runner.specs.Encode.{record_words, borrowed_bytes, encode_from, encode, encoded_bytes, All, IsWord, IsByte, IsFloat, InType, Encodable}

-- ---- arguments read back

long_is : (n : ℕ) → long (n % 2 ^ 32) (n / 2 ^ 32) ≡ n
long_is n = mod-add-div n (2 ^ 32)

switch_is : (on : Bool) → switch (cond on 1 0) ≡ on
switch_is true = refl
switch_is false = refl

float_is : (x : Float) → IsFloat x → of_bits binary32 (to_bits binary32 x) ≡ x
float_is x h = of_bits-to_bits binary32 x h

floats_are : (l : List Float) → All IsFloat l → map (of_bits binary32) (map (to_bits binary32) l) ≡ l
floats_are [] h = refl
floats_are (x ∷ l) h = λ i. float_is x h.0 i ∷ floats_are l h.1 i

-- n f32 from the k-th word on: `four_floats` and `matrix_floats` compute to it
abbrev floats_in : ℕ → ℕ → List ℕ → List Float
floats_in k zero w = []
floats_in k (suc n) w = float_at w k ∷ floats_in (suc k) n w

floats_in_law : (k n : ℕ) (w : List ℕ) → k + n ≤ length w → floats_in k n w ≡ map (of_bits binary32) (take n (drop k w))
floats_in_law k zero w h = refl
floats_in_law k (suc n) w h = rw (drop-cons w k 0 (omega arith)) (ap (λ (l : List Float). float_at w k ∷ l) (floats_in_law (suc k) n w (omega arith)))

-- an array of n f32
module _ (n : ℕ) (l : List Float) (h : InType (f32s n l)) where
  array_length : length (map (to_bits binary32) l ++ []) ≡ n
  array_length = rw append-nil (length-map l (to_bits binary32) ∙ h.0)

  array_is : floats_in 0 n (map (to_bits binary32) l ++ []) ≡ l
  array_is =
      let w = map (to_bits binary32) l in
      let q : length w ≡ n = length-map l (to_bits binary32) ∙ h.0 in
      rw append-nil (floats_in_law 0 n w (omega arith) ∙ ap (map (of_bits binary32)) (take_all n w (omega arith)) ∙ floats_are l h.1)

-- borrowed bytes, where they lie at a place
part_is : (area : List ℕ) (place : ℕ) (b : List ℕ) → bytes_at area place (length (b ++ [])) ≡ b ++ []
    → bytes_at area (long (place % 2 ^ 32) (place / 2 ^ 32)) (long (length b % 2 ^ 32) (length b / 2 ^ 32)) ≡ b
part_is area place b h = rw (long_is place, long_is (length b)) (rw append-nil at h)

-- ---- a record read back, where the bytes of its call lie at a place of an area and an output of `room` f32 is lent

-- a draw of a list has any number of words from nine on
list_record : (w : List ℕ) → 9 ≤ length w → is_record 0x60 (length w) ≡ true
unfolding is_record
list_record w h = eq-eqb (length w) (max 9 (length w)) (omega arith)

module _ (area : List ℕ) (room place : ℕ) where
  abbrev ReadAs : Encoded → Call → Type 0
  ReadAs e k = (is_record e.code (length (words_of_arguments place e.arguments)) ≡ true) × (call_of area room e.code (words_of_arguments place e.arguments) ≡ k)

  -- the bytes of the arguments lie at the place
  abbrev Lies : List Argument → Type 0
  Lies l = bytes_at area place (length (borrowed_by l)) ≡ borrowed_by l

  matrix_read : (k : MatrixCall) → All InType (matrix_record k).arguments → ReadAs (matrix_record k) (matrix k)
  unfolding matrix_record words_of_arguments is_record call_of update_of matrix_of
  matrix_read (update load_identity) h = (refl, refl)
  matrix_read (update (load m)) (a, u) = (ap (is_record 0x12) (array_length 16 m a), λ i. matrix (update (load (array_is 16 m a i))))
  matrix_read (update (mult m)) (a, u) = (ap (is_record 0x13) (array_length 16 m a), λ i. matrix (update (mult (array_is 16 m a i))))
  matrix_read push h = (refl, refl)
  matrix_read pop h = (refl, refl)
  matrix_read (update (translate x y z)) (hx, (hy, (hz, u))) = (refl, λ i. matrix (update (translate (float_is x hx i) (float_is y hy i) (float_is z hz i))))
  matrix_read (update (scale x y z)) (hx, (hy, (hz, u))) = (refl, λ i. matrix (update (scale (float_is x hx i) (float_is y hy i) (float_is z hz i))))
  matrix_read (update (rotate c s x y z)) (hc, (hs, (hx, (hy, (hz, u))))) =
      (refl, λ i. matrix (update (rotate (float_is c hc i) (float_is s hs i) (float_is x hx i) (float_is y hy i) (float_is z hz i))))
  matrix_read (update (frustum l r b t n f)) (hl, (hr, (hb, (ht, (hn, (hf, u)))))) =
      (refl, λ i. matrix (update (frustum (float_is l hl i) (float_is r hr i) (float_is b hb i) (float_is t ht i) (float_is n hn i) (float_is f hf i))))
  matrix_read (update (ortho l r b t n f)) (hl, (hr, (hb, (ht, (hn, (hf, u)))))) =
      (refl, λ i. matrix (update (ortho (float_is l hl i) (float_is r hr i) (float_is b hb i) (float_is t ht i) (float_is n hn i) (float_is f hf i))))

  buffer_read : (k : BufferCall) → Lies (buffer_record k).arguments → ReadAs (buffer_record k) (object (buffer k))
  unfolding buffer_record words_of_arguments borrowed_by is_record call_of buffer_of
  buffer_read (gen_buffers n) p = (refl, λ i. object (buffer (gen_buffers (long_is n i))))
  buffer_read (bind_buffer target name) p = (refl, refl)
  buffer_read (delete_buffers l) p = (eq-eqb (length (l ++ [])) (length (l ++ [])) refl, λ i. object (buffer (delete_buffers (append-nil l i))))
  buffer_read (buffer_data target size b usage) p = (refl, λ i. object (buffer (buffer_data target (long_is size i) (part_is area place b p i) usage)))
  buffer_read (buffer_sub_data target offset b) p = (refl, λ i. object (buffer (buffer_sub_data target offset (part_is area place b p i))))

  array_read : (k : ArrayCall) → ReadAs (array_record k) (object (array k))
  unfolding array_record words_of_arguments is_record call_of array_call_of
  array_read (vertex_pointer size ty stride pointer) = (refl, refl)
  array_read (color_pointer size ty stride pointer) = (refl, refl)
  array_read (normal_pointer ty stride pointer) = (refl, refl)
  array_read (texcoord_pointer size ty stride pointer) = (refl, refl)
  array_read (client_state kind on) = (refl, λ i. object (array (client_state kind (switch_is on i))))
  array_read (client_unit unit) = (refl, refl)

  attribute_read : (k : AttributeCall) → All InType (attribute_record k).arguments → ReadAs (attribute_record k) (attribute k)
  unfolding attribute_record words_of_arguments is_record call_of attribute_of
  attribute_read (color value) (a, u) = (ap (is_record 0x36) (array_length 4 value a), λ i. attribute (color (array_is 4 value a i)))
  attribute_read (multi_texcoord unit s t) (hu, (hs, (ht, u))) = (refl, λ i. attribute (multi_texcoord unit (float_is s hs i) (float_is t ht i)))

  pipeline_read : (k : PipelineCall) → All InType (pipeline_record k).arguments → ReadAs (pipeline_record k) (pipeline k)
  unfolding pipeline_record words_of_arguments is_record call_of pipeline_of
  pipeline_read (active_texture unit) h = (refl, refl)
  pipeline_read (capability cap on) h = (refl, λ i. pipeline (capability cap (switch_is on i)))
  pipeline_read (tex_env pname value) h = (refl, refl)
  pipeline_read (tex_env_color value) (a, u) = (ap (is_record 0x43) (array_length 4 value a), λ i. pipeline (tex_env_color (array_is 4 value a i)))
  pipeline_read (depth_func func) h = (refl, refl)
  pipeline_read (alpha_func func reference) (a, (hr, u)) = (refl, λ i. pipeline (alpha_func func (float_is reference hr i)))
  pipeline_read (blend_func src dst) h = (refl, refl)
  pipeline_read (cull_face face) h = (refl, refl)
  pipeline_read (front_face face) h = (refl, refl)
  pipeline_read (fog pname value) (a, (hv, u)) = (refl, λ i. pipeline (fog pname (float_is value hv i)))
  pipeline_read (depth_range near far) (hn, (hf, u)) = (refl, λ i. pipeline (depth_range (float_is near hn i) (float_is far hf i)))

  -- a draw, but for its source
  module _ (m st n b : ℕ) (g : List ℕ) (l : n ≤ room) where
    room_is : min (long (n % 2 ^ 32) (n / 2 ^ 32)) room ≡ n
    room_is = rw (long_is n) (omega arith)

    draw_read : (s : Source) → Lies (draw_record (draw_call s m st b g n)).arguments → ReadAs (draw_record (draw_call s m st b g n)) (draw (draw_call s m st b g n))
    unfolding draw_record words_of_arguments borrowed_by is_record call_of source_of
    draw_read (list indices) p =
        let w = words_of_arguments place (draw_record (draw_call (list indices) m st b g n)).arguments in
        (list_record w (omega arith), λ i. draw (draw_call (list (append-nil indices i)) m st b (part_is area place g p i) (room_is i)))
    draw_read (range first count) p = (refl, λ i. draw (draw_call (range first count) m st b (part_is area place g p i) (room_is i)))
    draw_read (elements count ty pointer) p = (refl, λ i. draw (draw_call (elements count ty pointer) m st b (part_is area place g p i) (room_is i)))

  call_read : (k : Call) → Encodable room k → Lies (record_of k).arguments → ReadAs (record_of k) k
  unfolding words_of_arguments is_record call_of
  call_read (mode code) h p = (refl, refl)
  call_read (matrix k) h p = matrix_read k h.typed
  call_read (object (buffer k)) h p = buffer_read k p
  call_read (object (array k)) h p = array_read k
  call_read (attribute k) h p = attribute_read k h.typed
  call_read (pipeline k) h p = pipeline_read k h.typed
  call_read take_error h p = (refl, refl)
  call_read (draw d) h p = draw_read d.mode d.stages d.room d.base d.guest h.lent d.source p

-- ---- lists read back

-- a record at the start of a list
module _ (code : ℕ) (w rest : List ℕ) where
  abbrev joined : List ℕ
  joined = code ∷ length w ∷ w ++ rest

  joined_length : record_length joined ≡ suc (suc (length w))
  joined_length = rw (le-leb (2 + length w) (length joined) (omega (arith, length-append w rest))) (omega arith)

  joined_rest : drop (record_length joined) joined ≡ rest
  joined_rest = ap (λ (n : ℕ). drop n joined) joined_length ∙ drop-append_seam w rest

  joined_call : (area : List ℕ) (room : ℕ) {k : Call} → is_record code (length w) ≡ true → call_of area room code w ≡ k → first_call area room joined ≡ some k
  unfolding first_call
  joined_call area room e f = rw (ne_eqb (record_length joined) 0 (λ z. absurd (omega (arith, joined_length))), take-append_seam w rest, e) (ap some f)

module _ (room : ℕ) where
  -- the calls' bytes lie after others, and n calls are as many as there are or more
  decodes_from : (n : ℕ) (before : List ℕ) (l : List Call) → All (Encodable room) l → length l ≤ n
      → decode_to n (before ++ encoded_bytes l) room (encode_from (length before) l) ≡ l
  unfolding decode_to encode_from encoded_bytes first_call
  decodes_from zero before [] h q = refl
  decodes_from (suc n) before [] h q = refl
  decodes_from zero before (k ∷ l) h q = absurd (omega arith)
  decodes_from (suc n) before (k ∷ l) (hk, hl) q =
      let b = borrowed_bytes k in
      let area = before ++ (b ++ encoded_bytes l) in
      let w = record_words (length before) k in
      let rest = encode_from (length before + length b) l in
      let r = call_read area room (length before) k hk (ap (take (length b)) (drop-append_seam before (b ++ encoded_bytes l)) ∙ take-append_seam b (encoded_bytes l)) in
      let code = (record_of k).code in
      let all = joined code w rest in
      ap (λ o. onward o (λ j. j ∷ decode_to n area room (drop (record_length all) all)) []) (joined_call code w rest area room r.0 r.1)
      ∙ ap (λ (t : List ℕ). k ∷ decode_to n area room t) (joined_rest code w rest)
      ∙ (λ i. k ∷ decode_to n (sym (append_assoc before b (encoded_bytes l)) i) room (encode_from (sym (length-append before b) i) l))
      ∙ ap (λ (t : List Call). k ∷ t) (decodes_from n (before ++ b) l hl (omega arith))

  -- a list has no more calls than words
  calls_words : (place : ℕ) (l : List Call) → length l ≤ length (encode_from place l)
  unfolding encode_from
  calls_words place [] = omega arith
  calls_words place (k ∷ l) =
      let next = place + length (borrowed_bytes k) in
      omega (arith, calls_words next l, length-append (record_words place k) (encode_from next l))

  pub decodes : (l : List Call) → All (Encodable room) l → decode (encoded_bytes l) room (encode l) ≡ l
  decodes l h = decodes_from (length (encode l)) [] l h (calls_words 0 l)

-- ---- the encoding is words and bytes

all_append : {A : Type 0} (P : A → Type 0) (l m : List A) → All P l → All P m → All P (l ++ m)
all_append P [] m h k = k
all_append P (a ∷ l) m h k = (h.0, all_append P l m h.1 k)

long_words_law : (n : ℕ) → n < 2 ^ 64 → All IsWord (long_words n)
long_words_law n h = (mod-lt n (omega arith), ((div-lt_iff_lt-mul {k = 2 ^ 32} {x = n} {y = 2 ^ 32} (omega arith)).1 h, tt))

floats_words : (l : List Float) → All IsFloat l → All IsWord (map (to_bits binary32) l)
floats_words [] h = tt
floats_words (x ∷ l) h = (to_bits-lt binary32 x h.0, floats_words l h.1)

module _ (place : ℕ) where
  argument_words_law : (a : Argument) → place < 2 ^ 64 → InType a → All IsWord (argument_words place a)
  argument_words_law (u32 n) p h = (h, tt)
  argument_words_law (u64 n) p h = long_words_law n h
  argument_words_law (bool true) p h = (omega arith, tt)
  argument_words_law (bool false) p h = (omega arith, tt)
  argument_words_law (f32 x) p h = (to_bits-lt binary32 x h, tt)
  argument_words_law (f32s n l) p h = floats_words l h.1
  argument_words_law (u32s l) p h = h
  argument_words_law (u8s l) p h = all_append IsWord (long_words place) (long_words (length l)) (long_words_law place p) (long_words_law (length l) h.0)

  words_of : (l : List Argument) → place < 2 ^ 64 → All InType l → All IsWord (words_of_arguments place l)
  unfolding words_of_arguments
  words_of [] p h = tt
  words_of (a ∷ l) p h = all_append IsWord (argument_words place a) (words_of_arguments place l) (argument_words_law a p h.0) (words_of l p h.1)

  -- a record has as many words at any place
  argument_length : (a : Argument) → length (argument_words place a) ≡ length (argument_words 0 a)
  argument_length (u32 n) = refl
  argument_length (u64 n) = refl
  argument_length (bool on) = refl
  argument_length (f32 x) = refl
  argument_length (f32s n l) = refl
  argument_length (u32s l) = refl
  argument_length (u8s l) = refl

  words_length : (l : List Argument) → length (words_of_arguments place l) ≡ length (words_of_arguments 0 l)
  unfolding words_of_arguments
  words_length [] = refl
  words_length (a ∷ l) =
      length-append (argument_words place a) (words_of_arguments place l) ∙ (λ i. argument_length a i + words_length l i)
      ∙ sym (length-append (argument_words 0 a) (words_of_arguments 0 l))

argument_bytes_law : (a : Argument) → InType a → All IsByte (argument_bytes a)
argument_bytes_law (u32 n) h = tt
argument_bytes_law (u64 n) h = tt
argument_bytes_law (bool on) h = tt
argument_bytes_law (f32 x) h = tt
argument_bytes_law (f32s n l) h = tt
argument_bytes_law (u32s l) h = tt
argument_bytes_law (u8s l) h = h.1

borrowed_bytes_law : (l : List Argument) → All InType l → All IsByte (borrowed_by l)
unfolding borrowed_by
borrowed_bytes_law [] h = tt
borrowed_bytes_law (a ∷ l) h = all_append IsByte (argument_bytes a) (borrowed_by l) (argument_bytes_law a h.0) (borrowed_bytes_law l h.1)

-- a code of a table is below what all its codes are below
abbrev codes_below : ℕ → List (Row ℕ) → Bool
codes_below b [] = true
codes_below b ((code names n) ∷ rows) = ltb code b && codes_below b rows

code_below : (b : ℕ) (rows : List (Row ℕ)) (code n : ℕ) → T (codes_below b rows) → is_size (lookup rows code) n ≡ true → code < b
code_below b [] code n t e = absurd (true≢false (sym e))
code_below b ((c names size) ∷ rows) code n t e = go (eqb code c) refl e (λ q. code_below b rows code n (and_r (ltb c b) (codes_below b rows) t) q)
  where
    go : (q : Bool) → eqb code c ≡ q → is_size (cond q (some size) (lookup rows code)) n ≡ true → (is_size (lookup rows code) n ≡ true → code < b) → code < b
    go true f e more = omega (arith, eqb-true code c f, ltb→lt c b (and_l (ltb c b) (codes_below b rows) t))
    go false f e more = more e

record_code : (code n : ℕ) → is_record code n ≡ true → IsWord code
unfolding is_record
record_code code n e = code_below (2 ^ 32) (record_sizes n) code n tt e

module _ (room : ℕ) where
  encoded_from : (place : ℕ) (l : List Call) → All (Encodable room) l → place + length (encoded_bytes l) < 2 ^ 64 → All IsWord (encode_from place l)
  unfolding encode_from encoded_bytes
  encoded_from place [] h p = tt
  encoded_from place (k ∷ l) (hk, hl) p =
      let b = borrowed_bytes k in
      let q : place + length b + length (encoded_bytes l) < 2 ^ 64 = omega (arith, length-append b (encoded_bytes l)) in (
        record_code (record_of k).code (length (record_words 0 k)) (call_read b room 0 k hk (take-length b)).0,
        (
          subst IsWord (sym (words_length place (record_of k).arguments)) hk.short,
          all_append IsWord (record_words place k) (encode_from (place + length b) l)
              (words_of place (record_of k).arguments (omega arith) hk.typed) (encoded_from (place + length b) l hl q),
        ),
      )

  -- a place is a u64
  pub encoded_words : (l : List Call) → All (Encodable room) l → length (encoded_bytes l) < 2 ^ 64 → All IsWord (encode l)
  encoded_words l h p = encoded_from 0 l h (omega arith)

  pub encoded_bytes_law : (l : List Call) → All (Encodable room) l → All IsByte (encoded_bytes l)
  unfolding encoded_bytes
  encoded_bytes_law [] h = tt
  encoded_bytes_law (k ∷ l) h = all_append IsByte (borrowed_bytes k) (encoded_bytes l) (borrowed_bytes_law (record_of k).arguments h.0.typed) (encoded_bytes_law l h.1)

-- ---- what `run` leaves of an encoded list is what the list leaves

pub run_encoded : (l : List Call) {s s1 : List ℕ} {out out1 : List Float} {r : Result ListReply Refusal}
    → All (Encodable (length out)) l → length s ≡ store_bytes → Runs (encode l) (encoded_bytes l) s out r s1 out1
    → IsOkAnd r (λ a. History l a.context s1) × (out1 ≡ output_from [] l out)
run_encoded l {s1 = s1} {out = out} {r = Ok a} h e p =
    let d = decodes (length out) l h in
    let q = p.ran e in
    (subst (λ (k : List Call). History k a.context s1) d q.0.1, q.1 ∙ ap (λ (k : List Call). output_from [] k out) d)
run_encoded l {r = Err x} h e p = absurd ((p.ran e).0)

-- ---- an example: a mode, a translation by 1, 1/2 and NaN, three bytes for a buffer, a draw of three indices with two bytes of guest memory

example : List Call
example =
    mode 0x1701
    ∷ matrix (update (translate (fin false 1 (pos 0)) (fin false 1 (negsuc 0)) nan))
    ∷ object (buffer (buffer_data 0x8892 3 (1 ∷ 2 ∷ 255 ∷ []) 0x88e4))
    ∷ draw (draw_call (list (2 ∷ 1 ∷ 0 ∷ [])) 4 0 0x1000 (7 ∷ 8 ∷ []) 51)
    ∷ []

example_encodable : All (Encodable 51) example
unfolding example fits matrix_record buffer_record draw_record words_of_arguments
example_encodable = (
  record { typed = search arith; short = omega arith; lent = omega arith },
  (
    record { typed = (tt, (tt, (tt, tt))); short = omega arith; lent = omega arith },
    (
      record { typed = search arith; short = omega arith; lent = omega arith },
      (record { typed = search arith; short = omega arith; lent = omega arith }, tt),
    ),
  ),
)

example_bytes : encoded_bytes example ≡ 1 ∷ 2 ∷ 255 ∷ 7 ∷ 8 ∷ []
unfolding example encoded_bytes borrowed_by matrix_record buffer_record draw_record
example_bytes = refl

example_words : encode example
    ≡ 0x10 ∷ 1 ∷ 0x1701
    ∷ 0x16 ∷ 3 ∷ 0x3f800000 ∷ 0x3f000000 ∷ 0x7fc00000
    ∷ 0x23 ∷ 8 ∷ 0x8892 ∷ 3 ∷ 0 ∷ 0x88e4 ∷ 0 ∷ 0 ∷ 3 ∷ 0
    ∷ 0x60 ∷ 12 ∷ 4 ∷ 0 ∷ 51 ∷ 0 ∷ 0x1000 ∷ 3 ∷ 0 ∷ 2 ∷ 0 ∷ 2 ∷ 1 ∷ 0 ∷ []
unfolding example encode_from words_of_arguments borrowed_by matrix_record buffer_record draw_record to_bits
example_words = refl
