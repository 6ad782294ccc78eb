-- The calls of the records whose words the format has in another way than crate list_records: theorems, by computation.
use Rattle.std.specs.Prelude.{List, [], ◌∷◌, ◌≡◌, ℕ, length, Float}
use Rattle.std.proofs.Math.Option.{Option, some}
use Rattle.std.proofs.Math.Path.{refl}
use Rattle.std.proofs.Common.{add-zero, eq-eqb}
use Rattle.std.specs.Float.{binary32}
use Rattle.std.specs.Float.Ieee.{of_bits}
use Rattle.list_words.specs.Words.{bytes_at, matrix_floats}
use Rattle.stack.specs.Stack.{mult, rotate, update}
use Rattle.context.specs.Calls.{gen_buffers, delete_buffers, buffer_data, buffer_sub_data, buffer, Call, matrix, object}
use Rattle.list_records.specs.Encoding.{is_record, update_of, matrix_of, buffer_of, call_of, record_call}
use Rattle.trace_format.specs.Calls.{identity_words, made_words, call_words, call_code}

-- the call of a record, whose words are w and whose bytes are those of its words
abbrev pub decoded_call : List ℕ → ℕ → ℕ → List ℕ → Option Call
decoded_call bytes room code w = record_call bytes room (call_code code) (call_words code w (made_words code w))

abbrev f : ℕ → Float
f = of_bits binary32

module _ (bytes : List ℕ) (room : ℕ) where
  rotates : (c s x y z a u v w : ℕ) → decoded_call bytes room 0x18 (c ∷ s ∷ x ∷ y ∷ z ∷ a ∷ u ∷ v ∷ w ∷ []) ≡ some (matrix (update (rotate (f c) (f s) (f x) (f y) (f z))))
  unfolding is_record call_of update_of matrix_of call_words call_code
  rotates c s x y z a u v w = refl

  no_axis : (a x y z : ℕ) → decoded_call bytes room 0x19 (a ∷ x ∷ y ∷ z ∷ []) ≡ some (matrix (update (mult (matrix_floats identity_words))))
  unfolding is_record call_of update_of matrix_of made_words call_words call_code
  no_axis a x y z = refl

  generates : (n : ℕ) → decoded_call bytes room 0x20 (n ∷ []) ≡ some (object (buffer (gen_buffers n)))
  unfolding is_record call_of buffer_of made_words call_words call_code
  generates n = λ i. some (object (buffer (gen_buffers (add-zero n i))))

  deletes : (k : ℕ) (names : List ℕ) → decoded_call bytes room 0x22 (k ∷ names) ≡ some (object (buffer (delete_buffers names)))
  unfolding is_record call_of buffer_of call_words call_code
  deletes k names = rw (eq-eqb (length names) (length names) refl)

  uploads : (target size usage has n : ℕ) (rest : List ℕ)
      → decoded_call bytes room 0x23 (target ∷ size ∷ usage ∷ has ∷ n ∷ rest) ≡ some (object (buffer (buffer_data target size (bytes_at bytes 20 n) usage)))
  unfolding is_record call_of buffer_of made_words call_words call_code
  uploads target size usage has n rest = λ i. some (object (buffer (buffer_data target (add-zero size i) (bytes_at bytes 20 (add-zero n i)) usage)))

  parts : (target offset n : ℕ) (rest : List ℕ)
      → decoded_call bytes room 0x24 (target ∷ offset ∷ n ∷ rest) ≡ some (object (buffer (buffer_sub_data target offset (bytes_at bytes 12 n))))
  unfolding is_record call_of buffer_of made_words call_words call_code
  parts target offset n rest = λ i. some (object (buffer (buffer_sub_data target offset (bytes_at bytes 12 (add-zero n i)))))
