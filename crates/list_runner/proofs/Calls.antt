-- From a record to what its call does. Assumes nothing.
use mathlib.Core.Bool.{true, false, cond}
use mathlib.Core.List.{List}
use Rattle.std.specs.Prelude.{Some, None}
use mathlib.Core.Path.{◌≡◌, refl, sym, ap, subst, ◌∙◌}
use Prim.Native.Nat.{ℕ, ◌<◌, ◌≤◌}
use native.Mathlib.Omega.{arith}
use borrow.Author.Tests.{lt-ltb, le-ltb, ne_eqb, eq-eqb}
use lib.Dec.{eqb, ltb}
use lib.ListN.{length}
use lib.Ieee.{Float}
use Rattle.context.specs.declared.Context.{Context}
use Rattle.context.specs.declared.Currents.{Currents}
use Rattle.context.specs.declared.Stacks.{Stacks}
use Rattle.context.specs.declared.DrawReply.{DrawReply}
use Rattle.vertex.specs.Scene.{DrawCall}
use Rattle.stack.specs.Stack.{MatrixUpdate, update, push, pop}
use Rattle.context.proofs.Parts.{changed_in, changes_part}
use Rattle.context.specs.Contract.{put_error, Did}
use Rattle.context.specs.ContractCode.{currents_of, put_currents, put_stacks}
use Rattle.context.specs.Calls.{BufferCall, buffer, array, Call, matrix, mode, object, attribute, pipeline, take_error, draw}
use Rattle.list_records.specs.declared.CallReply.{CallReply}
use Rattle.list_words.specs.Words.{word_at, four_floats, matrix_floats}
use Rattle.list_records.specs.Encoding.{update_of, matrix_of, buffer_of, array_call_of, attribute_of, pipeline_of, source_of, draw_of_words, call_of, is_record, record_call}
use Rattle.list_records.specs.Perform.{is_draw, value_of, DrewIn, Performed, called, drew, Performs, was_made, was_unknown}

-- ---- which group a code is of

module _ (bytes : List ℕ) (room code : ℕ) (w : List ℕ) where
  pub is_mode : code ≡ 0x10 → mode (word_at w 0) ≡ call_of bytes room code w
  unfolding call_of
  is_mode e = rw (eq-eqb code 0x10 e)

  pub is_matrix : (code ≡ 0x10 → ⊥) → code < 0x20 → matrix (matrix_of code (matrix_floats w)) ≡ call_of bytes room code w
  unfolding call_of
  is_matrix n h = rw (ne_eqb code 0x10 n, lt-ltb code 0x20 h)

  pub is_buffer : 0x20 ≤ code → code < 0x30 → object (buffer (buffer_of bytes code w)) ≡ call_of bytes room code w
  unfolding call_of
  is_buffer l h = rw (ne_eqb code 0x10 (λ e. absurd (omega arith)), le-ltb code 0x20 l, lt-ltb code 0x30 h)

  -- a matrix call by its own code
  pub is_push : code ≡ 0x14 → matrix push ≡ call_of bytes room code w
  unfolding call_of matrix_of
  is_push e = rw e

  pub is_pop : code ≡ 0x15 → matrix pop ≡ call_of bytes room code w
  unfolding call_of matrix_of
  is_pop e = rw e

  pub is_update : (code ≡ 0x14 → ⊥) → (code ≡ 0x15 → ⊥) → (code ≡ 0x10 → ⊥) → code < 0x20 → matrix (update (update_of code (matrix_floats w))) ≡ call_of bytes room code w
  unfolding matrix_of
  is_update p q n h = ap matrix (rw (ne_eqb code 0x14 p, ne_eqb code 0x15 q)) ∙ is_matrix n h

  -- from buffers on
  above : 0x30 ≤ code → {k : Call}
      → k ≡ cond (ltb code 0x36) (object (array (array_call_of code (word_at w 0) (word_at w 1) (word_at w 2) (word_at w 3))))
      (cond (ltb code 0x40) (attribute (attribute_of code (word_at w 0) (four_floats w)))
      (cond (ltb code 0x50) (pipeline (pipeline_of code (word_at w 0) (word_at w 1) (four_floats w)))
      (cond (eqb code 0x50) take_error
      (draw (draw_of_words bytes room (source_of code w) w)))))
      → k ≡ call_of bytes room code w
  unfolding call_of
  above l e = rw (ne_eqb code 0x10 (λ q. absurd (omega arith)), le-ltb code 0x20 (omega arith), le-ltb code 0x30 l) e

  pub is_array : 0x30 ≤ code → code < 0x36 → object (array (array_call_of code (word_at w 0) (word_at w 1) (word_at w 2) (word_at w 3))) ≡ call_of bytes room code w
  is_array l h = above l (rw (lt-ltb code 0x36 h))

  pub is_attribute : 0x36 ≤ code → code < 0x40 → attribute (attribute_of code (word_at w 0) (four_floats w)) ≡ call_of bytes room code w
  is_attribute l h = above (omega arith) (rw (le-ltb code 0x36 l, lt-ltb code 0x40 h))

  pub is_pipeline : 0x40 ≤ code → code < 0x50 → pipeline (pipeline_of code (word_at w 0) (word_at w 1) (four_floats w)) ≡ call_of bytes room code w
  is_pipeline l h = above (omega arith) (rw (le-ltb code 0x36 (omega arith), le-ltb code 0x40 l, lt-ltb code 0x50 h))

  pub is_take_error : code ≡ 0x50 → take_error ≡ call_of bytes room code w
  unfolding call_of
  is_take_error e = rw e

  pub is_draw_law : 0x50 < code → draw (draw_of_words bytes room (source_of code w) w) ≡ call_of bytes room code w
  is_draw_law l =
      above (omega arith)
      (rw (le-ltb code 0x36 (omega arith), le-ltb code 0x40 (omega arith), le-ltb code 0x50 (omega arith), ne_eqb code 0x50 (λ e. absurd (omega arith))))

-- ---- what the call of a group does

performed_is : {k k' : Call} {c c1 : Context} {s s1 : List ℕ} {out out1 : List Float} {n v : ℕ} → k ≡ k' → Performed c s out n v c1 s1 out1 k → Performed c s out n v c1 s1 out1 k'
performed_is {c = c} {c1 = c1} {s = s} {s1 = s1} {out = out} {out1 = out1} {n = n} {v = v} e p = subst (λ (k : Call). Performed c s out n v c1 s1 out1 k) e p

module _ {k' : Call} {c : Context} {out : List Float} where
  pub performed : {k : Call} {n v : ℕ} {c1 : Context} {s s1 : List ℕ} → k ≡ k' → Did k c s n c1 s1 → is_draw k ≡ false → v ≡ value_of k c n → Performed c s out n v c1 s1 out k'
  performed e m f v = performed_is e (called m f v refl)

  pub performed_draw : {d : DrawCall} {s : List ℕ} {out1 : List Float} {a : DrawReply} → draw d ≡ k' → DrewIn d c s out a out1
      → Performed c s out a.number a.count a.context s out1 k'
  performed_draw e m = performed_is e (drew m refl)

-- ---- a code and its words

module _ (bytes : List ℕ) (room code : ℕ) (w : List ℕ) {c : Context} {s : List ℕ} {out : List Float} where
  pub no_record_call : is_record code (length w) ≡ false → Performs c s out None s out (record_call bytes room code w)
  no_record_call e = rw e (was_unknown refl refl refl)

  pub a_record_call : is_record code (length w) ≡ true → {r : CallReply} {s1 : List ℕ} {out1 : List Float}
      → Performed c s out r.number r.value r.context s1 out1 (call_of bytes room code w) → Performs c s out (Some r) s1 out1 (record_call bytes room code w)
  a_record_call e p = rw e (was_made refl p)

-- ---- the context after a step of the loop

-- where the loop puts back the part that the call changes, it has the context that the call left
pub placed : {k : Call} {c c1 c2 : Context} {n : ℕ} {s s1 : List ℕ} → Did k c s n c1 s1 → c2 ≡ changed_in k c c1 → c2 ≡ c1
placed d e = e ∙ changes_part d

-- the same where it puts back the current matrices
pub currents_placed : {u : MatrixUpdate} {c c1 c2 : Context} {n : ℕ} {s s1 : List ℕ} {m : Currents} {t : Stacks} → Did (matrix (update u)) c s n c1 s1
    → m ≡ currents_of c1.stacks → t ≡ put_currents m c.stacks → c2 ≡ put_error c1.error (put_stacks t c) → c2 ≡ c1
currents_placed {c = c} {c1 = c1} d p q e =
    placed d (e ∙ ap (λ (x : Stacks). put_error c1.error (put_stacks x c)) (q ∙ ap (λ (x : Currents). put_currents x c.stacks) p))
