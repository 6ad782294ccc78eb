-- What the function that makes the calls of a list promises.
use Rattle.std.specs.Prelude.{List, [], ◌∷◌, ◌++◌, ◌≡◌, ℕ, length, Float, Result, Err, IsOkAnd}
use Rattle.refusal.specs.declared.Refusal.{Refusal}
use Rattle.buffers.specs.Objects.{store_bytes}
use Rattle.draw.specs.Draw.{output_of}
use Rattle.context.specs.declared.Context.{Context}
use Rattle.context.specs.Calls.{Call, matrix, mode, object, attribute, pipeline, take_error, draw}
use Rattle.history.specs.Demand3.{Logs, logs, draw_replayed, History}
use Rattle.list_records.specs.Perform.{Performed}
use Rattle.list_runner.specs.declared.ListReply.{ListReply}
use Rattle.list_runner.specs.Lists.{decode, words_read}

-- ---- a list, on any context, store and output

-- `InTurn c s out l n value c1 s1 out1`: the calls of l were made, each on what the one before left; n and value are those of the last, 0 where there is none
pub data InTurn (c : Context) (s : List ℕ) (out : List Float) : List Call → ℕ → ℕ → Context → List ℕ → List Float → Type 0 where
  no_call : InTurn c s out [] 0 0 c s out
  one_more : {l : List Call} {k : Call} {n0 v0 n value : ℕ} {c1 c2 : Context} {s1 s2 : List ℕ} {out1 out2 : List Float}
      → InTurn c s out l n0 v0 c1 s1 out1 → Performed c1 s1 out1 n value c2 s2 out2 k
      → InTurn c s out (l ++ (k ∷ [])) n value c2 s2 out2

-- the calls of a list are made, up to the first words that are no record
pub record MakesList (c : Context) (words bytes s : List ℕ) (out : List Float) (r : ListReply) (s1 : List ℕ) (out1 : List Float) : Type 0 where
  pub read : r.read ≡ words_read bytes (length out) words
  pub count : r.made ≡ length (decode bytes (length out) words)
  pub made : InTurn c s out (decode bytes (length out) words) r.number r.value r.context s1 out1

-- ---- a list from fresh: proofs/Running.antt shows what follows from the calls before

-- the output after a call, where the logs of the calls before it are g
abbrev pub output_after : Logs → Call → List Float → List Float
output_after g (matrix k) out = out
output_after g (mode code) out = out
output_after g (object k) out = out
output_after g (attribute k) out = out
output_after g (pipeline k) out = out
output_after g take_error out = out
output_after g (draw d) out = output_of (draw_replayed g d).triangles out

-- the output after the calls of a list, each draw by the logs of the calls before it
unfoldable pub output_from : List Call → List Call → List Float → List Float
output_from before [] out = out
output_from before (k ∷ l) out = output_from (before ++ (k ∷ [])) l (output_after (logs before) k out)

-- A store of the wrong size is refused, and nothing is done. Else the calls of the list are made from a fresh context, up to the first words that are no record.
pub record Runs (words bytes s : List ℕ) (out : List Float) (r : Result ListReply Refusal) (s1 : List ℕ) (out1 : List Float) : Type 0 where
  pub refused : (length s ≡ store_bytes → ⊥) → (r ≡ Err Refusal.Invalid) × (s1 ≡ s) × (out1 ≡ out)
  pub ran : length s ≡ store_bytes
      → IsOkAnd r (λ a. (a.read ≡ words_read bytes (length out) words) × History (decode bytes (length out) words) a.context s1)
      × (out1 ≡ output_from [] (decode bytes (length out) words) out)
