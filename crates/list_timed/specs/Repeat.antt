-- A list of calls, made several times.
use Rattle.std.specs.Prelude.{List, [], ◌++◌, ◌≡◌, ℕ, zero, suc, length, Float}
use Rattle.buffers.specs.Objects.{store_bytes}
use Rattle.context.specs.declared.Context.{Context}
use Rattle.context.specs.Calls.{Call}
use Rattle.history.specs.Demand3.{History}
use Rattle.list_runner.specs.Lists.{decode, words_read}
use Rattle.list_runner.specs.Run.{output_from}

-- a list, so many times
unfoldable pub times_of : ℕ → List Call → List Call
times_of zero l = []
times_of (suc n) l = times_of n l ++ l

-- the calls of a list are made so many times, after other calls
pub record Repeats (before : List Call) (times : ℕ) (words bytes : List ℕ) (out : List Float) (c1 : Context) (s1 : List ℕ) (out1 : List Float) : Type 0 where
  pub history : History (before ++ times_of times (decode bytes (length out) words)) c1 s1
  pub output : out1 ≡ output_from before (times_of times (decode bytes (length out) words)) out

-- the calls of `first`, then those of `again`, so many times
abbrev pub calls_of : List ℕ → List ℕ → ℕ → List ℕ → ℕ → List Call
calls_of first again times bytes room = decode bytes room first ++ times_of times (decode bytes room again)

-- these calls left s in the store
pub record Left (l : List Call) (s : List ℕ) : Type 0 where
  pub context : Context
  pub history : History l context s

-- A store of the wrong size is refused, and nothing is done. Else the calls are made, and the output is that of the list.
pub record RunsAgain (first again : List ℕ) (times : ℕ) (bytes s : List ℕ) (out : List Float) (read : ℕ) (s1 : List ℕ) (out1 : List Float) : Type 0 where
  pub refused : (length s ≡ store_bytes → ⊥) → (read ≡ 0) × (s1 ≡ s) × (out1 ≡ out)
  pub ran : length s ≡ store_bytes
      → (read ≡ words_read bytes (length out) first) × Left (calls_of first again times bytes (length out)) s1
      × (out1 ≡ output_from [] (calls_of first again times bytes (length out)) out)
