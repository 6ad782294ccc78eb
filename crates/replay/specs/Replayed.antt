-- The records of a trace, one after the other: what the program holds after them (TRACE.md: "What the driver holds").
use Rattle.std.specs.Prelude.{true, List, ◌≡◌, ℕ, take, replicate, Float}
use Rattle.stack.specs.Stack.{fresh_stack}
use Rattle.stack.specs.declared.MatrixStack.{MatrixStack}
use Rattle.context.specs.declared.Context.{Context}
use Rattle.context.specs.State.{Fresh}
use Rattle.list_words.specs.Words.{word_at}
use Rattle.trace_driver.specs.declared.Borrowed.{Borrowed}
use Rattle.trace_driver.specs.Settings.{fresh_borrowed, borrowed_after}
use Rattle.trace_driver.specs.Stacks.{stack_slots, outer_stacks_after}
use Rattle.trace_driver.specs.Permitted.{is_permitted}
use Rattle.trace_reader.specs.Kept.{ReadFrom}
use Rattle.trace_reader.specs.declared.Header.{Header}
use Rattle.trace_session.specs.Records.{Done}

-- a record that was read keeps the format, its words are those of the bytes, and it may come now
pub record Comes (c : Context) (v : Borrowed) (h : Header) (bytes w w1 : List ℕ) : Type 0 where
  pub read : ReadFrom h bytes w w1
  pub permitted : is_permitted c v h.code (take h.n w1) ≡ true

-- what the program holds
pub record Held : Type 0 where
  pub context : Context
  pub borrowed : Borrowed
  pub stacks : List MatrixStack
  pub store : List ℕ
  pub guest : List ℕ
  pub output : List Float

abbrev pub held : Context → Borrowed → List MatrixStack → List ℕ → List ℕ → List Float → Held
held c v stacks store guest out = record { context = c; borrowed = v; stacks = stacks; store = store; guest = guest; output = out }

-- What is held after records from the start on, over areas as they were given.
-- Each record keeps the format, may come where it comes, and is done on what the one before left. Its words are the first of the area w1.
pub data Replayed (s0 g0 : List ℕ) (o0 : List Float) : Held → Type 0 where
  started : {c : Context} → Fresh c → Replayed s0 g0 o0 (held c fresh_borrowed (replicate stack_slots fresh_stack) s0 g0 o0)
  followed : {c c1 : Context} {v : Borrowed} {stacks : List MatrixStack} {store guest store1 guest1 : List ℕ} {out out1 : List Float} {h : Header} {bytes w w1 : List ℕ}
      → Replayed s0 g0 o0 (held c v stacks store guest out) → Comes c v h bytes w w1 → Done c v h.code (take h.n w1) bytes store guest out c1 store1 guest1 out1
      → Replayed s0 g0 o0
      (held c1 (borrowed_after h.code (word_at (take h.n w1) 0) (word_at (take h.n w1) 1) v) (outer_stacks_after h.code (take h.n w1) stacks) store1 guest1 out1)

-- the areas in the end
pub record Replays (s0 g0 : List ℕ) (o0 : List Float) (s1 g1 : List ℕ) (o1 : List Float) : Type 0 where
  pub context : Context
  pub borrowed : Borrowed
  pub stacks : List MatrixStack
  pub replayed : Replayed s0 g0 o0 (held context borrowed stacks s1 g1 o1)
