-- What a record of a trace does to the context and to the areas: the store's, the guest's and the output
-- (TRACE.md: "Settings", "Calls", "Outer stacks, unsound contexts, state", "Output").
use Rattle.std.specs.Prelude.{List, ◌++◌, ◌≡◌, ℕ, ◌<◌, ◌≤◌, length, take, drop, Float, Option, Some, None}
use Rattle.std.specs.Float.{binary32}
use Rattle.std.specs.Float.Ieee.{of_bits}
use Rattle.context.specs.declared.Context.{Context}
use Rattle.context.specs.declared.DrawReply.{DrawReply}
use Rattle.context.specs.State.{Fresh}
use Rattle.history.specs.Demand3.{DrawDid}
use Rattle.list_words.specs.Words.{word_at}
use Rattle.list_records.specs.declared.CallReply.{CallReply}
use Rattle.list_records.specs.Perform.{Performs}
use Rattle.trace_format.specs.Fill.{filled, mark_bits}
use Rattle.trace_format.specs.Decoded.{decoded_call}
use Rattle.trace_driver.specs.declared.Borrowed.{Borrowed}
use Rattle.trace_driver.specs.Settings.{store_after, guest_after}
use Rattle.trace_driver.specs.Draws.{room_of, trace_draw}
use Rattle.trace_unsound.specs.Kinds.{ContextMade}

-- an output before a draw
abbrev pub marked : List Float → List Float
marked out = filled (λ i. of_bits binary32 (mark_bits i)) (length out) out

-- the context that a call answers; words that are no call's leave it
abbrev pub context_after : Context → Option CallReply → Context
context_after c (Some r) = r.context
context_after c None = c

-- a call was made with the words of a record and their bytes
pub record CallDone (c : Context) (code : ℕ) (w bytes s : List ℕ) (out : List Float) (c1 : Context) (s1 : List ℕ) (out1 : List Float) : Type 0 where
  pub reply : Option CallReply
  pub made : Performs c s out reply s1 out1 (decoded_call bytes (length out) code w)
  pub context : c1 ≡ context_after c reply

-- a draw was made with the words of a record, on a marked output
pub record DrawDone (c : Context) (code : ℕ) (w s : List ℕ) (base : ℕ) (guest : List ℕ) (out : List Float) (c1 : Context) (out1 : List Float) : Type 0 where
  pub reply : DrawReply
  pub did : DrawDid (trace_draw code w base guest (length (marked out))) c s reply (marked out) out1
  pub context : c1 ≡ reply.context

-- a record on the context that is no call, with its first word: FRESH, UNSOUND; any other leaves it
pub record Inspected (c : Context) (code a : ℕ) (c1 : Context) : Type 0 where
  pub fresh : code ≡ 0x02 → Fresh c1
  pub unsound : code ≡ 0x7e → ContextMade c a c1
  pub others : (code ≡ 0x02 → ⊥) → (code ≡ 0x7e → ⊥) → c1 ≡ c

-- what a draw is lent: the first bytes of both areas, as many as are borrowed, and as many f32 of the output as its words say
pub record DrawIn (c : Context) (v : Borrowed) (code : ℕ) (w store guest : List ℕ) (out : List Float) (c1 : Context) (store1 guest1 : List ℕ) (out1 : List Float) : Type 0 where
  pub part : List Float
  pub done : DrawDone c code w (take v.store store) v.base (take v.guest guest) (take (room_of w (length out)) out) c1 part
  pub output : out1 ≡ part ++ drop (room_of w (length out)) out
  pub areas : (store1 ≡ store) × (guest1 ≡ guest)

-- what another call is lent: the first bytes of the store's area
pub record CallIn (c : Context) (v : Borrowed) (code : ℕ) (w bytes store guest : List ℕ) (out : List Float)
    (c1 : Context) (store1 guest1 : List ℕ) (out1 : List Float) : Type 0 where
  pub part : List ℕ
  pub done : CallDone c code w bytes (take v.store store) out c1 part out1
  pub area : store1 ≡ part ++ drop v.store store
  pub view : guest1 ≡ guest

-- what any other record does: settings fill the areas
pub record OtherIn (c : Context) (code : ℕ) (w bytes store guest : List ℕ) (out : List Float) (c1 : Context) (store1 guest1 : List ℕ) (out1 : List Float) : Type 0 where
  pub inspected : Inspected c code (word_at w 0) c1
  pub area : store1 ≡ store_after code w bytes store
  pub view : guest1 ≡ guest_after code w bytes guest
  pub output : out1 ≡ out

-- draws have the opcodes 60 to 6f, other calls 10 to 5f
pub record Done (c : Context) (v : Borrowed) (code : ℕ) (w bytes store guest : List ℕ) (out : List Float) (c1 : Context) (store1 guest1 : List ℕ) (out1 : List Float) : Type 0 where
  pub draws : 0x60 ≤ code → code < 0x70 → DrawIn c v code w store guest out c1 store1 guest1 out1
  pub calls : 0x10 ≤ code → code < 0x60 → CallIn c v code w bytes store guest out c1 store1 guest1 out1
  pub below : code < 0x10 → OtherIn c code w bytes store guest out c1 store1 guest1 out1
  pub above : 0x70 ≤ code → OtherIn c code w bytes store guest out c1 store1 guest1 out1
