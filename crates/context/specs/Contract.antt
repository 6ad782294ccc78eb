-- What every entry promises (01: "Questions at the door", "Terms of the contracts").
use Rattle.std.specs.Prelude.{true, false, List, ◌⊎◌, ◌≡◌, ℕ, length, Float}
use Rattle.stack.specs.Stack.{stack_answer}
use Rattle.stack.specs.declared.MatrixStack.{MatrixStack}
use Rattle.buffers.specs.Objects.{store_bytes, FreeSlots}
use Rattle.buffers.specs.declared.Buffers.{Buffers}
use Rattle.vertex.specs.Scene.{Source, DrawCall}
use Rattle.draw.specs.Draw.{Drawn, Draws}
use Rattle.context.specs.declared.MatrixMode.{MatrixMode}
use Rattle.context.specs.declared.Stacks.{Stacks}
use Rattle.context.specs.declared.Context.{Context}
use Rattle.context.specs.declared.DrawReply.{DrawReply}
use Rattle.context.specs.State.{stack_at, state_of, Sound}
use Rattle.context.specs.Calls.{of_buffers, borrows_store, Call, matrix, mode, object, attribute, pipeline, take_error, draw}
use Rattle.context.specs.Rules.{makes_name, slot_after, drawing, number_of, step}

-- ---- one part of a context replaced, and a call's number noted

abbrev pub put_stack : MatrixMode → MatrixStack → Stacks → Stacks
put_stack MatrixMode.Modelview t s = record { modelview = t; projection = s.projection; texture = s.texture }
put_stack MatrixMode.Projection t s = record { modelview = s.modelview; projection = t; texture = s.texture }
put_stack MatrixMode.Texture t s = record { modelview = s.modelview; projection = s.projection; texture = t }

abbrev pub put_buffers : Buffers → Context → Context
put_buffers b c = record { mode = c.mode; stacks = c.stacks; buffers = b; arrays = c.arrays; attributes = c.attributes; pipeline = c.pipeline; error = c.error }

abbrev pub put_error : ℕ → Context → Context
put_error e c = record { mode = c.mode; stacks = c.stacks; buffers = c.buffers; arrays = c.arrays; attributes = c.attributes; pipeline = c.pipeline; error = e }

-- the context with a call's number taken into its error slot
abbrev pub noted : ℕ → Context → Context
noted number c = put_error (slot_after number c.error) c

-- ---- the contract

-- what is tested first in every call: a sound context, and a store of 65,536 bytes where the call borrows it
pub record Valid (call : Call) (c : Context) (s : List ℕ) : Type 0 where
  pub sound : Sound c
  pub store : borrows_store call ≡ true → length s ≡ store_bytes

-- the stacks after a call, every place of them
abbrev pub stacks_after : Call → Context → Stacks
stacks_after (matrix k) c = put_stack c.mode (stack_answer k (stack_at c.mode c.stacks)).after c.stacks
stacks_after (mode code) c = c.stacks
stacks_after (object k) c = c.stacks
stacks_after (attribute k) c = c.stacks
stacks_after (pipeline k) c = c.stacks
stacks_after take_error c = c.stacks
stacks_after (draw d) c = c.stacks

-- a bind at a refused target, 0x0500, of a name that is neither 0 nor live: it is refused and still makes the name
abbrev pub StillMakes : Call → ℕ → Context → List ℕ → Type 0
StillMakes call n c s = (of_buffers (λ k. makes_name k (state_of c s).objects.buffers) call ≡ true) × (n ≡ 0x0500)

-- a refusal changes nothing but the slot, save that such a bind changes the buffers
abbrev pub RefusalKeeps : Call → ℕ → Context → List ℕ → Context → Type 0
RefusalKeeps call n c s c' = (c' ≡ noted n c) ⊎ (StillMakes call n c s × (c' ≡ noted n (put_buffers c'.buffers c)))

-- A valid call follows the rules: its number, the state that the context and the store stand for afterwards, a sound context, the
-- lengths in free slots, and what a refusal leaves. Which slot holds a name, and what the store holds outside live buffers, is free
-- after a buffer call and stays after any other.
pub record Follows (call : Call) (c : Context) (s : List ℕ) (n : ℕ) (c' : Context) (s' : List ℕ) : Type 0 where
  pub number : n ≡ number_of call (state_of c s)
  pub state : state_of c' s' ≡ step call (state_of c s)
  pub sound : Sound c'
  pub stacks : c'.stacks ≡ stacks_after call c
  pub slots : of_buffers (λ k. true) call ≡ false → c'.buffers ≡ c.buffers
  pub free : FreeSlots c.buffers.slots c'.buffers.slots
  pub refusal : (n ≡ 0 → ⊥) → RefusalKeeps call n c s c' × (s' ≡ s)

-- `Did call c s n c' s'`: on context c and a store that holds s the call answers n and leaves c' and s'. A call that is not valid answers 1 and changes nothing.
pub record Did (call : Call) (c : Context) (s : List ℕ) (n : ℕ) (c' : Context) (s' : List ℕ) : Type 0 where
  pub invalid : (Valid call c s → ⊥) → (n ≡ 1) × (c' ≡ c) × (s' ≡ s)
  pub follows : Valid call c s → Follows call c s n c' s'
  pub size : length s' ≡ length s

-- an entry that does not borrow the store: the same over every store
abbrev pub Does : Call → Context → ℕ → Context → Type 0
Does call c n c' = (s : List ℕ) → Did call c s n c' s

-- What a draw promises besides: its count of triangles, and the output before and after. A draw that is not valid counts 0 and leaves the output.
pub record Drew (d : DrawCall) (c : Context) (s : List ℕ) (r : Drawn) (out out' : List Float) : Type 0 where
  pub invalid : (Valid (draw d) c s → ⊥) → (r.count ≡ 0) × (out' ≡ out)
  pub drawn : Valid (draw d) c s → Draws (drawing (state_of c s).stacks (state_of c s).objects (state_of c s).attributes d) r out out'

-- ---- a draw's arguments and its answer, as the entries have them

abbrev pub draw_call : Source → ℕ → ℕ → ℕ → List ℕ → ℕ → DrawCall
draw_call src m st b g n = record { source = src; mode = m; stages = st; base = b; guest = g; room = n }

abbrev pub draw_reply : ℕ → ℕ → Context → DrawReply
draw_reply n count c = record { number = n; count = count; context = c }

abbrev pub drawn_of : DrawReply → Drawn
drawn_of r = record { number = r.number; count = r.count }
