-- The contexts of the worked examples.
use Rattle.std.specs.Prelude.{true, List, ◌≡◌, ℕ}
use Rattle.arrays.specs.Arrays.{vertex_pointer, client_state}
use Rattle.context.specs.declared.Context.{Context}
use Rattle.context.specs.State.{State, fresh_state, state_of, Sound}
use Rattle.context.specs.Calls.{Call, object, array}
use Rattle.context.specs.Rules.{step}

-- the two calls: a vertex array without gaps, enabled
abbrev pub pointed : ℕ → ℕ → ℕ → Call
pointed size ty pointer = object (array (vertex_pointer size ty 0 pointer))

abbrev pub enabled : Call
enabled = object (array (client_state 0x8074 true))

abbrev pub with_vertices : ℕ → ℕ → ℕ → State → State
with_vertices size ty pointer s = step enabled (step (pointed size ty pointer) s)

-- what the calls make of a context: a sound one stays sound and its state follows the rules, over any store; an unsound one does not change
pub record HasVertices (size ty pointer : ℕ) (c c' : Context) : Type 0 where
  pub sound : Sound c → Sound c'
  pub state : Sound c → (s : List ℕ) → state_of c' s ≡ with_vertices size ty pointer (state_of c s)
  pub unsound : (Sound c → ⊥) → c' ≡ c

-- a fresh context with three signed bytes a vertex, at address 4096
pub record HasPositions (c : Context) : Type 0 where
  pub sound : Sound c
  pub state : (s : List ℕ) → state_of c s ≡ with_vertices 3 0x1400 4096 fresh_state
