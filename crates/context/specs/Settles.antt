-- What the contract settles (01: "Terms of the contracts"): all of a call's answer but which slot holds a name and what the store
-- holds outside live buffers. proofs/Settles.antt proves it.
use Rattle.std.specs.Prelude.{true, false, List, ◌≡◌, ℕ, ◌<◌, length, Float}
use Rattle.buffers.specs.Objects.{slot_count, store_bytes, name_at, len_at, slot_of, gen_first}
use Rattle.vertex.specs.Scene.{DrawCall}
use Rattle.draw.specs.Draw.{Drawn}
use Rattle.context.specs.declared.Context.{Context}
use Rattle.context.specs.State.{state_of}
use Rattle.context.specs.Calls.{gen_buffers, buffer, of_buffers, Call, object, take_error}
use Rattle.context.specs.Rules.{error_code}
use Rattle.context.specs.Contract.{put_buffers, StillMakes, Did, Drew}

-- Two answers to one call, on context c0 and a store that holds s0, agree: in the number, in the state, in every place of the stacks
-- and in every part of the context but the slots; after any call but a buffer call in these too. Of the slots they agree in the
-- length of each that both leave free and, with a store of 65,536 bytes, in the length beside each live name. A refused call leaves
-- the same store and, unless it is a bind that still makes its name, the same context.
pub record Agree (call : Call) (c0 : Context) (s0 : List ℕ) (n n' : ℕ) (c c' : Context) (s s' : List ℕ) : Type 0 where
  pub number : n ≡ n'
  pub state : state_of c s ≡ state_of c' s'
  pub stacks : c.stacks ≡ c'.stacks
  pub parts : put_buffers c'.buffers c ≡ c'
  pub slots : of_buffers (λ k. true) call ≡ false → c ≡ c'
  pub free : (k : ℕ) → k < slot_count → name_at c.buffers.slots k ≡ 0 → name_at c'.buffers.slots k ≡ 0 → len_at c.buffers.slots k ≡ len_at c'.buffers.slots k
  pub live : length s ≡ store_bytes → (m : ℕ) → 0 < m → slot_of c.buffers.slots m < slot_count
      → len_at c.buffers.slots (slot_of c.buffers.slots m) ≡ len_at c'.buffers.slots (slot_of c'.buffers.slots m)
  pub refusal : (n ≡ 0 → ⊥) → (s ≡ s') × ((StillMakes call n c0 s0 → ⊥) → c ≡ c')
  pub size : length s ≡ length s'

pub record Settles : Type 0 where
  -- two answers that both meet the contract of one call, on the same context and store
  pub calls : {call : Call} {c c1 c1' : Context} {s s1 s1' : List ℕ} {n n' : ℕ} → Did call c s n c1 s1 → Did call c s n' c1' s1' → Agree call c s n n' c1 c1' s1 s1'
  -- and of one draw, on the same output: the count and every f32 of the output
  pub draws : {d : DrawCall} {c : Context} {s : List ℕ} {r r' : Drawn} {out out1 out1' : List Float} → Drew d c s r out out1 → Drew d c s r' out out1'
      → (r.count ≡ r'.count) × (out1 ≡ out1')
  -- and what two entries promise besides: gen's first name, and take_error's code
  pub first : {m : ℕ} {c c1 c1' : Context} {s s1 s1' : List ℕ} {n n' : ℕ} → Did (object (buffer (gen_buffers m))) c s n c1 s1 → Did (object (buffer (gen_buffers m))) c s n' c1' s1'
      → gen_first n c.buffers.next m ≡ gen_first n' c.buffers.next m
  pub code : {c c1 c1' : Context} {s s1 s1' : List ℕ} {n n' : ℕ} → Did take_error c s n c1 s1 → Did take_error c s n' c1' s1'
      → error_code n c.error ≡ error_code n' c.error
