-- Worked examples as theorems about the rules.
use Rattle.std.proofs.Common.{true≢false, ⊎_elim, sym, ◌∙◌, arith, ne_eqb}
use mathlib.Core.List.{List, [], ◌∷◌, ◌++◌, foldl}
use Rattle.std.proofs.Math.Option.{some, none}
use Rattle.std.specs.Prelude.{◌≡◌, refl, ℕ, ◌<◌}
use Rattle.stack.specs.Stack.{pop, stack_step}
use Rattle.buffers.specs.Objects as objects
use Rattle.buffers.specs.Bounded.{count}
use Rattle.arrays.specs.Arrays.{vertex_pointer, accepted_arrays, array_step}
use Rattle.context.specs.declared.Context.{Context}
use Rattle.context.specs.State.{State, fresh_state}
use Rattle.context.specs.Calls.{gen_buffers, bind_buffer, delete_buffers, buffer, array, Call, matrix, mode, object, take_error}
use Rattle.context.specs.Rules.{number_of, step}
use Rattle.context.specs.Contract.{noted, Follows}

-- the state after a list of calls
abbrev pub after : List Call → State
after calls = foldl (λ s call. step call s) fresh_state calls

-- bind 5 at target 0: 0x0500, 5 is live, next is 6
abbrev pub bind5 : Call
bind5 = object (buffer (bind_buffer 0 5))

pub bind_number : number_of bind5 fresh_state ≡ 0x0500
unfolding objects.bind_answer objects.live_names count
bind_number = refl

pub bind_lives : (after (bind5 ∷ [])).objects.buffers.contents 5 ≡ some []
unfolding objects.bind_answer objects.named objects.live_names count
bind_lives = refl

pub bind_next : (after (bind5 ∷ [])).objects.buffers.next ≡ 6
unfolding objects.bind_answer objects.named objects.live_names count
bind_next = refl

-- bind 0 at target 0 makes no name: it changes nothing but the error slot
pub bind_zero_keeps : {c c1 : Context} {s s1 : List ℕ} {n : ℕ} → Follows (object (buffer (bind_buffer 0 0))) c s n c1 s1 → c1 ≡ noted n c
unfolding objects.bind_answer
bind_zero_keeps {n = n} f =
    let refused : n ≡ 0x0500 = f.number in
    ⊎_elim (λ e. e) (λ m. absurd (true≢false (sym m.0.0))) (f.refusal (λ z. omega arith)).0

-- a slot that a call frees has length 0
pub freed_is_empty : {k : Call} {c c1 : Context} {s s1 : List ℕ} {n : ℕ} → Follows k c s n c1 s1
    → (j : ℕ) → j < objects.slot_count → 0 < objects.name_at c.buffers.slots j → objects.name_at c1.buffers.slots j ≡ 0 → objects.len_at c1.buffers.slots j ≡ 0
freed_is_empty {c = c} f j h used free = f.free.lengths j h free ∙ simp (ne_eqb (objects.name_at c.buffers.slots j) 0 (λ z. omega arith))

-- 16 names fit, and the largest name is 2^32-2
pub gen_limits : (number_of (object (buffer (gen_buffers 16))) fresh_state ≡ 0) × (number_of (object (buffer (gen_buffers 17))) fresh_state ≡ 4)
unfolding objects.gen_answer objects.live_names count
gen_limits = (refl, refl)

pub last_name_made : (number_of (object (buffer (bind_buffer 0x8892 4294967294))) fresh_state ≡ 0) × (number_of (object (buffer (bind_buffer 0x8892 4294967295))) fresh_state ≡ 5)
unfolding objects.bind_answer objects.live_names count
last_name_made = (refl, refl)

-- the slot keeps the first code, and take_error empties it
pub first_code_stays : (after (mode 7 ∷ matrix pop ∷ [])).error ≡ 0x0500
first_code_stays = refl

pub taken : (after (mode 7 ∷ matrix pop ∷ take_error ∷ matrix pop ∷ [])).error ≡ 0x0504
unfolding stack_step
taken = refl

-- a deleted name stays in an array's buffer field, and is live again when it is bound again
abbrev pub bound_then_deleted : List Call
bound_then_deleted = object (buffer (bind_buffer 0x8892 5)) ∷ object (array (vertex_pointer 3 0x1406 0 0)) ∷ object (buffer (delete_buffers (5 ∷ []))) ∷ []

pub deleted_stays : (after bound_then_deleted).objects.arrays.vertex.buffer ≡ 5
unfolding array_step accepted_arrays objects.bind_answer objects.live_names count
deleted_stays = refl

pub deleted_is_gone : (after bound_then_deleted).objects.buffers.contents 5 ≡ none
unfolding objects.bind_answer objects.named objects.live_names count objects.delete_names objects.delete_name
deleted_is_gone = refl

pub revived : (after (bound_then_deleted ++ (object (buffer (bind_buffer 0x8893 5)) ∷ []))).objects.buffers.contents 5 ≡ some []
unfolding objects.bind_answer objects.named objects.live_names count objects.delete_names objects.delete_name
revived = refl
