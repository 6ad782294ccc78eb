-- The stack's record follows the rules on what it stands for. Assumes nothing.
use mathlib.Core.Path.{◌≡◌, refl, sym, ◌∙◌}
use mathlib.Core.Bool.{Bool, true, false, cond}
use Prim.Native.Nat.{ℕ, ◌-◌, ◌<◌}
use native.Mathlib.Nat.{le_of_lt}
use native.Mathlib.Numerals.{add-one}
use native.Mathlib.Omega.{arith}
use borrow.Author.Tests.{lt-ltb, le-ltb, ltb-true, eqb-true}
use lib.Dec.{ltb, eqb}
use lib.ListN.{length, length-set}
use lib.Seq.{take-suc-set, length-take-le, get_or-take, take-take}
use Rattle.refusal.specs.Refusals.{Answer}
use Rattle.stack.specs.Stack.{limit, Sound, MatrixCall, update, push, pop, stack_number, stack_state_of, fresh_stack_state, no_matrix, stack_effect}
use Rattle.stack.specs.Stack.{stack_step, stack_answered, changed, stack_answer, fresh_stack}
use Rattle.stack.specs.declared.MatrixStack.{MatrixStack}

pub fresh_sound : Sound fresh_stack
fresh_sound = record { places = refl; within = omega arith }

pub fresh_state_law : stack_state_of fresh_stack ≡ fresh_stack_state
fresh_state_law = refl

-- a number is 0 only where the test passed
passed : (b : Bool) (n : ℕ) → 0 < n → cond b 0 n ≡ 0 → b ≡ true
passed true n h e = refl
passed false n h e = absurd (omega arith)

module _ (s : MatrixStack) (g : Sound s) where
  -- how many matrices are saved is what the answers go by
  pub count : length (stack_state_of s).saved ≡ s.depth
  count = length-take-le s.depth s.saved (rw g.places g.within)

  effect : (k : MatrixCall) → stack_number k s.depth ≡ 0 → stack_state_of (changed k s) ≡ stack_effect k (stack_state_of s)
  effect (update u) e = refl
  effect push e =
      let h : s.depth < limit = ltb-true _ _ (passed _ 0x0503 (omega arith) e) in
      let long : s.depth < length s.saved = rw g.places h in
      rw (add-one s.depth, take-suc-set s.saved s.depth s.current long)
  effect pop e =
      let d = s.depth in
      let h : 0 < d = ltb-true _ _ (passed _ 0x0504 (omega arith) e) in
      let b : d - 1 < d = omega arith in
      rw (count, get_or-take d s.saved (d - 1) no_matrix b, take-take (d - 1) d s.saved (le_of_lt b))

  effect_sound : (k : MatrixCall) → stack_number k s.depth ≡ 0 → Sound (changed k s)
  effect_sound (update u) e = record { places = g.places; within = g.within }
  effect_sound push e =
      let h : s.depth < limit = ltb-true _ _ (passed _ 0x0503 (omega arith) e) in
      record { places = length-set s.saved s.depth s.current ∙ g.places; within = omega arith }
  effect_sound pop e = record { places = g.places; within = omega (arith, g.within) }

  -- of a sound stack the answer is one of two
  abbrev pub two : MatrixCall → Bool → Answer MatrixStack
  two k b = cond b (stack_answered 0 (changed k s)) (stack_answered (stack_number k s.depth) s)

  pub is_two : (k : MatrixCall) → stack_answer k s ≡ two k (eqb (stack_number k s.depth) 0)
  unfolding stack_answer
  is_two k = rw (le-ltb limit s.depth g.within)

  abbrev Follows : MatrixCall → Answer MatrixStack → Type 0
  Follows k a =
      (a.number ≡ stack_number k (length (stack_state_of s).saved)) × (stack_state_of a.after ≡ stack_step k (stack_state_of s)) × Sound a.after

  follows_two : (k : MatrixCall) (b : Bool) → eqb (stack_number k s.depth) 0 ≡ b → Follows k (two k b)
  unfolding stack_step
  follows_two k true e =
      let z : stack_number k s.depth ≡ 0 = eqb-true _ _ e in
      (rw count (sym z), rw (count, e) (effect k z), effect_sound k z)
  follows_two k false e = (rw count, rw (count, e), g)

  -- a call on the record: the number, the state and the soundness that the rules give
  pub follows : (k : MatrixCall) → Follows k (stack_answer k s)
  follows k = rw (is_two k) (follows_two k (eqb (stack_number k s.depth) 0) refl)

-- a refusal changes nothing, of any stack
pub stack_stays : (k : MatrixCall) (s : MatrixStack) → ((stack_answer k s).number ≡ 0 → ⊥) → (stack_answer k s).after ≡ s
unfolding stack_answer
stack_stays k s = go (ltb limit s.depth) (eqb (stack_number k s.depth) 0)
  where
    go : (a b : Bool) → ((cond a (stack_answered 1 s) (cond b (stack_answered 0 (changed k s)) (stack_answered (stack_number k s.depth) s))).number ≡ 0 → ⊥)
        → (cond a (stack_answered 1 s) (cond b (stack_answered 0 (changed k s)) (stack_answered (stack_number k s.depth) s))).after ≡ s
    go true b h = refl
    go false true h = absurd (h refl)
    go false false h = refl

-- an unsound stack gives 1
pub stack_unsound : (k : MatrixCall) (s : MatrixStack) → limit < s.depth → stack_answer k s ≡ stack_answered 1 s
unfolding stack_answer
stack_unsound k s h = simp (lt-ltb limit s.depth h)
