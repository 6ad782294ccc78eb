-- `gen_buffers`: the rule case by case, and the loop that makes its names.
use Prim.Native.Nat.{ℕ, suc, ◌+◌, ◌<◌, ◌≤◌}
use mathlib.Core.Bool.{Bool, true, cond}
use mathlib.Core.List.{List, []}
use mathlib.Core.Path.{◌≡◌, sym, ap, ◌∙◌}
use native.Mathlib.Omega.{arith}
use borrow.Author.Tests.{lt-ltb, le-ltb, ne_eqb}
use Rattle.refusal.specs.Refusals.{answer}
use Rattle.buffers.specs.Objects.{Objects, objects, live_names, named, make, gen_names, gen_answer, room_for, Sound}
use Rattle.buffers.specs.ObjectsCode.{Filled, MakesName}
use Rattle.buffers.specs.declared.Buffers.{Buffers}
use Rattle.buffers.proofs.Slots.{contents_none}
use Rattle.buffers.proofs.Free.{filled_same, filled_then}
use Rattle.buffers.proofs.Laws.{live_next}

-- `left` of the n names are still to be made
pub record Left (b : Buffers) (n : ℕ) (out : Buffers) (left : ℕ) : Type 0 where
  pub state : (s : List ℕ) → gen_names left (objects out s) ≡ gen_names n (objects b s)
  pub sound : Sound out
  pub live : (s : List ℕ) → live_names (objects out s) + left ≤ 16
  pub next : out.next + left ≤ 4294967295
  pub slots : Filled b.slots out.slots

-- the next name is new, and there is room for it
next_room : (b : Buffers) → Sound b → (s : List ℕ) → live_names (objects b s) < 16 → room_for (objects b s) b.next ≡ true
next_room b sound s few =
    simp (
      ne_eqb b.next 0 (omega (arith, sound.started)),
      contents_none b.slots s b.next (λ j h e. omega (arith, sound.below j h)),
      lt-ltb (live_names (objects b s)) 16 few,
    )

-- so it is made
next_made : (b : Buffers) → Sound b → (s : List ℕ) (ok : Bool) → ok ≡ room_for (objects b s) b.next → live_names (objects b s) < 16
    → cond ok (named (objects b s) b.next) (objects b s) ≡ make (objects b s) b.next
unfolding named
next_made b sound s ok room few =
    simp (room ∙ next_room b sound s few, ne_eqb b.next 0 (omega (arith, sound.started)), contents_none b.slots s b.next (λ j h e. omega (arith, sound.below j h)))

pub next_is_made : (b : Buffers) (n : ℕ) (out : Buffers) (left : ℕ) → Left b n out left → 0 < left → (ok : Bool) (m : Buffers) → MakesName out out.next ok m → ok ≡ true
next_is_made b n out left l more ok m made = made.room [] ∙ next_room out l.sound [] (omega (arith, l.live []))

-- none is made yet
pub left_all : (b : Buffers) → Sound b → (n left : ℕ) → left ≡ n → ((s : List ℕ) → live_names (objects b s) + n ≤ 16) → b.next + n ≤ 4294967295 → Left b n b left
left_all b sound n left e live next =
    record {
      state = λ s. ap (λ (k : ℕ). gen_names k (objects b s)) e;
      sound = sound;
      live = λ s. omega (arith, live s);
      next = omega arith;
      slots = filled_same;
    }

-- one name more, the next
pub left_less : (b : Buffers) (n : ℕ) (out : Buffers) (left : ℕ) → Left b n out left → (rest : ℕ) → left ≡ rest + 1
    → (ok : Bool) (m : Buffers) → MakesName out out.next ok m → Left b n m rest
unfolding gen_names
left_less b n out left l rest e ok m made =
    record {
      state = λ s. ap (gen_names rest) (after s) ∙ sym (ap (λ (k : ℕ). gen_names k (objects out s)) one) ∙ l.state s;
      sound = made.sound;
      live = λ s. omega (arith, ap live_names (after s), live_next (objects out s), l.live s);
      next = omega (arith, ap (λ (o : Objects). o.next) (after []), l.next);
      slots = filled_then l.slots made.slots;
    }
  where
    one : left ≡ suc rest
    one = omega arith

    after : (s : List ℕ) → objects m s ≡ make (objects out s) out.next
    after s = made.state s ∙ next_made out l.sound s ok (made.room s) (omega (arith, l.live s))

pub left_none : (b : Buffers) (n : ℕ) (out : Buffers) (left : ℕ) → Left b n out left → left ≡ 0 → (s : List ℕ) → objects out s ≡ gen_names n (objects b s)
unfolding gen_names
left_none b n out left l none s = ap (λ (k : ℕ). gen_names k (objects out s)) (sym none) ∙ l.state s

-- the rule, case by case
module _ (o : Objects) (n : ℕ) where
  pub gen_full : 16 < live_names o + n → answer 4 o ≡ gen_answer o n
  unfolding gen_answer
  gen_full h = simp (lt-ltb 16 (live_names o + n) h)

  pub gen_past : live_names o + n ≤ 16 → 4294967295 < o.next + n → answer 5 o ≡ gen_answer o n
  unfolding gen_answer
  gen_past h k = simp (le-ltb 16 (live_names o + n) h, lt-ltb 4294967295 (o.next + n) k)

  pub gen_done : live_names o + n ≤ 16 → o.next + n ≤ 4294967295 → answer 0 (gen_names n o) ≡ gen_answer o n
  unfolding gen_answer
  gen_done h k = simp (le-ltb 16 (live_names o + n) h, le-ltb 4294967295 (o.next + n) k)
