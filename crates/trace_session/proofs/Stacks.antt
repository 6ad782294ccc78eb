-- The four stacks after a record. Assumes nothing.
use mathlib.Core.Bool.{true, false}
use mathlib.Core.List.{List}
use mathlib.Core.Path.{◌≡◌, sym}
use Prim.Native.Nat.{ℕ, ◌<◌, ◌≤◌}
use borrow.Author.Tests.{lt-ltb, le-ltb}
use lib.ListN.{get_or, set}
use Rattle.list_words.specs.Words.{word_at}
use Rattle.stack.specs.declared.MatrixStack.{MatrixStack}
use Rattle.trace_driver.specs.Stacks.{stack_slots, no_stack, is_stack_record, stack_record, outer_stacks_after}

module _ (code : ℕ) (w : List ℕ) (stacks : List MatrixStack) (slot : ℕ) (e : slot ≡ word_at w 0) where
  pub no_record : is_stack_record code ≡ false → stacks ≡ outer_stacks_after code w stacks
  unfolding outer_stacks_after
  no_record f = rw f

  pub no_slot : is_stack_record code ≡ true → stack_slots ≤ slot → stacks ≡ outer_stacks_after code w stacks
  unfolding outer_stacks_after
  no_slot t l = rw (t, sym e, le-ltb slot stack_slots l)

  pub put : is_stack_record code ≡ true → slot < stack_slots → (s : MatrixStack)
      → s ≡ (stack_record code w (get_or stacks slot no_stack)).after → set stacks slot s ≡ outer_stacks_after code w stacks
  unfolding outer_stacks_after
  put t l s q = rw (t, sym e, lt-ltb slot stack_slots l, q)
