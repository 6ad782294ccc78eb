-- From record to record. Assumes nothing.
use mathlib.Core.Bool.{Bool, true, false}
use mathlib.Core.List.{List}
use mathlib.Core.Path.{◌≡◌, sym, subst, ◌∙◌}
use Prim.Native.Nat.{ℕ}
use native.Mathlib.Omega.{arith}
use lib.ListN.{take, replicate}
use lib.Ieee.{Float}
use Rattle.stack.specs.Stack.{fresh_stack}
use Rattle.stack.specs.declared.MatrixStack.{MatrixStack}
use Rattle.context.specs.declared.Context.{Context}
use Rattle.context.specs.State.{Fresh}
use Rattle.list_words.specs.Words.{word_at}
use Rattle.trace_driver.specs.declared.Borrowed.{Borrowed}
use Rattle.trace_driver.specs.Settings.{fresh_borrowed, borrowed_after}
use Rattle.trace_driver.specs.Stacks.{stack_slots, outer_stacks_after}
use Rattle.trace_driver.specs.Permitted.{is_permitted}
use Rattle.trace_reader.specs.Kept.{ReadFrom}
use Rattle.trace_reader.specs.declared.Header.{Header}
use Rattle.trace_session.specs.Records.{Done}
use Rattle.replay.specs.Replayed.{Comes, held, Replayed, started, followed}

module _ {c : Context} {v : Borrowed} {h : Header} {bytes w w1 : List ℕ} where
  pub comes : ReadFrom h bytes w w1 → (words : List ℕ) → words ≡ take h.n w1 → (b : Bool) → b ≡ is_permitted c v h.code words → b ≡ true → Comes c v h bytes w w1
  comes r words e b p t = record { read = r; permitted = subst (λ (l : List ℕ). is_permitted c v h.code l ≡ true) e (sym p ∙ t) }

module _ (s0 g0 : List ℕ) (o0 : List Float) where
  pub starts : {c : Context} {v : Borrowed} {s : MatrixStack} → Fresh c → v ≡ fresh_borrowed → s ≡ fresh_stack → Replayed s0 g0 o0 (held c v (replicate stack_slots s) s0 g0 o0)
  starts f ev es = rw (ev, es) (started f)

  pub follows : {c c1 : Context} {v v1 : Borrowed} {stacks stacks1 : List MatrixStack} {store guest store1 guest1 : List ℕ} {out out1 : List Float}
      {h : Header} {bytes w w1 : List ℕ} (code : ℕ) (words lent : List ℕ)
      → Replayed s0 g0 o0 (held c v stacks store guest out) → Comes c v h bytes w w1 → code ≡ h.code → words ≡ take h.n w1 → lent ≡ bytes
      → Done c v code words lent store guest out c1 store1 guest1 out1
      → v1 ≡ borrowed_after code (word_at words 0) (word_at words 1) v → stacks1 ≡ outer_stacks_after code words stacks
      → Replayed s0 g0 o0 (held c1 v1 stacks1 store1 guest1 out1)
  follows code words lent r k ec e eb d ev es = rw (ev, es, ec, e) (followed r k (rw (ec, e, eb) at d))
