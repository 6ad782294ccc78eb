-- From what the parts of a record's work leave to the whole. Assumes nothing.
use mathlib.Core.List.{List, ◌++◌}
use mathlib.Core.Path.{◌≡◌, refl, subst, sym}
use Prim.Native.Nat.{ℕ, ◌<◌, ◌≤◌, min}
use native.Mathlib.Omega.{arith}
use lib.ListN.{length, take, drop}
use lib.Ieee.{Float}
use Rattle.context.specs.declared.Context.{Context}
use Rattle.context.specs.State.{Fresh}
use Rattle.list_words.specs.Words.{word_at}
use Rattle.list_words.proofs.Words.{from_start, to_end}
use Rattle.trace_driver.specs.declared.Borrowed.{Borrowed}
use Rattle.trace_driver.specs.Settings.{store_after, guest_after}
use Rattle.trace_driver.specs.Draws.{room_of}
use Rattle.trace_unsound.specs.Kinds.{ContextMade}
use Rattle.trace_session.specs.Records.{CallDone, DrawDone, Inspected, DrawIn, CallIn, OtherIn, Done}

-- ---- records on the context

module _ (c : Context) (a : ℕ) {code : ℕ} {c1 : Context} where
  pub made_fresh : code ≡ 0x02 → Fresh c1 → Inspected c code a c1
  made_fresh e f = record { fresh = λ _. f; unsound = λ u. absurd (omega arith); others = λ u _. absurd (u e) }

  pub made_unsound : code ≡ 0x7e → ContextMade c a c1 → Inspected c code a c1
  made_unsound e m = record { fresh = λ f. absurd (omega arith); unsound = λ _. m; others = λ _ u. absurd (u e) }

pub kept : (c : Context) (a : ℕ) {code : ℕ} → (code ≡ 0x02 → ⊥) → (code ≡ 0x7e → ⊥) → Inspected c code a c
kept c a f u = record { fresh = λ e. absurd (f e); unsound = λ e. absurd (u e); others = λ _ _. refl }

-- ---- any record

module _ (c : Context) (v : Borrowed) (w bytes store guest : List ℕ) (out : List Float) {code : ℕ} {c1 : Context} where
  pub drawn : (end : ℕ) (s g : List ℕ) {part : List Float} → end ≡ room_of w (length out) → s ≡ take v.store store → g ≡ take v.guest guest → 0x60 ≤ code → code < 0x70
      → DrawDone c code w s v.base g (take end out) c1 part → Done c v code w bytes store guest out c1 store guest (part ++ drop end out)
  drawn end s g {part = part} e es eg low high d =
      record { draws = λ _ _. done; calls = λ _ l. absurd (omega arith); below = λ l. absurd (omega arith); above = λ l. absurd (omega arith) }
    where
      done : DrawIn c v code w store guest out c1 store guest (part ++ drop end out)
      done = record { part = part; done = rw (sym e, sym es, sym eg) d; output = rw e; areas = (refl, refl) }

  pub called : (end : ℕ) {part : List ℕ} {out1 : List Float} → end ≡ min v.store (length store) → 0x10 ≤ code → code < 0x60
      → CallDone c code w bytes (take end store) out c1 part out1 → Done c v code w bytes store guest out c1 (part ++ drop end store) guest out1
  called end {part = part} {out1 = out1} e low high d =
      record { draws = λ l _. absurd (omega arith); calls = λ _ _. done; below = λ l. absurd (omega arith); above = λ l. absurd (omega arith) }
    where
      done : CallIn c v code w bytes store guest out c1 (part ++ drop end store) guest out1
      done =
          record {
            part = part;
            done = subst (λ (s : List ℕ). CallDone c code w bytes s out c1 part out1) (to_end store v.store end e) d;
            area = λ i. part ++ from_start store v.store end e i;
            view = refl;
          }

  pub others : (code < 0x70 → code < 0x10) → {a : ℕ} {store1 guest1 : List ℕ}
      → a ≡ word_at w 0 → Inspected c code a c1 → store1 ≡ store_after code w bytes store → guest1 ≡ guest_after code w bytes guest
      → Done c v code w bytes store guest out c1 store1 guest1 out
  others low {a = a} {store1 = store1} {guest1 = guest1} e i es eg =
      record { draws = λ l h. absurd (omega (arith, low h)); calls = λ l h. absurd (omega (arith, low (omega arith))); below = λ _. done; above = λ _. done }
    where
      done : OtherIn c code w bytes store guest out c1 store1 guest1 out
      done = record { inspected = subst (λ (x : ℕ). Inspected c code x c1) e i; area = es; view = eg; output = refl }
