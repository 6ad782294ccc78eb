-- `assembly::find_element` meets its contract: the address fits 64 bits, and each return is the case that its tests say.
use Prim.Native.Nat.{ℕ, ◌+◌, ◌-◌, ◌*◌, ◌<◌, ◌≤◌}
use mathlib.Core.Bool.{Bool, true, false, cond}
use mathlib.Core.Path.{◌≡◌, refl, ap, ◌∙◌}
use native.Mathlib.Omega.{arith}
use borrow.Author.Tests.{lt-ltb, le-ltb}
use lib.Dec.{ltb}
use Rattle.std.specs.Prelude.{Ok, Err}
use Rattle.assembly.specs.declared.Prepared.{Prepared}
use Rattle.assembly.specs.ElementsCode.{missing_at, location_at, location_of}
use Rattle.assembly.proofs.Addresses.{below, below_sum}
use borrow.Author.Rules.{rules}
use Rattle.assembly.proofs.find_element.Goals as goal
use Rattle.assembly.proofs.find_element.Goals.{then-address-low-via-then-address-low, then-address-low-via-else-address-low+then-from-address}

module _ (e : Prepared) (A : ℕ) where
  under : {low : ℕ} → low ≡ e.low → A < low → Err (missing_at e.failure A) ≡ location_at e A
  under p h = rw (lt-ltb A e.low (rw p at h))

  beyond : {last : ℕ} → last ≡ e.last → last < A → Err (missing_at e.failure A) ≡ location_at e A
  beyond p h = go (ltb A e.low)
    where
      go : (b : Bool) → Err (missing_at e.failure A) ≡ cond b (Err (missing_at e.failure A)) (cond (ltb e.last A) (Err (missing_at e.failure A)) (Ok (e.origin + (A - e.low))))
      go true = refl
      go false = rw (lt-ltb e.last A (rw p at h))

  there : {low last origin : ℕ} → low ≡ e.low → last ≡ e.last → origin ≡ e.origin → low ≤ A → A ≤ last → Ok (origin + (A - low)) ≡ location_at e A
  there p q o h k = rw (p, o, le-ltb A e.low (rw p at h), le-ltb e.last A (rw q at k))

pub overflow_mul-address : goal.overflow_mul-address
overflow_mul-address c = record { fits = below 32 (search rules) (search rules) }

pub overflow_add-address : goal.overflow_add-address
overflow_add-address c = record { fits = below_sum c.from-2.result c.from-3.result _ (omega arith) (omega arith) (omega arith) }

pub returns-then-address-low : goal.returns-then-address-low
unfolding location_of
returns-then-address-low c =
    let e = c.args.e in
    let A = c.from.result + c.from-2.result * c.from-3.result in
    let address : A ≡ e.array.pointer + e.stride * c.args.index = rw (c.from.ensures, c.from-2.ensures, c.from-3.ensures) in
    let gone : Err (missing_at e.failure A) ≡ location_at e A =
    elim c.then-address-low.branch [
      | then-address-low-via-then-address-low w ↦ under e A c.from-low.ensures w.if-address-low.true
      | then-address-low-via-else-address-low+then-from-address w ↦ beyond e A w.from-else-address-low.ensures w.if-from-address.true
    ] in
    ap Err c.missing.ensures ∙ gone ∙ ap (location_at e) address

pub returns : goal.returns
unfolding location_of
returns c =
    let e = c.args.e in
    let A = c.from.result + c.from-2.result * c.from-3.result in
    let address : A ≡ e.array.pointer + e.stride * c.args.index = rw (c.from.ensures, c.from-2.ensures, c.from-3.ensures) in
    there e A c.from-low.ensures c.from-else-address-low.ensures c.from-4.ensures c.if-address-low.false c.if-from-address.false
    ∙ ap (location_at e) address
