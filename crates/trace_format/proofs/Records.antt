-- Laws of records. Assumes nothing.
use mathlib.Core.Bool.{Bool, true, false, cond}
use mathlib.Core.Path.{◌≡◌, refl, sym, ◌∙◌}
use Prim.Native.Nat.{ℕ, zero, suc, ◌<◌, ◌≤◌, ◌%◌, min}
use native.Mathlib.Omega.{arith}
use borrow.Author.Tests.{le-leb, lt-leb, leb-true, leb-false, eq-eqb, ne_eqb}
use native.Mathlib.Nat.{mod-lt, zero-lt-suc}
use lib.Dec.{eqb, leb}
use lib.ListN.{length}
use mathlib.Core.List.{List}
use Rattle.std.specs.Prelude.{Result, Ok, Err}
use Rattle.trace_format.specs.declared.Fault.{Fault}
use Rattle.trace_format.specs.Trace.{head, has_size, limits_of, within, is_joined, is_padded, has_padding, fault_of}

-- a greatest number of words
pub at_most : (k n : ℕ) → leb n k ≡ eqb n (min n k)
at_most k n = go (leb n k) refl
  where
    go : (b : Bool) → leb n k ≡ b → b ≡ eqb n (min n k)
    go true f = sym (eq-eqb n (min n k) (omega (arith, leb-true n k f)))
    go false f = sym (ne_eqb n (min n k) (λ e. absurd (omega (arith, leb-false n k f))))

-- a word above its limit, or not
pub above : (a b : ℕ) (rest : Bool) → b < a → false ≡ cond (leb a b) rest false
above a b rest h = rw (lt-leb a b h)

pub below : (a b : ℕ) → a ≤ b → leb a b ≡ true
below a b h = le-leb a b h

pub last_test : (a b : ℕ) → leb a b ≡ cond (leb a b) true false
last_test a b = go (leb a b)
  where
    go : (t : Bool) → t ≡ cond t true false
    go true = refl
    go false = refl

-- bytes that fill their last word
none_left : (k : ℕ) → k < 4 → (k ≡ 1 → ⊥) → (k ≡ 2 → ⊥) → (k ≡ 3 → ⊥) → k ≡ 0
none_left zero h a b c = refl
none_left (suc zero) h a b c = absurd (a refl)
none_left (suc (suc zero)) h a b c = absurd (b refl)
none_left (suc (suc (suc zero))) h a b c = absurd (c refl)
none_left (suc (suc (suc (suc k)))) h a b c = absurd (omega arith)

pub whole_words : (n last : ℕ) → (n % 4 ≡ 1 → ⊥) → (n % 4 ≡ 2 → ⊥) → (n % 4 ≡ 3 → ⊥) → true ≡ is_padded n last
unfolding is_padded
whole_words n last a b c = rw (eq-eqb (n % 4) 0 (none_left (n % 4) (mod-lt n (zero-lt-suc 3)) a b c))

-- the answers to the four questions decide
abbrev picked : Bool → Bool → Bool → Bool → Result (Unit {0}) Fault
picked s i j p = cond s (cond i (cond j (cond p (Ok tt) (Err Fault.Padding)) (Err Fault.Bound)) (Err Fault.Bound)) (Err Fault.Shape)

pub fault_is : (code : ℕ) (w : List ℕ) {h l : List ℕ} (s i j p : Bool)
    → h ≡ head w → l ≡ limits_of code → s ≡ has_size code (length w) h → i ≡ within 5 h l → j ≡ is_joined code h → p ≡ has_padding code w
    → picked s i j p ≡ fault_of code w
unfolding fault_of
fault_is code w {h = h} {l = l} s i j p eh el es ei ej ep =
    (λ t. picked (es t) (ei t) (ej t) (ep t))
    ∙ (λ t. picked (has_size code (length w) (eh t)) (within 5 (eh t) (el t)) (is_joined code (eh t)) (has_padding code w))
