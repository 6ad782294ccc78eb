-- From a record's code to its call. Assumes nothing.
use mathlib.Core.List.{List}
use mathlib.Core.Bool.{Bool, true, false}
use mathlib.Core.Path.{◌≡◌, refl, sym, subst}
use Prim.Native.Nat.{ℕ, max}
use native.Mathlib.Omega.{arith}
use borrow.Author.Tests.{leb-true, leb-false, eq-eqb, ne_eqb}
use lib.Dec.{eqb, leb}
use Rattle.context.specs.declared.Context.{Context}
use Rattle.context.specs.Calls.{Call, object, array, attribute, pipeline}
use Rattle.vertex.specs.Scene.{Source}
use Rattle.context.specs.declared.DrawReply.{DrawReply}
use lib.Ieee.{Float}
use Rattle.list_records.specs.Encoding.{array_call_of, attribute_of, pipeline_of, draw_of_words}
use Rattle.context.specs.Contract.{Does}
use Rattle.list_records.specs.Perform.{DrewIn}

pub does_is : {k k' : Call} {c c1 : Context} {n : ℕ} → k ≡ k' → Does k c n c1 → Does k' c n c1
does_is {c = c} {c1 = c1} {n = n} e d = subst (λ (j : Call). Does j c n c1) e d

-- a record's words where the code has read them
pub array_words : (code : ℕ) {a a' b b' d d' e e' : ℕ} {c c1 : Context} {n : ℕ} → a ≡ a' → b ≡ b' → d ≡ d' → e ≡ e'
    → Does (object (array (array_call_of code a b d e))) c n c1 → Does (object (array (array_call_of code a' b' d' e'))) c n c1
array_words code p q r s = does_is (λ i. object (array (array_call_of code (p i) (q i) (r i) (s i))))

pub attribute_words : (code : ℕ) {a a' : ℕ} {f f' : List Float} {c c1 : Context} {n : ℕ} → a ≡ a' → f ≡ f'
    → Does (attribute (attribute_of code a f)) c n c1 → Does (attribute (attribute_of code a' f')) c n c1
attribute_words code p q = does_is (λ i. attribute (attribute_of code (p i) (q i)))

pub pipeline_words : (code : ℕ) {a a' b b' : ℕ} {f f' : List Float} {c c1 : Context} {n : ℕ} → a ≡ a' → b ≡ b' → f ≡ f'
    → Does (pipeline (pipeline_of code a b f)) c n c1 → Does (pipeline (pipeline_of code a' b' f')) c n c1
pipeline_words code p q r = does_is (λ i. pipeline (pipeline_of code (p i) (q i) (r i)))

pub drew_is : (bytes w : List ℕ) (room : ℕ) {source source' : Source} {c : Context} {s : List ℕ} {out out1 : List Float} {r : DrawReply} → source ≡ source'
    → DrewIn (draw_of_words bytes room source w) c s out r out1 → DrewIn (draw_of_words bytes room source' w) c s out r out1
drew_is bytes w room {c = c} {s = s} {out = out} {out1 = out1} {r = r} e d = subst (λ (x : Source). DrewIn (draw_of_words bytes room x w) c s out r out1) e d

-- a least number of words
pub at_least : (k n : ℕ) → leb k n ≡ eqb n (max k n)
at_least k n = go (leb k n) refl
  where
    go : (b : Bool) → leb k n ≡ b → b ≡ eqb n (max k n)
    go true f = sym (eq-eqb n (max k n) (omega (arith, leb-true k n f)))
    go false f = sym (ne_eqb n (max k n) (λ e. absurd (omega (arith, leb-false k n f))))
