-- An array that a loop fills, one element after the other. Assumes nothing.
use Rattle.std.proofs.Common.{◌≡◌, ℕ, zero, suc, ◌+◌, ◌<◌, ◌≤◌, List, [], ◌∷◌, ◌++◌, length, take, sym, ap, ◌∙◌, arith, add-zero, add-one, zero-add}
use lib.ListN.{set, length-set}
use lib.Seq.{take-suc-set, take_all}
use Rattle.list_words.specs.Words.{each_from}

module _ {A : Type 0} (f : ℕ → A) where
  each_more : (k n : ℕ) → each_from f k (suc n) ≡ each_from f k n ++ (f (k + n) ∷ [])
  each_more k zero = ap (λ (m : ℕ). f m ∷ []) (sym (add-zero k))
  each_more k (suc n) = ap (λ (l : List A). f k ∷ l) (each_more (suc k) n ∙ ap (λ (m : ℕ). each_from f (suc k) n ++ (f m ∷ [])) (omega arith))

  pub more : (out : List A) (n i : ℕ) (x : A) → (length out ≡ n) × (take i out ≡ each_from f 0 i) → i < n → x ≡ f i
      → (length (set out i x) ≡ n) × (take (i + 1) (set out i x) ≡ each_from f 0 (i + 1))
  more out n i x h l e =
      (length-set out i x ∙ h.0, rw (add-one i, take-suc-set out i x (omega (arith, h.0)), h.1, e) (sym (rw (zero-add i) at (each_more 0 i))))

  pub all : (out : List A) (n i : ℕ) → (length out ≡ n) × (take i out ≡ each_from f 0 i) → i ≤ n → n ≤ i → out ≡ each_from f 0 n
  all out n i h a b = let e : i ≡ n = omega arith in sym (take_all n out (omega (arith, h.0))) ∙ (rw e at h.1)
