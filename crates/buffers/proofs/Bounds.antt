-- Laws of the questions over the indices below a bound.
use Prim.Native.Nat.{ℕ, zero, suc, ◌+◌, ◌<◌, ◌≤◌}
use mathlib.Core.Bool.{Bool, true, false, cond}
use mathlib.Core.Path.{◌≡◌, refl, sym, ap, ◌∙◌}
use mathlib.Core.Logic.{◌⊎◌, inl, inr, ⊎_elim}
use native.Mathlib.Nat.{add-zero, eq-or-lt_of_le}
use native.Mathlib.Numerals.{add-one}
use native.Mathlib.Omega.{arith}
use lib.Dec.{eqb, ltb}
use borrow.Author.Tests.{ltb-true, ltb-false, eqb-true, eqb-false, eq-eqb, ne_eqb}
use Rattle.buffers.specs.Bounded.{first_from, first, count}

-- k is the first index below n that passes
pub record First (n : ℕ) (P : ℕ → Bool) (k : ℕ) : Type 0 where
  pub below : k < n
  pub passes : P k ≡ true
  pub earliest : (j : ℕ) → j < k → P j ≡ false

abbrev None : (ℕ → Bool) → ℕ → ℕ → ℕ → Type 0
None P at n r = (r ≡ at + n) × ((j : ℕ) → at ≤ j → j < at + n → P j ≡ false)

abbrev Some : (ℕ → Bool) → ℕ → ℕ → ℕ → Type 0
Some P at n r = (at ≤ r) × (r < at + n) × (P r ≡ true) × ((j : ℕ) → at ≤ j → j < r → P j ≡ false)

-- a number is below another, or not
pub lt_or_ge : (a b : ℕ) → (a < b) ⊎ (b ≤ a)
lt_or_ge a b = go (ltb a b) refl
  where
    go : (t : Bool) → ltb a b ≡ t → (a < b) ⊎ (b ≤ a)
    go true e = inl (ltb-true a b e)
    go false e = inr (ltb-false a b e)

-- two numbers are equal or not
pub same? : (a b : ℕ) → (a ≡ b) ⊎ (a ≡ b → ⊥)
same? a b = go (eqb a b) refl
  where
    go : (t : Bool) → eqb a b ≡ t → (a ≡ b) ⊎ (a ≡ b → ⊥)
    go true e = inl (eqb-true a b e)
    go false e = inr (eqb-false a b e)

step : (P : ℕ → Bool) (at n : ℕ) (b : Bool) → P at ≡ b → (r : ℕ)
    → None P (suc at) n r ⊎ Some P (suc at) n r → None P at (suc n) (cond b at r) ⊎ Some P at (suc n) (cond b at r)
step P at n true e r d = inr (omega arith, omega arith, e, λ j l h. absurd (omega arith))
step P at n false e r (inl f) =
    inl (omega arith, λ j l h. ⊎_elim (λ q. ap P (sym q) ∙ e) (λ m. f.1 j m (omega arith)) (eq-or-lt_of_le l))
step P at n false e r (inr s) =
    inr (omega arith, omega arith, s.2, λ j l h. ⊎_elim (λ q. ap P (sym q) ∙ e) (λ m. s.3 j m h) (eq-or-lt_of_le l))

walk : (P : ℕ → Bool) (at n : ℕ) → None P at n (first_from P at n) ⊎ Some P at n (first_from P at n)
unfolding first_from
walk P at zero = inl (sym (add-zero at), λ j l h. absurd (omega arith))
walk P at (suc n) = step P at n (P at) refl (first_from P (suc at) n) (walk P (suc at) n)

-- `first` is n and no index passes, or it is the first that passes
pub first_cases : (n : ℕ) (P : ℕ → Bool) → ((first n P ≡ n) × ((j : ℕ) → j < n → P j ≡ false)) ⊎ First n P (first n P)
unfolding first
first_cases n P =
    ⊎_elim
    (λ f. inl (omega arith, λ j h. f.1 j (omega arith) (omega arith)))
    (λ s. inr (record { below = omega arith; passes = s.2; earliest = λ j h. s.3 j (omega arith) h }))
    (walk P 0 n)

-- no test is both true and false
pub never : {A : Type 0} (b : Bool) → b ≡ true → b ≡ false → A
never b p q = let z : ◌≡◌ {A = ℕ} 0 1 = cc in absurd (omega arith)

pub first_none : (n : ℕ) (P : ℕ → Bool) → ((j : ℕ) → j < n → P j ≡ false) → first n P ≡ n
first_none n P h = ⊎_elim (λ f. f.0) (λ s. never (P (first n P)) s.passes (h (first n P) s.below)) (first_cases n P)

pub first_is : (n : ℕ) (P : ℕ → Bool) (k : ℕ) → k < n → P k ≡ true → ((j : ℕ) → j < k → P j ≡ false) → first n P ≡ k
first_is n P k l p e =
    ⊎_elim (λ f. never (P k) p (f.1 k l))
    (λ s. ⊎_elim (λ h. never (P k) p (s.earliest k h))
    (λ h. ⊎_elim (λ q. q) (λ m. never (P (first n P)) s.passes (e (first n P) m)) (eq-or-lt_of_le h))
    (lt_or_ge k (first n P)))
    (first_cases n P)

pub count_ext : (n : ℕ) (P Q : ℕ → Bool) → ((j : ℕ) → j < n → P j ≡ Q j) → count n P ≡ count n Q
unfolding count
count_ext zero P Q h = refl
count_ext (suc n) P Q h = rw (h n (omega arith), count_ext n P Q (λ j l. h j (omega arith)))

pub count_suc : (P : ℕ → Bool) (k : ℕ) → count (k + 1) P ≡ count k P + cond (P k) 1 0
unfolding count
count_suc P k = rw add-one

-- one index more passes
pub count_more : (n : ℕ) (P Q : ℕ → Bool) (k : ℕ) → k < n → P k ≡ false → Q k ≡ true → ((j : ℕ) → j < n → (j ≡ k → ⊥) → P j ≡ Q j) → count n Q ≡ count n P + 1
unfolding count
count_more zero P Q k l p q h = absurd (omega arith)
count_more (suc n) P Q k l p q h =
    ⊎_elim
    (λ e. let e' : n ≡ k = omega arith in
    rw (e', p, q, count_ext k P Q (λ j m. h j (omega arith) (omega arith))) (omega arith))
    (λ m. rw (h n (omega arith) (omega arith)) (omega (arith, count_more n P Q k (omega arith) p q (λ j i. h j (omega arith)))))
    (eq-or-lt_of_le l)

pub count_le : (n : ℕ) (P : ℕ → Bool) → count n P ≤ n
unfolding count
count_le zero P = omega arith
count_le (suc n) P = go (P n) (count_le n P)
  where
    go : (t : Bool) → count n P ≤ n → count n P + cond t 1 0 ≤ suc n
    go true l = omega arith
    go false l = omega arith

-- an index that does not pass leaves the count short
pub count_short : (n : ℕ) (P : ℕ → Bool) (k : ℕ) → k < n → P k ≡ false → count n P < n
unfolding count
count_short zero P k l e = absurd (omega arith)
count_short (suc n) P k l e =
    ⊎_elim
    (λ q. let q' : n ≡ k = omega arith in rw (q', e) (omega (arith, count_le k P)))
    (λ m. go (P n) (count_short n P k (omega arith) e))
    (eq-or-lt_of_le l)
  where
    go : (t : Bool) → count n P < n → count n P + cond t 1 0 < suc n
    go true m = omega arith
    go false m = omega arith

-- a count is full where all pass
pub count_full : (n : ℕ) (P : ℕ → Bool) → ((j : ℕ) → j < n → P j ≡ true) → count n P ≡ n
unfolding count
count_full zero P h = refl
count_full (suc n) P h = rw (h n (omega arith)) (omega (arith, count_full n P (λ j l. h j (omega arith))))

count_none : (n : ℕ) (P : ℕ → Bool) → ((j : ℕ) → j < n → P j ≡ false) → count n P ≡ 0
unfolding count
count_none zero P h = refl
count_none (suc n) P h = rw (h n (omega arith)) (omega (arith, count_none n P (λ j l. h j (omega arith))))

-- ---- two counts are equal where f takes what passes P one to one to what passes Q

-- an index that passes and that f takes to i
pub record Source (m : ℕ) (P : ℕ → Bool) (f : ℕ → ℕ) (i : ℕ) : Type 0 where
  pub at : ℕ
  pub below : at < m
  pub passes : P at ≡ true
  pub is : f at ≡ i

pub record OneToOne (m : ℕ) (P : ℕ → Bool) (f : ℕ → ℕ) (n : ℕ) (Q : ℕ → Bool) : Type 0 where
  pub to : (j : ℕ) → j < m → P j ≡ true → (f j < n) × (Q (f j) ≡ true)
  pub apart : (j k : ℕ) → j < m → k < m → P j ≡ true → P k ≡ true → f j ≡ f k → j ≡ k
  pub back : (i : ℕ) → i < n → Q i ≡ true → Source m P f i

image_step : (m : ℕ) (P : ℕ → Bool) (f : ℕ → ℕ) (n : ℕ) (Q : ℕ → Bool) (t : Bool) → P m ≡ t → OneToOne (suc m) P f n Q
    → ((R : ℕ → Bool) → OneToOne m P f n R → count m P ≡ count n R) → count m P + cond t 1 0 ≡ count n Q
image_step m P f n Q false e g rest =
    omega (
      arith,
      rest Q (record {
        to = λ j l. g.to j (omega arith);
        apart = λ j k l h. g.apart j k (omega arith) (omega arith);
        back = λ i l q. earlier i (g.back i l q);
      }),
    )
  where
    earlier : (i : ℕ) → Source (suc m) P f i → Source m P f i
    earlier i w =
        ⊎_elim (λ q. never (P m) (ap P (sym q) ∙ w.passes) e)
        (λ q. record { at = w.at; below = omega (arith, q, w.below); passes = w.passes; is = w.is }) (same? w.at m)
image_step m P f n Q true e g rest =
    omega (
      arith,
      count_more n R Q (f m) (g.to m (omega arith) e).0 (simp (eq-eqb (f m) (f m) refl)) (g.to m (omega arith) e).1 (λ i l q. simp (ne_eqb i (f m) q)),
      rest R (record {
        to = λ j l p. (
          (g.to j (omega arith) p).0,
          simp (ne_eqb (f j) (f m) (λ q. let same : j ≡ m = g.apart j m (omega arith) (omega arith) p e q in omega arith)) (g.to j (omega arith) p).1,
        );
        apart = λ j k l h. g.apart j k (omega arith) (omega arith);
        back = λ i l q. ⊎_elim (λ w. never (R i) q (simp (eq-eqb i (f m) w))) (λ w. earlier i w (g.back i l (rw (ne_eqb i (f m) w) at q))) (same? i (f m));
      }),
    )
  where
    R : ℕ → Bool
    R i = cond (eqb i (f m)) false (Q i)

    earlier : (i : ℕ) → (i ≡ f m → ⊥) → Source (suc m) P f i → Source m P f i
    earlier i other w =
        ⊎_elim (λ q. absurd (other (sym w.is ∙ ap f q)))
        (λ q. record { at = w.at; below = omega (arith, q, w.below); passes = w.passes; is = w.is }) (same? w.at m)

pub count_image : (m : ℕ) (P : ℕ → Bool) (f : ℕ → ℕ) (n : ℕ) (Q : ℕ → Bool) → OneToOne m P f n Q → count m P ≡ count n Q
unfolding count
count_image zero P f n Q g = sym (count_none n Q (λ i l. none (Q i) refl (g.back i l)))
  where
    none : {i : ℕ} (t : Bool) → Q i ≡ t → (Q i ≡ true → Source 0 P f i) → t ≡ false
    none true e w = absurd (omega (arith, (w e).below))
    none false e w = refl
count_image (suc m) P f n Q g = image_step m P f n Q (P m) refl g (λ R h. count_image m P f n R h)
