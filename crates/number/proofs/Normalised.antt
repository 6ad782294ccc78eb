-- Normalised components at any byte width: the ends are exact, the values stay within them and never fall. Rounding keeps the order, and sees only the
-- value of a fraction (`lib.Ieee`), so nothing is asked of the width but that its largest value is an f32. Assumes nothing.
use Rattle.std.proofs.Common.{◌≡◌, ℕ, zero, suc, ◌+◌, ◌-◌, ◌*◌, ◌^◌, ◌<◌, ◌≤◌, min, Bool, true, false, cond, not, ◌&&◌, ◌||◌, T, eqb, ltb, ◌⊎◌, ℤ, pos, negsuc, neg_ℤ, ◌≤ℤ◌, sym}
use Rattle.std.proofs.Common.{refl, ap, ◌∙◌, subst, inl, inr, true≢false, suc-le-suc, zero-le, le_trans, le_of_eq, le_refl, lt_of_lt_of_le, le_of_lt, lt_irrefl, mul-le-mul_right}
use Rattle.std.proofs.Common.{zero-lt-suc, mul_assoc, mul_comm, eq-or-lt_of_le, mul-pos, zero-mul, mul-one, le_of_mul-le-mul_right, mul_left_comm, arith, lit<, lit≤, eqb→eq}
use Rattle.std.proofs.Common.{leb→le, pow_pos, pow_mono, ltb-true, le-ltb, lt-ltb, eq-eqb}
use native.Mathlib.Nat.{le-suc, pow-succ'}
use native.Mathlib.Nat.{eq_of_mul-eq-mul_right}
use lib.Dec.{eqb-suc-zero}
use lib.Pow.{ones_lt}
use lib.Ieee.{Float, Format, nan, inf, fin, binary32, prec, low, unlike, up, down, size, odd, units, round, of_bits, of_int, neg, div, lt, le, fits}
use lib.Ieee.Fits.{up_pos, down_pos, and_l, and_r, round_is, div-fits}
use lib.Ieee.Exact.{HasValue, odd_sign}
use lib.Ieee.Back.{whole_unique}
use lib.Ieee.Order.{transfer, round_mono}
use lib.Ieee.Scale.{grid, overflow, round_same}
use Rattle.number.proofs.TwosComplement.{signed_range}
use Rattle.number.specs.F32.{◌⊘◌, f0, f1, f_minus_1, nearest}
use Rattle.number.specs.Numbers.{unorm, snorm, clamped}
use Rattle.number.specs.Decoding.{largest_unsigned, largest_signed, ◌≼◌, UnsignedFacts, SignedFacts, DecodingFacts}

abbrev f : Format
f = binary32

-- ---- a fraction rounded
-- x is n times the smallest f32 above 0
abbrev Steps : ℕ → Float → Type 0
Steps n x = HasValue x false n (2 ^ low f)

either : (a c : ℕ) → Steps (grid f a c) (round f false a c) ⊎ (round f false a c ≡ inf false)
either a c = subst (λ (x : Float). Steps (grid f a c) x ⊎ (x ≡ inf false)) (sym (round_is f false a c)) (in_units _ _)
  where
    in_units : (q k : ℕ) → Steps (q * 2 ^ k) (units f false q k) ⊎ (units f false q k ≡ inf false)
    in_units q k = unfold units in go (ltb (q * 2 ^ k) (overflow f))
      where
        go : (b : Bool) → let x = cond b (odd (suc (prec f)) false q k (low f)) (inf false) in Steps (q * 2 ^ k) x ⊎ (x ≡ inf false)
        go true = inl (odd_sign (suc (prec f)) false q k (low f))
        go false = inr refl

-- what is at most a number is no infinity
bounded : (a c m : ℕ) (e : ℤ) → round f false a c ≼ fin false m e → Steps (grid f a c) (round f false a c)
bounded a c m e h = go (either a c)
  where
    go : Steps (grid f a c) (round f false a c) ⊎ (round f false a c ≡ inf false) → Steps (grid f a c) (round f false a c)
    go (inl v) = v
    go (inr i) = absurd (unfold le in subst (λ (x : Float). T (le x (fin false m e))) i h)

-- ---- two values that are not negative, in order
lt_or_eq : (a b : ℕ) → T (ltb a b || (eqb a b && true)) → a ≤ b
lt_or_eq a b t = go (ltb a b) refl t
  where
    go : (x : Bool) → ltb a b ≡ x → T (x || (eqb a b && true)) → a ≤ b
    go true e h = omega (arith, ltb-true a b e)
    go false e h = omega (arith, eqb→eq a b (and_l (eqb a b) true h))

in_order : (x y : Float) (a b c : ℕ) → 0 < c → HasValue x false a c → HasValue y false b c → T (le x y) → a ≤ b
unfolding le
in_order nan y a b c C p q h = absurd p
in_order (inf s) y a b c C p q h = absurd p
in_order (fin true m e) y a b c C p q h = absurd (true≢false p.0)
in_order (fin false m e) nan a b c C p q h = absurd q
in_order (fin false m e) (inf t) a b c C p q h = absurd q
in_order (fin false m e) (fin true n d) a b c C p q h = absurd (true≢false q.0)
in_order (fin false m e) (fin false n d) a b c C p q h =
    le_of_mul-le-mul_right
    (transfer a b c c (m * up e) (n * up d) (down e) (down d) (down_pos e) (down_pos d) (sym p.1) (sym q.1) (lt_or_eq (m * up e * down d) (n * up d * down e) h))
    C

-- ---- whole numbers up to 2 ^ 127 as f32
-- the f32 nearest to n, in these steps
abbrev steps : ℕ → ℕ
steps n = grid f n 1

abbrev limit : ℕ
limit = 2 ^ 127

at_limit : nearest (pos limit) ≡ fin false 1 (pos 127)
unfolding of_int
at_limit = refl

finite : (n : ℕ) → n ≤ limit → Steps (steps n) (nearest (pos n))
unfolding of_int
finite n h = bounded n 1 1 (pos 127) (subst (λ (x : Float). round f false n 1 ≼ x) at_limit (round_mono f n 1 limit 1 (lit< tt) (lit< tt) (rw (mul-one n, mul-one limit) h)))

grows : (m n : ℕ) → m ≤ n → n ≤ limit → steps m ≤ steps n
unfolding of_int
grows m n h k =
    in_order (round f false m 1) (round f false n 1) (steps m) (steps n) (2 ^ low f) (pow_pos (low f)) (finite m (le_trans h k)) (finite n k)
    (round_mono f m 1 n 1 (lit< tt) (lit< tt) (rw (mul-one m, mul-one n) h))

above_zero : (n : ℕ) → 0 < n → n ≤ limit → 0 < steps n
unfolding size
above_zero n h k = lt_of_lt_of_le (lit< tt) (grows 1 n h k)

-- ---- a quotient of two of them is the rounded fraction of their values
crossed : (x de y dd a b c : ℕ) → 0 < c → x * c ≡ a * de → y * c ≡ b * dd → x * dd * b ≡ a * (y * de)
crossed x de y dd a b c C p q =
    let l : x * dd * b * c ≡ a * de * (dd * b) = simp (mul_assoc, mul_comm, mul_left_comm) (simp (mul_assoc, mul_comm, mul_left_comm) at (ap (λ (z : ℕ). z * (dd * b)) p)) in
    let r : a * (y * de) * c ≡ a * de * (dd * b) = simp (mul_assoc, mul_comm, mul_left_comm) (simp (mul_assoc, mul_comm, mul_left_comm) at (ap (λ (z : ℕ). z * (a * de)) q)) in
    eq_of_mul-eq-mul_right c C (x * dd * b) (a * (y * de)) (l ∙ sym r)

quotient_is : (s : Bool) (x y : Float) (a b c : ℕ) → 0 < b → 0 < c → HasValue x s a c → HasValue y false b c → div f x y ≡ round f s a b
unfolding div
quotient_is s nan y a b c B C p q = absurd p
quotient_is s (inf t) y a b c B C p q = absurd p
quotient_is s (fin t m e) nan a b c B C p q = absurd q
quotient_is s (fin t m e) (inf u) a b c B C p q = absurd q
quotient_is s (fin t m e) (fin true n d) a b c B C p q = absurd (true≢false q.0)
quotient_is s (fin t m e) (fin false zero d) a b c B C p q = absurd (omega (arith, mul-pos B (down_pos d)))
quotient_is s (fin t m e) (fin false (suc n) d) a b c B C p q =
    rw (eqb-suc-zero n)
    (ap (λ (z : Bool). round f z (m * up e * down d) (suc n * up d * down e)) (own t ∙ p.0)
    ∙ round_same f s (m * up e * down d) (suc n * up d * down e) a b (mul-pos (mul-pos (zero-lt-suc n) (up_pos d)) (down_pos e)) B
    (crossed (m * up e) (down e) (suc n * up d) (down d) a b c C p.1 q.1))
  where
    own : (t : Bool) → unlike t false ≡ t
    own true = refl
    own false = refl

-- ---- the sign goes through rounding
odd_neg : (d : ℕ) (s : Bool) (q k l : ℕ) → odd d (not s) q k l ≡ neg (odd d s q k l)
unfolding odd neg
odd_neg d s zero k l = refl
odd_neg d s (suc q) k l = refl

units_neg : (s : Bool) (q k : ℕ) → units f (not s) q k ≡ neg (units f s q k)
unfolding units
units_neg s q k = go (ltb (q * 2 ^ k) (overflow f))
  where
    go : (b : Bool) → cond b (odd (suc (prec f)) (not s) q k (low f)) (inf (not s)) ≡ neg (cond b (odd (suc (prec f)) s q k (low f)) (inf s))
    go true = odd_neg (suc (prec f)) s q k (low f)
    go false = unfold neg in refl

round_neg : (s : Bool) (a c : ℕ) → round f (not s) a c ≡ neg (round f s a c)
round_neg s a c = round_is f (not s) a c ∙ units_neg s _ _ ∙ ap neg (sym (round_is f s a c))

neg_value : (x : Float) (s : Bool) (a c : ℕ) → HasValue x s a c → HasValue (neg x) (not s) a c
unfolding neg
neg_value nan s a c h = h
neg_value (inf t) s a c h = h
neg_value (fin t m e) s a c h = (ap not h.0, h.1)

-- ---- values that are finite and have no sign, held within -1 to 1
abbrev Plain : Float → Type 0
Plain nan = ⊥
Plain (inf s) = ⊥
Plain (fin true m e) = ⊥
Plain (fin false m e) = Unit {0}

plain_of : (x : Float) (a c : ℕ) → HasValue x false a c → Plain x
plain_of nan a c h = h
plain_of (inf s) a c h = h
plain_of (fin true m e) a c h = true≢false h.0
plain_of (fin false m e) a c h = tt

held : (x : Float) → Plain x → x ≼ f1 → (clamped f_minus_1 f1 x ≡ x) × (clamped f_minus_1 f1 (neg x) ≡ neg x)
unfolding of_bits neg lt le
held nan p h = elim p [ ]
held (inf _) p h = elim p [ ]
held (fin true m e) p h = elim p [ ]
held (fin false m e) p h =
    let within : ltb (1 * down e) (m * up e * 1) ≡ false = le-ltb (1 * down e) (m * up e * 1) (lt_or_eq (m * up e * 1) (1 * down e) h) in
    (rw within, rw within)

-- from 1.0 on the opposite is held at -1.0
held_low : (x : Float) → T (fits f x) → f1 ≼ x → clamped f_minus_1 f1 (neg x) ≡ f_minus_1
unfolding of_bits neg lt le
held_low nan t h = absurd h
held_low (inf true) t h = absurd h
held_low (inf false) t h = refl
held_low (fin true m e) t h =
    let z : 1 * down e ≡ 0 = eqb→eq (1 * down e) 0 (and_r (eqb (1 * down e) (m * up e * 1)) (eqb (1 * down e) 0) h) in
    absurd (omega (arith, down_pos e))
held_low (fin false m e) t h =
    elim (eq-or-lt_of_le (lt_or_eq (1 * down e) (m * up e * 1) h)) [
      | inl q ↦ ap (λ (x : Float). clamped f_minus_1 f1 (neg x)) (whole_unique f (fin false m e) (fin false 1 (pos 0)) false 1 t (unfold fits in tt) (refl, sym q) (refl, refl))
      | inr l ↦ rw (lt-ltb (1 * down e) (m * up e * 1) l)
    ]

-- the order of opposites, and of one opposite
turned : (x y : Float) → Plain x → Plain y → x ≼ y → neg y ≼ neg x
unfolding neg le
turned nan y p q h = elim p [ ]
turned (inf _) y p q h = elim p [ ]
turned (fin true m e) y p q h = elim p [ ]
turned (fin false m e) nan p q h = elim q [ ]
turned (fin false m e) (inf _) p q h = elim q [ ]
turned (fin false m e) (fin true n d) p q h = elim q [ ]
turned (fin false m e) (fin false n d) p q h = or_equal (m * up e * down d) (n * up d * down e) (lt_or_eq (m * up e * down d) (n * up d * down e) h)
  where
    or_equal : (a b : ℕ) → a ≤ b → T (ltb a b || (eqb b a && true))
    or_equal a b h = elim (eq-or-lt_of_le h) [ inl e ↦ rw (le-ltb a b (omega arith), eq-eqb b a (sym e)) tt | inr l ↦ rw (lt-ltb a b l) tt ]

parted : (x y : Float) → Plain x → Plain y → neg x ≼ y
unfolding neg le
parted nan y p q = elim p [ ]
parted (inf _) y p q = elim p [ ]
parted (fin true m e) y p q = elim p [ ]
parted (fin false m e) nan p q = elim q [ ]
parted (fin false m e) (inf _) p q = elim q [ ]
parted (fin false m e) (fin true n d) p q = elim q [ ]
parted (fin false m e) (fin false n d) p q = either_side (m * up e * down d) (n * up d * down e)
  where
    either_side : (a b : ℕ) → T (ltb 0 (a + b) || (eqb a b && (false || eqb a 0)))
    either_side zero zero = tt
    either_side zero (suc b) = rw (lt-ltb 0 (0 + suc b) (omega arith)) tt
    either_side (suc a) b = rw (lt-ltb 0 (suc a + b) (omega arith)) tt

-- ---- unsigned components
module _ (max : ℕ) (some : 0 < max) (small : max ≤ limit) where
  abbrev divisor : 0 < steps max
  divisor = above_zero max some small

  unorm_is : (n : ℕ) → n ≤ limit → unorm n max ≡ round f false (steps n) (steps max)
  unorm_is n h =
      quotient_is false (nearest (pos n)) (nearest (pos max)) (steps n) (steps max) (2 ^ low f) divisor (pow_pos (low f)) (finite n h) (finite max small)

  unorm_rises : (m n : ℕ) → m ≤ n → n ≤ limit → unorm m max ≼ unorm n max
  unorm_rises m n h k =
      rw (unorm_is m (le_trans h k), unorm_is n k)
      (round_mono f (steps m) (steps max) (steps n) (steps max) divisor divisor (mul-le-mul_right (steps max) (grows m n h k)))

  unorm_zero : unorm 0 max ≡ f0
  unfolding of_bits round
  unorm_zero = unorm_is 0 (lit≤ tt) ∙ round_same f false 0 (steps max) 0 1 divisor (lit< tt) (zero-mul 1 ∙ sym (zero-mul (steps max)))

  unorm_largest : unorm max max ≡ f1
  unfolding of_bits round
  unorm_largest = unorm_is max small ∙ round_same f false (steps max) (steps max) 1 1 divisor (lit< tt) (mul_comm (steps max) 1)

  pub unsigned_facts : UnsignedFacts max
  unsigned_facts =
      record {
        zero = unorm_zero;
        largest = unorm_largest;
        within = λ n h. (
          subst (λ (x : Float). x ≼ unorm n max) unorm_zero (unorm_rises 0 n zero-le (le_trans h small)),
          subst (λ (x : Float). unorm n max ≼ x) unorm_largest (unorm_rises n max h small),
        );
        rises = λ m n h k. unorm_rises m n h (le_trans k small);
      }

  unorm_plain : (n : ℕ) → n ≤ max → Plain (unorm n max)
  unfolding of_bits
  unorm_plain n h =
      let a = steps n in
      let b = steps max in
      let e = unorm_is n (le_trans h small) in
      rw e (plain_of (round f false a b) (grid f a b) (2 ^ low f) (bounded a b 1 (pos 0) (rw e at (unsigned_facts.within n h).1)))

  -- a negative number's quotient is the opposite of that of its size
  ratio_neg : (n : ℕ) → suc n ≤ limit → nearest (negsuc n) ⊘ nearest (pos max) ≡ neg (unorm (suc n) max)
  unfolding of_int
  ratio_neg n h =
      quotient_is true (nearest (negsuc n)) (nearest (pos max)) (steps (suc n)) (steps max) (2 ^ low f) divisor (pow_pos (low f))
      (rw (round_neg false (suc n) 1) (neg_value (nearest (pos (suc n))) false (steps (suc n)) (2 ^ low f) (finite (suc n) h)))
      (finite max small)
      ∙ round_neg false (steps (suc n)) (steps max)
      ∙ ap neg (sym (unorm_is (suc n) h))

one_plain : Plain f1
unfolding of_bits
one_plain = tt

min_over : (m : ℕ) → min (suc m) m ≡ m
min_over m = omega arith

min_under : (n m : ℕ) → n < m → min (suc n) m ≡ suc n
min_under n m h = omega arith

min_below : (n m : ℕ) → min (suc n) m ≤ m
min_below n m = omega arith

min_rises : (n m k : ℕ) → n ≤ m → min (suc n) k ≤ min (suc m) k
min_rises n m k h = omega arith

-- ---- signed components: those that are not negative are as unsigned ones, the others their opposites, with the lowest two alike
module _ (max : ℕ) (some : 0 < max) (small : max < limit) where
  abbrev facts : UnsignedFacts max
  facts = unsigned_facts max some (le_of_lt small)

  abbrev plain : (n : ℕ) → n ≤ max → Plain (unorm n max)
  plain = unorm_plain max some (le_of_lt small)

  snorm_pos : (n : ℕ) → n ≤ max → snorm (pos n) max ≡ unorm n max
  snorm_pos n h = (held (unorm n max) (plain n h) (facts.within n h).1).0

  snorm_neg : (n : ℕ) → n ≤ max → snorm (negsuc n) max ≡ neg (unorm (min (suc n) max) max)
  snorm_neg n h = ap (λ (x : Float). clamped f_minus_1 f1 x) (ratio_neg max some (le_of_lt small) n (le_trans (suc-le-suc h) small)) ∙ go (eq-or-lt_of_le h)
    where
      over : f1 ≼ unorm (suc max) max
      over = subst (λ (x : Float). x ≼ unorm (suc max) max) facts.largest (unorm_rises max some (le_of_lt small) max (suc max) (le-suc max) small)

      at_lowest : clamped f_minus_1 f1 (neg (unorm (suc max) max)) ≡ neg (unorm (min (suc max) max) max)
      at_lowest = held_low (unorm (suc max) max) (div-fits f (nearest (pos (suc max))) (nearest (pos max))) over ∙ rw (min_over max) (sym (ap neg facts.largest))

      go : (n ≡ max) ⊎ (n < max) → clamped f_minus_1 f1 (neg (unorm (suc n) max)) ≡ neg (unorm (min (suc n) max) max)
      go (inl e) = subst (λ (k : ℕ). clamped f_minus_1 f1 (neg (unorm (suc k) max)) ≡ neg (unorm (min (suc k) max) max)) (sym e) at_lowest
      go (inr l) = rw (min_under n max l) (held (unorm (suc n) max) (plain (suc n) l) (facts.within (suc n) l).1).1

  within : (v : ℤ) → negsuc max ≤ℤ v → v ≤ℤ pos max → (f_minus_1 ≼ snorm v max) × (snorm v max ≼ f1)
  within (pos n) l h =
      let k : n ≤ max = leb→le n max h.le in
      rw (snorm_pos n k) (parted f1 (unorm n max) one_plain (plain n k), (facts.within n k).1)
  within (negsuc n) l h =
      let m = min (suc n) max in
      let k : m ≤ max = min_below n max in
      rw (snorm_neg n (leb→le n max l.le)) (turned (unorm m max) f1 (plain m k) one_plain (facts.within m k).1, parted (unorm m max) f1 (plain m k) one_plain)

  rises : (u v : ℤ) → negsuc max ≤ℤ u → u ≤ℤ v → v ≤ℤ pos max → snorm u max ≼ snorm v max
  rises (pos m) (pos n) l o h =
      let j : m ≤ n = leb→le m n o.le in
      let k : n ≤ max = leb→le n max h.le in
      rw (snorm_pos m (le_trans j k), snorm_pos n k) (facts.rises m n j k)
  rises (pos m) (negsuc n) l o h = absurd o.le
  rises (negsuc m) (pos n) l o h =
      let k : n ≤ max = leb→le n max h.le in
      rw (snorm_neg m (leb→le m max l.le), snorm_pos n k) (parted (unorm (min (suc m) max) max) (unorm n max) (plain (min (suc m) max) (min_below m max)) (plain n k))
  rises (negsuc m) (negsuc n) l o h =
      let j : n ≤ m = leb→le n m o.le in
      let k : m ≤ max = leb→le m max l.le in
      let a = min (suc n) max in
      let b = min (suc m) max in
      rw (snorm_neg m k, snorm_neg n (le_trans j k))
      (turned (unorm a max) (unorm b max) (plain a (min_below n max)) (plain b (min_below m max)) (facts.rises a b (min_rises n m max j) (min_below m max)))

  pub signed_facts : SignedFacts max
  signed_facts =
      record {
        lowest = snorm_neg max (le_refl max) ∙ rw (min_over max) (ap neg facts.largest);
        opposite = opposite max some refl;
        zero = snorm_pos 0 zero-le ∙ facts.zero;
        largest = snorm_pos max (le_refl max) ∙ facts.largest;
        within = within;
        rises = rises;
      }
    where
      opposite : (k : ℕ) → 0 < k → k ≡ max → snorm (neg_ℤ (pos k)) max ≡ f_minus_1
      opposite zero h e = absurd (lt_irrefl 0 h)
      opposite (suc k) h e =
          let l : k < max = le_of_eq e in
          snorm_neg k (le_of_lt l) ∙ ap (λ (x : ℕ). neg (unorm x max)) (min_under k max l ∙ e) ∙ ap neg facts.largest

-- ---- by the width
doubled : (k : ℕ) → 0 < k → 2 ^ k ≡ 2 * 2 ^ (k - 1)
doubled zero h = absurd (lt_irrefl 0 h)
doubled (suc k) h =
    let e : k ≡ suc k - 1 = omega arith in
    pow-succ' 2 k ∙ ap (λ (x : ℕ). 2 * 2 ^ x) e

-- the largest values: above 0, since there is a byte at least, and below 2 ^ 127
some_largest : (k : ℕ) → 0 < k → 0 < 2 ^ k - 1
some_largest k h = omega (arith, doubled k h, pow_pos (k - 1))

under_limit : (k : ℕ) → k ≤ 127 → 2 ^ k - 1 < limit
under_limit k h = lt_of_lt_of_le (ones_lt k) (pow_mono h)

pub normalised : (w : ℕ) → 0 < w → w ≤ 16 → DecodingFacts w
normalised w h k =
    record {
      unsigned = λ l. unsigned_facts (largest_unsigned w) (some_largest (8 * w) (omega arith)) (le_of_lt (under_limit (8 * w) (omega arith)));
      signed = signed_facts (largest_signed w) (some_largest (8 * w - 1) (omega arith)) (under_limit (8 * w - 1) (omega arith));
      signed_range = λ n l. signed_range (2 ^ (8 * w - 1)) n (rw (doubled (8 * w) (omega arith)) at l);
    }
