-- An area that is filled element by element, and the hash byte by byte. Assumes nothing.
use mathlib.Core.List.{List, [], ◌∷◌, ◌++◌}
use mathlib.Core.Path.{◌≡◌, refl, sym, ap, ◌∙◌, subst}
use Prim.Native.Nat.{ℕ, zero, suc, ◌+◌, ◌<◌, ◌≤◌}
use native.Mathlib.Numerals.{add-one}
use native.Mathlib.Omega.{arith}
use lib.ListN.{length, get_or, take, drop, set, length-append, length-drop}
use lib.Seq.{drop-cons, append_snoc, set_at, take-suc}
use lib.Ieee.{Float, nan, binary32, to_bits}
use mathlib.Core.Logic.{⊎_elim}
use Rattle.buffers.proofs.Bounds.{lt_or_ge}
use Rattle.trace_format.specs.Fill.{tabulate, hash_step, hash_from, mark_bits, Marked}

pub length_tabulate : {A : Type 0} (f : ℕ → A) (n : ℕ) → length (tabulate f n) ≡ n
unfolding tabulate
length_tabulate f zero = refl
length_tabulate f (suc n) = length-append (tabulate f n) (f n ∷ []) ∙ ap (λ k. k + 1) (length_tabulate f n) ∙ add-one n

-- the first i elements are made anew
abbrev pub filled_to : {A : Type 0} → (ℕ → A) → ℕ → List A → List A
filled_to f i l = tabulate f i ++ drop i l

pub length_filled : {A : Type 0} (f : ℕ → A) (i : ℕ) (l : List A) → i ≤ length l → length (filled_to f i l) ≡ length l
length_filled f i l h = length-append (tabulate f i) (drop i l) ∙ omega (arith, length_tabulate f i, length-drop i l)

-- and then one more
pub fill_step : {A : Type 0} (f : ℕ → A) (i : ℕ) (l : List A) (d : A) {a : List A} {x : A} → i < length l → a ≡ filled_to f i l → x ≡ f i → set a i x ≡ filled_to f (i + 1) l
unfolding tabulate
fill_step f i l d h ea ex =
    (λ t. set (ea t) i (ex t))
    ∙ ap (λ r. set (tabulate f i ++ r) i (f i)) (drop-cons l i d h)
    ∙ set_at (tabulate f i) (get_or l i d) (drop (suc i) l) (f i) i (length_tabulate f i)
    ∙ sym (append_snoc (tabulate f i) (f i) (drop (suc i) l))
    ∙ ap (λ k. filled_to f k l) (sym (add-one i))

-- the hash of the first i bytes
pub hash_append : (h : ℕ) (bytes : List ℕ) (b : ℕ) → hash_from h (bytes ++ (b ∷ [])) ≡ hash_step (hash_from h bytes) b
unfolding hash_from
hash_append h [] b = refl
hash_append h (x ∷ xs) b = hash_append (hash_step h x) xs b

pub hash_more : (h : ℕ) (bytes : List ℕ) (i : ℕ) {g r : ℕ}
    → i < length bytes → g ≡ hash_from h (take i bytes) → r ≡ hash_step g (get_or bytes i 0) → r ≡ hash_from h (take (i + 1) bytes)
hash_more h bytes i l eg er =
    er ∙ ap (λ g. hash_step g (get_or bytes i 0)) eg
    ∙ sym (hash_append h (take i bytes) (get_or bytes i 0))
    ∙ ap (hash_from h) (sym (take-suc bytes i 0 l) ∙ ap (λ k. take k bytes) (sym (add-one i)))

-- the words up to a place are marked, and the one there too
abbrev pub MarkedTo : List Float → ℕ → ℕ → Type 0
MarkedTo out start i = (k : ℕ) → start ≤ k → k < i → Marked out k

pub marked_more : (out : List Float) (start i : ℕ) → MarkedTo out start i → Marked out i → MarkedTo out start (i + 1)
marked_more out start i h m k l u = ⊎_elim (λ e. h k l e) (λ e. subst (Marked out) (omega arith) m) (lt_or_ge k i)

-- what a test of the word at a place says
pub marked_is : (out : List Float) (i : ℕ) {a b : ℕ} → a ≡ to_bits binary32 (get_or out i nan) → b ≡ mark_bits i → a ≡ b → Marked out i
marked_is out i ea eb e = sym ea ∙ e ∙ eb

pub touched_is : (out : List Float) (i : ℕ) {a b : ℕ} → a ≡ to_bits binary32 (get_or out i nan) → b ≡ mark_bits i → (a ≡ b → ⊥) → Marked out i → ⊥
touched_is out i ea eb e m = e (ea ∙ m ∙ sym eb)
