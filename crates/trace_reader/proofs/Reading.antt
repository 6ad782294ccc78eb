-- The words of the bytes that were read. Assumes nothing.
use mathlib.Core.List.{List, [], ◌∷◌, ◌++◌}
use mathlib.Core.Path.{◌≡◌, refl, sym, ap, ◌∙◌}
use Prim.Native.Nat.{ℕ, zero, suc, ◌*◌, ◌/◌, ◌<◌, ◌≤◌, min}
use native.Mathlib.Omega.{arith}
use lib.ListN.{length, take, drop, take-append-drop, length-drop}
use lib.Seq.{take-append-le, drop-append-le, length-take-le}
use Rattle.number.specs.Numbers.{little_endian}
use Rattle.list_words.specs.Words.{bytes_at}
use Rattle.trace_format.specs.Fill.{tabulate, filled, word_of}

-- a word within the first of the bytes is the same in all of them
front_word : (bytes : List ℕ) (n i : ℕ) → 4 * n ≤ length bytes → i < n → word_of (take (4 * n) bytes) i ≡ word_of bytes i
front_word bytes n i h l =
    let front : length (take (4 * n) bytes) ≡ 4 * n = length-take-le (4 * n) bytes h in
    ap little_endian (sym (take-append-le 4 (drop (4 * i) (take (4 * n) bytes)) (drop (4 * n) bytes) (omega (arith, length-drop (4 * i) (take (4 * n) bytes)))))
    ∙ ap (λ b. little_endian (take 4 b)) (sym (drop-append-le (4 * i) (take (4 * n) bytes) (drop (4 * n) bytes) (omega arith)))
    ∙ ap (λ b. word_of b i) (take-append-drop (4 * n) bytes)

tabulate_same : {A : Type 0} (f g : ℕ → A) (n : ℕ) → ((i : ℕ) → i < n → f i ≡ g i) → tabulate f n ≡ tabulate g n
unfolding tabulate
tabulate_same f g zero h = refl
tabulate_same f g (suc n) h = λ t. tabulate_same f g n (λ i l. h i (omega arith)) t ++ (h n (omega arith) t ∷ [])

pub words_read_law : (bytes w : List ℕ) (n : ℕ) {part w1 : List ℕ}
    → 4 * n ≤ length bytes → part ≡ bytes_at bytes 0 (4 * n) → w1 ≡ filled (word_of part) (length part / 4) w → w1 ≡ filled (word_of bytes) n w
words_read_law bytes w n {part = part} h e r =
    let size : length part / 4 ≡ n = omega (arith, ap length e, length-take-le (4 * n) bytes h) in
    let same : tabulate (word_of part) (min n (length w)) ≡ tabulate (word_of bytes) (min n (length w)) =
    tabulate_same (word_of part) (word_of bytes) (min n (length w)) (λ i l. ap (λ b. word_of b i) e ∙ front_word bytes n i h (omega arith)) in
    r ∙ ap (λ k. filled (word_of part) k w) size ∙ ap (λ t. t ++ drop (min n (length w)) w) same

-- eight bytes hold two words
pub two_words : (bytes : List ℕ) {w : List ℕ} → length bytes ≡ 8 → w ≡ filled (word_of bytes) (length bytes / 4) (0 ∷ 0 ∷ []) → w ≡ word_of bytes 0 ∷ word_of bytes 1 ∷ []
unfolding tabulate
two_words bytes h e = e ∙ ap (λ k. filled (word_of bytes) (k / 4) (0 ∷ 0 ∷ [])) h
