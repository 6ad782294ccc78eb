-- Laws of the definitions in specs/Text.antt.
use Rattle.std.proofs.Common.{append_assoc}
use Rattle.std.proofs.lemmas.List.FromFn.{fill_by_all}
use Prim.Native.Nat.{ℕ, zero, suc, ◌+◌, ◌-◌, ◌*◌, ◌/◌, ◌%◌, ◌^◌, ◌<◌, ◌≤◌, min}
use mathlib.Core.List.{List, [], ◌∷◌, ◌++◌, foldl}
use mathlib.Core.Path.{◌≡◌, refl, sym, ap, ◌∙◌}
use native.Mathlib.Nat.{div-one, div-div-eq-div-mul, div-lt_iff_lt-mul, le-div_iff_mul-le, div-lt_self, mod-eq_of_lt, pow-suc}
use native.Mathlib.Nat.{one-le-pow, pow-le-pow_right, le_of_suc-le-suc, lt_of_not-le}
use native.Mathlib.Numerals.{add-one}
use native.Mathlib.Omega.{arith}
use borrow.Author.Tests.{lt-ltb, le-ltb, le-leb, lt-leb}
use lib.Ieee.{Float, nan, inf, fin, binary32, is_nan, to_bits}
use lib.ListN.{length, take, drop, get_or, length-append, length-take, length-drop}
use lib.Seq.{drop-cons, drop-drop, take_at}
use borrow.Rule.Slice.PartMut.{put_mid}
use Rattle.io.specs.Digits.{hex_digit_ascii, last_digits, IsDigitCount}
use Rattle.number.specs.Bytes.{overwrite}
use Rattle.trace_text.specs.Text.{Page, page, put_text, put_held, decimal_in, decimal, hex, shown_bits}

pub glyph_low : (d : ℕ) → d < 10 → 48 + d ≡ hex_digit_ascii d
glyph_low d h = rw (lt-ltb d 10 h)

pub glyph_high : (d : ℕ) → 10 ≤ d → 87 + d ≡ hex_digit_ascii d
glyph_high d h = rw (le-ltb d 10 h)

-- the eight digits by one division each
pub hex_is : (w : ℕ) {a b c d e f g h : ℕ}
    → a ≡ hex_digit_ascii (w / 0x1000_0000 % 16) → b ≡ hex_digit_ascii (w / 0x100_0000 % 16)
    → c ≡ hex_digit_ascii (w / 0x10_0000 % 16) → d ≡ hex_digit_ascii (w / 0x1_0000 % 16)
    → e ≡ hex_digit_ascii (w / 0x1000 % 16) → f ≡ hex_digit_ascii (w / 0x100 % 16)
    → g ≡ hex_digit_ascii (w / 0x10 % 16) → h ≡ hex_digit_ascii (w % 16)
    → a ∷ b ∷ c ∷ d ∷ e ∷ f ∷ g ∷ h ∷ [] ≡ hex w
unfolding hex
hex_is w p q r s t u v x = rw (p, q, r, s, t, u, v, x) (simp div-div-eq-div-mul)

-- eight digits by their places
pub hex_of : (w : ℕ) (text : List ℕ) → length text ≡ 8
    → get_or text 0 0 ≡ hex_digit_ascii (w / 0x1000_0000 % 16) → get_or text 1 0 ≡ hex_digit_ascii (w / 0x100_0000 % 16)
    → get_or text 2 0 ≡ hex_digit_ascii (w / 0x10_0000 % 16) → get_or text 3 0 ≡ hex_digit_ascii (w / 0x1_0000 % 16)
    → get_or text 4 0 ≡ hex_digit_ascii (w / 0x1000 % 16) → get_or text 5 0 ≡ hex_digit_ascii (w / 0x100 % 16)
    → get_or text 6 0 ≡ hex_digit_ascii (w / 0x10 % 16) → get_or text 7 0 ≡ hex_digit_ascii (w / 1 % 16) → text ≡ hex w
hex_of w text n a b c d e f g h =
    fill_by_all (λ k. get_or text k 0) text 8 0 n (λ k l. refl) ∙ hex_is w a b c d e f g (h ∙ ap (λ v. hex_digit_ascii (v % 16)) (div-one w))

-- a list of eight by its elements
pub eight : (h : List ℕ) (w : ℕ) → h ≡ hex w
    → get_or h 0 0 ∷ get_or h 1 0 ∷ get_or h 2 0 ∷ get_or h 3 0 ∷ get_or h 4 0 ∷ get_or h 5 0 ∷ get_or h 6 0 ∷ get_or h 7 0 ∷ [] ≡ hex w
unfolding hex
eight h w e = rw e

pub shown : (x : Float) → to_bits binary32 x ≡ shown_bits x
unfolding shown_bits is_nan to_bits
shown nan = refl
shown (inf s) = refl
shown (fin s m e) = refl

-- the two cases of `put_text`, from the place where the text starts
module _ (bytes : List ℕ) (at : ℕ) (text : List ℕ) (start : ℕ) (held_at : start ≡ min at (length bytes)) where
  pub put_fits : length text ≤ length bytes - start → page (overwrite bytes start text) (start + length text) ≡ put_text (page bytes at) text
  unfolding put_held
  put_fits h = rw (← held_at, le-leb (start + length text) (length bytes) (omega arith))

  pub put_full : length bytes - start < length text → page bytes start ≡ put_text (page bytes at) text
  unfolding put_held
  put_full h = rw (← held_at, lt-leb (start + length text) (length bytes) (omega arith))

-- the text as the part of the bytes that it goes into
pub placed : (bytes : List ℕ) (start : ℕ) (text part : List ℕ) → part ≡ text → put_mid start (start + length text - start) bytes part ≡ overwrite bytes start text
unfolding overwrite
placed bytes start text part e =
    let whole : start + length text - start ≡ length text = omega arith in
    rw (e, whole, drop-drop) (sym (append_assoc (take start bytes) text (drop (start + length text) bytes)))

pub longer : (bytes : List ℕ) (start : ℕ) (text : List ℕ) → start + length text ≤ length bytes → length (overwrite bytes start text) ≡ length bytes
unfolding overwrite
longer bytes start text fits =
    omega (
      arith,
      length-append (take start bytes ++ text) (drop (start + length text) bytes),
      length-append (take start bytes) text,
      length-take start bytes,
      length-drop (start + length text) bytes,
    )

-- a text put behind a first byte
pub behind : (b : ℕ) (rest text after : List ℕ) (end : ℕ) → length text ≤ length rest → page after end ≡ put_text (page (b ∷ rest) 1) text → take end after ≡ b ∷ text
unfolding overwrite
behind b rest text after end room e =
    let p : page after end ≡ page (overwrite (b ∷ rest) 1 text) (1 + length text) = e ∙ sym (put_fits (b ∷ rest) 1 text 1 (omega arith) (omega arith)) in
    let bytes : after ≡ overwrite (b ∷ rest) 1 text = cc in
    let place : end ≡ 1 + length text = cc in
    rw (bytes, place, take_at (b ∷ text) (drop (1 + length text) (b ∷ rest)) (1 + length text) (omega arith))

-- the fewest digits that hold n are its decimal digits
fewest_is : (k n steps : ℕ) → IsDigitCount 10 1 n k → n < steps → last_digits 10 k n ≡ decimal_in steps n
fewest_is zero n steps f h = absurd (omega (arith, f.0))
fewest_is (suc k) n zero f h = absurd (omega arith)
fewest_is (suc zero) n (suc steps) f h =
    let small : n < 10 = f.1 in
    rw (mod-eq_of_lt small, lt-ltb n 10 small)
fewest_is (suc (suc k)) n (suc steps) f h =
    let before : suc (suc k) - 1 ≡ suc k = omega arith in
    let before' : suc k - 1 ≡ k = omega arith in
    let large : 10 ^ suc k ≤ n = rw before at (f.2 (omega arith)) in
    let power : 10 ^ suc k ≡ 10 ^ k * 10 = pow-suc 10 k in
    let some : 1 ≤ 10 ^ k = one-le-pow k 10 (omega arith) in
    let top : n < 10 ^ suc k * 10 = rw pow-suc at f.1 in
    let ten : 0 < 10 = omega arith in
    let enough : 10 ^ k * 10 ≤ n = omega arith in
    let least : 10 ^ (suc k - 1) ≤ n / 10 = rw before' ((le-div_iff_mul-le ten).1 enough) in
    let fewer = fewest_is (suc k) (n / 10) steps (omega arith, (div-lt_iff_lt-mul ten).1 top, λ _. least)
    (omega (arith, div-lt_self {n = n} {k = 10} (omega arith) (omega arith))) in
    rw (le-ltb n 10 (omega arith), fewer)

pub decimal_is : (k n : ℕ) → IsDigitCount 10 1 n k → last_digits 10 k n ≡ decimal n
unfolding decimal
decimal_is k n f = fewest_is k n (suc n) f (omega arith)

not_more : (k n : ℕ) → IsDigitCount 10 1 n k → n < 10 ^ 20 → 20 < k → ⊥
not_more k n f h over =
    let p : 10 ^ (k - 1) ≤ n = f.2 (omega arith) in
    let ten : 0 < 10 = omega arith in
    let more : 20 ≤ k - 1 = omega arith in
    let q : 10 ^ 20 ≤ 10 ^ (k - 1) = pow-le-pow_right ten more in
    omega arith

-- twenty digits hold a u64
pub few : (k n : ℕ) → IsDigitCount 10 1 n k → n < 10 ^ 20 → k ≤ 20
few k n f h = le_of_suc-le-suc (lt_of_not-le (not_more k n f h))

-- one piece more
pub put_next : {A : Type 0} (f : Page → A → Page) (p q : Page) (l : List A) (i : ℕ) (d : A) → i < length l → q ≡ f p (get_or l i d)
    → foldl f q (drop (i + 1) l) ≡ foldl f p (drop i l)
put_next f p q l i d h e = rw (add-one, drop-cons l i d, e)
