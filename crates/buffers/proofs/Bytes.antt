-- Laws of overwriting a part of a list of bytes, element by element.
use Prim.Native.Nat.{ℕ, ◌+◌, ◌-◌, ◌<◌, ◌≤◌, min}
use Rattle.std.proofs.Common.{append_assoc}
use Rattle.std.proofs.lemmas.Slice.{take-put_mid, drop-put_mid}
use borrow.Rule.Slice.PartMut.{put_mid}
use mathlib.Core.List.{List, ◌++◌}
use mathlib.Core.Path.{◌≡◌, sym, ap, ◌∙◌}
use mathlib.Core.Logic.{◌⊎◌, inl, inr, ⊎_elim}
use native.Mathlib.Omega.{arith}
use lib.ListN.{length, get_or, take, drop, replicate, length-append, length-take, length-drop, length-replicate, get_or-replicate, get_or-append, get_or-eq_default}
use lib.Seq.{get_or-append-add, get_or-take, get_or-drop, ext_get_or, length-take-le, take-append_seam, drop-drop}
use Rattle.number.specs.Bytes.{overwrite}
use Rattle.buffers.specs.Objects.{padded}
use Rattle.buffers.proofs.Bounds.{lt_or_ge}

-- past the first of two lists
past : (p q : List ℕ) (i : ℕ) → length p ≤ i → get_or (p ++ q) i 0 ≡ get_or q (i - length p) 0
past p q i h =
    let e : length p + (i - length p) ≡ i = omega arith in
    ap (λ (k : ℕ). get_or (p ++ q) k 0) (sym e) ∙ get_or-append-add p q (i - length p) 0

pub length_padded : (n : ℕ) (xs : List ℕ) → length (padded n xs) ≡ n
unfolding padded
length_padded n xs = simp (length-take, length-append, length-replicate) (omega arith)

pub get_or_padded : (n : ℕ) (xs : List ℕ) (i : ℕ) → i < n → get_or (padded n xs) i 0 ≡ get_or xs i 0
unfolding padded
get_or_padded n xs i h =
    get_or-take n (xs ++ replicate n 0) i 0 h
    ∙ ⊎_elim
    (λ l. get_or-append xs (replicate n 0) 0 i l)
    (λ l. past xs (replicate n 0) i l ∙ get_or-replicate n (i - length xs) 0 0 (omega arith) ∙ sym (get_or-eq_default xs 0 l))
    (lt_or_ge i (length xs))

pub padded_all : (xs : List ℕ) → padded (length xs) xs ≡ xs
unfolding padded
padded_all xs = take-append_seam xs (replicate (length xs) 0)

module _ (old : List ℕ) (at : ℕ) (new : List ℕ) (fits : at + length new ≤ length old) where
  head_length : length (take at old ++ new) ≡ at + length new
  head_length = length-append (take at old) new ∙ ap (λ (k : ℕ). k + length new) (length-take-le at old (omega arith))

  pub length_overwrite : length (overwrite old at new) ≡ length old
  unfolding overwrite
  length_overwrite = length-append (take at old ++ new) (drop (at + length new) old) ∙ simp (head_length, length-drop) (omega arith)

  pub overwrite_in : (i : ℕ) → at ≤ i → i < at + length new → get_or (overwrite old at new) i 0 ≡ get_or new (i - at) 0
  unfolding overwrite
  overwrite_in i h l =
      let n = length-take-le at old (omega arith) in
      get_or-append (take at old ++ new) (drop (at + length new) old) 0 i (omega (arith, head_length))
      ∙ past (take at old) new i (omega (arith, n)) ∙ ap (λ (k : ℕ). get_or new (i - k) 0) n

  pub overwrite_before : (i : ℕ) → i < at → get_or (overwrite old at new) i 0 ≡ get_or old i 0
  unfolding overwrite
  overwrite_before i h =
      let n = length-take-le at old (omega arith) in
      get_or-append (take at old ++ new) (drop (at + length new) old) 0 i (omega (arith, head_length))
      ∙ get_or-append (take at old) new 0 i (omega (arith, n)) ∙ get_or-take at old i 0 h

  pub overwrite_after : (i : ℕ) → at + length new ≤ i → get_or (overwrite old at new) i 0 ≡ get_or old i 0
  unfolding overwrite
  overwrite_after i h =
      past (take at old ++ new) (drop (at + length new) old) i (omega (arith, head_length))
      ∙ get_or-drop (at + length new) old (i - length (take at old ++ new)) 0
      ∙ ap (λ (k : ℕ). get_or old k 0) (omega (arith, head_length))

-- two parts of lists are equal by their elements
parts : (n a : ℕ) (x y : List ℕ) → a + n ≤ length x → length x ≡ length y → ((i : ℕ) → a ≤ i → i < a + n → get_or x i 0 ≡ get_or y i 0) → take n (drop a x) ≡ take n (drop a y)
parts n a x y h e same =
    ext_get_or 0 (take n (drop a x)) (take n (drop a y)) (simp (length-take, length-drop, e))
    (λ i l.
    let l' : i < n = omega (arith, length-take n (drop a x)) in
    get_or-take n (drop a x) i 0 l' ∙ get_or-drop a x i 0 ∙ same (a + i) (omega arith) (omega arith) ∙ sym (get_or-drop a y i 0) ∙ sym (get_or-take n (drop a y) i 0 l'))

-- a part that lies apart stays
pub apart : (old : List ℕ) (at : ℕ) (new : List ℕ) → at + length new ≤ length old → (n a : ℕ) → a + n ≤ length old → (a + n ≤ at) ⊎ (at + length new ≤ a)
    → take n (drop a (overwrite old at new)) ≡ take n (drop a old)
apart old at new fits n a h side =
    parts n a _ _ (omega (arith, length_overwrite old at new fits)) (length_overwrite old at new fits)
    (λ i l u. ⊎_elim (λ w. overwrite_before old at new fits i (omega arith)) (λ w. overwrite_after old at new fits i (omega arith)) side)

-- the part itself is what was written
pub written : (old : List ℕ) (at : ℕ) (new : List ℕ) → at + length new ≤ length old → take (length new) (drop at (overwrite old at new)) ≡ new
written old at new fits =
    ext_get_or 0 _ _ (simp (length-take, length-drop, length_overwrite old at new fits) (omega arith))
    (λ i l.
    let l' : i < length new = omega (arith, length-take (length new) (drop at (overwrite old at new))) in
    get_or-take (length new) _ i 0 l' ∙ get_or-drop at _ i 0 ∙ overwrite_in old at new fits (at + i) (omega arith) (omega arith) ∙ ap (λ (k : ℕ). get_or new k 0) (omega arith))

-- overwriting inside a part is overwriting the part
pub within : (old : List ℕ) (base n off : ℕ) (new : List ℕ) → base + n ≤ length old → off + length new ≤ n
    → take n (drop base (overwrite old (base + off) new)) ≡ overwrite (take n (drop base old)) off new
within old base n off new h inside =
    ext_get_or 0 _ _ (simp (length-take, length-drop, length_overwrite old (base + off) new fits, length_overwrite (take n (drop base old)) off new fits') (omega arith))
    (λ i l.
    let l' : i < n = omega (arith, length-take n (drop base (overwrite old (base + off) new))) in
    get_or-take n _ i 0 l' ∙ get_or-drop base _ i 0
    ∙ at_place i l' (lt_or_ge i off) (lt_or_ge i (off + length new)))
  where
    fits : base + off + length new ≤ length old
    fits = omega arith

    fits' : off + length new ≤ length (take n (drop base old))
    fits' = simp (length-take, length-drop) (omega arith)

    inner : (i : ℕ) → i < n → get_or (take n (drop base old)) i 0 ≡ get_or old (base + i) 0
    inner i l = get_or-take n (drop base old) i 0 l ∙ get_or-drop base old i 0

    at_place : (i : ℕ) → i < n → (i < off) ⊎ (off ≤ i) → (i < off + length new) ⊎ (off + length new ≤ i)
        → get_or (overwrite old (base + off) new) (base + i) 0 ≡ get_or (overwrite (take n (drop base old)) off new) i 0
    at_place i l (inl a) e = overwrite_before old (base + off) new fits (base + i) (omega arith) ∙ sym (inner i l) ∙ sym (overwrite_before _ off new fits' i a)
    at_place i l (inr a) (inl e) =
        overwrite_in old (base + off) new fits (base + i) (omega arith) (omega arith) ∙ ap (λ (k : ℕ). get_or new k 0) (omega arith) ∙ sym (overwrite_in _ off new fits' i a e)
    at_place i l (inr a) (inr e) = overwrite_after old (base + off) new fits (base + i) (omega arith) ∙ sym (inner i l) ∙ sym (overwrite_after _ off new fits' i e)

-- data cut at n, then zeroes
pub padded_parts : (n size : ℕ) (bytes : List ℕ) → n ≡ min (length bytes) size → padded size bytes ≡ take n bytes ++ replicate (size - n) 0
padded_parts n size bytes e =
    ext_get_or 0 _ _ (length_padded size bytes ∙ sym (simp (length-append, length-take, length-replicate) (omega arith)))
    (λ i l.
    let long : length (take n bytes) ≡ n = length-take-le n bytes (omega arith) in
    let l' : i < size = omega (arith, length_padded size bytes) in
    get_or_padded size bytes i l'
    ∙ ⊎_elim (λ h. sym (get_or-append (take n bytes) (replicate (size - n) 0) 0 i (omega (arith, long)) ∙ get_or-take n bytes i 0 h))
    (λ h. get_or-eq_default bytes 0 (omega arith)
    ∙ sym (past (take n bytes) (replicate (size - n) 0) i (omega (arith, long)) ∙ get_or-replicate (size - n) (i - length (take n bytes)) 0 0 (omega (arith, long))))
    (lt_or_ge i n))

-- a copy and a fill, one after the other
pub copied_filled : (old : List ℕ) (at n size : ℕ) (bytes part zeros : List ℕ) → at + size ≤ length old → n ≡ min (length bytes) size
    → part ≡ take n bytes → zeros ≡ replicate (size - n) 0
    → put_mid (at + n) (at + size - (at + n)) (put_mid at (at + n - at) old part) zeros ≡ overwrite old at (padded size bytes)
unfolding overwrite
copied_filled old at n size bytes part zeros fits e copied filled =
    let long : length part ≡ n = ap length copied ∙ length-take-le n bytes (omega arith) in
    let sum : at + length (padded size bytes) ≡ at + n + (at + size - (at + n)) = omega (arith, length_padded size bytes) in
    let whole : padded size bytes ≡ part ++ zeros = padded_parts n size bytes e ∙ sym (ap (λ (x : List ℕ). x ++ zeros) copied ∙ ap (λ (x : List ℕ). take n bytes ++ x) filled) in
    rw (
      take-put_mid at (at + n - at) old part (at + n) (omega arith) (omega arith),
      drop-put_mid at (at + n - at) old part (at + n) (omega arith) (omega arith) (omega arith),
    ) (rw (drop-drop (at + size - (at + n)) (at + n) old, sum, whole) (simp append_assoc))
