-- Areas that are filled by a rule, words made of bytes, and the hash that stands for bytes in a dump.
use Rattle.std.specs.Prelude.{List, [], ◌∷◌, ◌++◌, ◌≡◌, ℕ, zero, suc, ◌+◌, ◌*◌, ◌/◌, ◌%◌, ◌^◌, ◌<◌, ◌≤◌, min, length, get_or, take, drop, Float}
use Rattle.std.specs.declared.option.Option.{Option}
use Rattle.std.specs.declared.option.Option.TheVariants.{Some, None}
use Rattle.std.specs.Int.Bits.{bit_xor}
use Rattle.std.specs.Float.{nan, binary32}
use Rattle.std.specs.Float.Ieee.{to_bits}
use Rattle.number.specs.Numbers.{little_endian}

-- f 0, .., f (n - 1)
unfoldable pub tabulate : {A : Type 0} → (ℕ → A) → ℕ → List A
tabulate f zero = []
tabulate f (suc n) = tabulate f n ++ (f n ∷ [])

-- the first n of an area, or all where it has fewer, made anew
abbrev pub filled : {A : Type 0} → (ℕ → A) → ℕ → List A → List A
filled f n l = tabulate f (min n (length l)) ++ drop (min n (length l)) l

-- byte i of an area filled by a seed
abbrev pub fill_byte : ℕ → ℕ → ℕ
fill_byte seed i = (i * 2654435761 + seed) % 2 ^ 32 / 2 ^ 24

-- word i of an output before a draw
abbrev pub mark_bits : ℕ → ℕ
mark_bits i = 0x5ead0000 + i % 65536

-- word i is still as it was marked
abbrev pub Marked : List Float → ℕ → Type 0
Marked out i = to_bits binary32 (get_or out i nan) ≡ mark_bits i

-- a place, or another where there is none
abbrev pub place_or : Option ℕ → ℕ → ℕ
place_or (Some i) other = i
place_or None other = other

-- r is the least place from a place on whose word is not, or past the end where there is none
abbrev pub FirstTouched : List Float → ℕ → ℕ → Type 0
FirstTouched out start r = (start ≤ r) × (((i : ℕ) → start ≤ i → i < r → Marked out i) × (r < length out → Marked out r → ⊥))

-- word i of bytes, little-endian
abbrev pub word_of : List ℕ → ℕ → ℕ
word_of bytes i = little_endian (take 4 (drop (4 * i) bytes))

-- 32-bit FNV-1a
abbrev pub hash_step : ℕ → ℕ → ℕ
hash_step h b = bit_xor h b * 0x01000193 % 2 ^ 32

unfoldable pub hash_from : ℕ → List ℕ → ℕ
hash_from h [] = h
hash_from h (b ∷ bs) = hash_from (hash_step h b) bs

abbrev pub hash : List ℕ → ℕ
hash = hash_from 0x811c9dc5
