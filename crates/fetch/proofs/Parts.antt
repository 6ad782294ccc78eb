-- Where bytes lie, case by case. Assumes nothing.
use Prim.Native.Nat.{ℕ, ◌+◌, ◌-◌, ◌*◌, ◌<◌, ◌≤◌, min}
use mathlib.Core.List.{List}
use mathlib.Core.Option.{Option, some}
use mathlib.Core.Path.{◌≡◌, refl, sym, ap, ◌∙◌}
use Rattle.std.specs.Prelude.{Err}
use native.Mathlib.Omega.{arith}
use lib.ListN.{length, take, drop, length-take, length-drop}
use lib.Seq.{get_or-take, get_or-drop, ext_get_or, drop-drop}
use borrow.Author.Tests.{lt-leb, le-leb}
use Rattle.buffers.specs.Objects.{contents_of, slot_of, len_at, bytes_in_slot}
use Rattle.buffers.specs.declared.Slot.{Slot}
use Rattle.buffers.proofs.Slots.{slot_unknown, contents_none, contents_zero, contents_some}
use Rattle.fetch.specs.Fetch.{Part, bytes, no_buffer, unreadable, in_buffer, in_guest, part_state}
use Rattle.fetch.specs.FetchCode.{part_in}
use Rattle.fetch.specs.declared.Missing.{Missing}

-- the state of a part that is missing
pub missing_state : (m : Missing) → part_state (part_in (Err m)) ≡ Err m
missing_state Missing.NoBuffer = refl
missing_state Missing.Unreadable = refl

pub part_length : (l : List ℕ) (at n : ℕ) → at + n ≤ length l → length (take n (drop at l)) ≡ n
part_length l at n h = simp (length-take, length-drop) (omega arith)

-- a part of a list's first n
part_of_front : (k a n : ℕ) (l : List ℕ) → a + k ≤ n → take k (drop a (take n l)) ≡ take k (drop a l)
part_of_front k a n l h =
    ext_get_or 0 _ _ (simp (length-take, length-drop) (omega arith))
    (λ i m.
    let u : i < k = omega (arith, length-take k (drop a (take n l))) in
    get_or-take k _ i 0 u ∙ get_or-drop a _ i 0 ∙ get_or-take n l (a + i) 0 (omega arith) ∙ sym (get_or-drop a l i 0) ∙ sym (get_or-take k _ i 0 u))

module _ (slots : List Slot) (s : List ℕ) (n address len : ℕ) where
  abbrev found : Part
  found = in_buffer (contents_of slots s n) address len

  pub none_zero : n ≡ 0 → found ≡ no_buffer
  none_zero z = rw (contents_zero slots s n z)

  pub none_slot : (k : ℕ) → k ≡ slot_of slots n → 16 ≤ k → found ≡ no_buffer
  none_slot k e h = rw (contents_none slots s n (slot_unknown slots n (omega arith)))

  module _ (z : n ≡ 0 → ⊥) (k : ℕ) (e : k ≡ slot_of slots n) (h : k < 16) (held : ℕ) (size : held ≡ min (len_at slots k) (length s - 4096 * k)) where
    in_slot : found ≡ in_buffer (some (bytes_in_slot slots s k)) address len
    in_slot =
        ap (λ (o : Option (List ℕ)). in_buffer o address len)
        (contents_some slots s n (omega (arith, z)) (omega arith) ∙ ap (λ (j : ℕ). some (bytes_in_slot slots s j)) (sym e))

    long : length (bytes_in_slot slots s k) ≡ held
    long = simp (length-take, length-drop) (sym size)

    pub slot_short : held < address + len → found ≡ unreadable
    slot_short m = in_slot ∙ simp (long, lt-leb (address + len) held m)

    slot_bytes_law : address + len ≤ held → found ≡ bytes (take len (drop address (bytes_in_slot slots s k)))
    slot_bytes_law m = in_slot ∙ simp (long, le-leb (address + len) held m)

    pub slot_empty : address + len ≤ held → len ≡ 0 → (0 + len ≤ length s) × (found ≡ bytes (take len (drop 0 s)))
    slot_empty m q = (omega arith, slot_bytes_law m ∙ rw q)

    pub slot_there : address + len ≤ held → (len ≡ 0 → ⊥)
        → (4096 * k + address + len ≤ length s) × (found ≡ bytes (take len (drop (4096 * k + address) s)))
    slot_there m q = (
      omega (arith, q),
      slot_bytes_law m
          ∙ ap bytes (part_of_front len address (len_at slots k) (drop (4096 * k) s) (omega arith) ∙ ap (take len) (drop-drop address (4096 * k) s)),
    )

module _ (base : ℕ) (guest : List ℕ) (address len : ℕ) where
  pub guest_low : address < base → in_guest base guest address len ≡ unreadable
  guest_low h = simp (lt-leb base address h)

  pub guest_short : base ≤ address → length guest < address - base + len → in_guest base guest address len ≡ unreadable
  guest_short h m = simp (le-leb base address h, lt-leb (address - base + len) (length guest) m)

  pub guest_there : base ≤ address → address - base + len ≤ length guest
      → (address - base + len ≤ length guest) × (in_guest base guest address len ≡ bytes (take len (drop (address - base) guest)))
  guest_there h m = (m, simp (le-leb base address h, le-leb (address - base + len) (length guest) m))
