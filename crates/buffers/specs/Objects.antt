-- The buffer objects of ES 1.1 that slots and a store stand for. Which slot holds a name, and what the store holds outside live buffers, do not show in them.
use Rattle.std.specs.Prelude.{ℕ, zero, suc, ◌+◌, ◌*◌, ◌<◌, ◌≤◌, max, Bool, true, false, not, cond, ◌&&◌, ◌||◌, List, [], ◌∷◌, ◌++◌, ◌⊎◌, ◌≡◌, length, get_or, take, drop, replicate}
use Rattle.std.specs.Prelude.{eqb, ltb, leb, Result, Ok, Err}
use Rattle.std.proofs.Math.Option.{Option, some, none}
use Rattle.number.specs.Decides.{Decides}
use Rattle.number.specs.Bytes.{overwrite}
use Rattle.refusal.specs.Refusals.{Answer, answer}
use Rattle.refusal.specs.declared.Refusal.{Refusal}
use Rattle.buffers.specs.Bounded.{first, count}
use Rattle.buffers.specs.declared.Slot.{Slot}
use Rattle.buffers.specs.declared.Buffers.{Buffers}

-- ---- limits

-- 01's 16 rows: at most so many names live
abbrev pub slot_count : ℕ
slot_count = 16

-- 01's 4,096 bytes a buffer: the block of each slot
abbrev pub slot_bytes : ℕ
slot_bytes = 4096

-- 01's store of 65,536 bytes: all blocks
abbrev pub store_bytes : ℕ
store_bytes = 65536

-- 01's 2^32-1: names stay below it, and next does not pass it
abbrev pub last_name : ℕ
last_name = 4294967295

-- ---- the objects

pub record Objects : Type 0 where
  pub next : ℕ  -- the next name that gen gives
  pub contents : ℕ → Option (List ℕ)  -- a live name's bytes, none for another name
  pub array : ℕ  -- the array binding, 0 for none
  pub element : ℕ  -- the element binding, 0 for none

abbrev pub fresh_objects : Objects
fresh_objects = record { next = 1; contents = λ n. none; array = 0; element = 0 }

abbrev pub absent : Option (List ℕ) → Bool
absent none = true
absent (some bytes) = false

-- how many names live: every live name is below next
unfoldable pub live_names : Objects → ℕ
live_names o = count o.next (λ n. not (absent (o.contents n)))

-- a live name's bytes, none for another
abbrev pub bytes_of : Option (List ℕ) → List ℕ
bytes_of none = []
bytes_of (some bytes) = bytes

-- ---- the objects of slots and a store

abbrev pub free_slot : Slot
free_slot = record { name = 0; len = 0 }

abbrev pub name_at : List Slot → ℕ → ℕ
name_at slots k = (get_or slots k free_slot).name

abbrev pub len_at : List Slot → ℕ → ℕ
len_at slots k = (get_or slots k free_slot).len

-- the bytes of slot k: the first of its block
abbrev pub bytes_in_slot : List Slot → List ℕ → ℕ → List ℕ
bytes_in_slot slots store k = take (len_at slots k) (drop (slot_bytes * k) store)

-- the first slot with this name, or 16
unfoldable pub slot_of : List Slot → ℕ → ℕ
slot_of slots n = first slot_count (λ k. eqb (name_at slots k) n)

-- what a name holds; name 0 marks a free slot and holds nothing
unfoldable pub contents_of : List Slot → List ℕ → ℕ → Option (List ℕ)
contents_of slots store n =
    cond (eqb n 0) none (cond (ltb (slot_of slots n) slot_count) (some (bytes_in_slot slots store (slot_of slots n))) none)

abbrev pub objects : Buffers → List ℕ → Objects
objects b store =
    record { next = b.next; contents = contents_of b.slots store; array = b.array_buffer; element = b.element_buffer }

-- ---- soundness

-- a name lives: a slot holds it
pub record Live (slots : List Slot) (n : ℕ) : Type 0 where
  pub slot : ℕ
  pub within : slot < slot_count
  pub holds : name_at slots slot ≡ n
  pub nonzero : 0 < n

-- 0 or live
abbrev pub Bindable : List Slot → ℕ → Type 0
Bindable slots n = (n ≡ 0) ⊎ Live slots n

-- No buffer above 4,096 bytes, no live name twice, next above 0 and every live name, both bindings 0 or live. That no live name is 0 needs no line: a slot of name 0 is free.
pub record Sound (b : Buffers) : Type 0 where
  pub small : (k : ℕ) → k < slot_count → 0 < name_at b.slots k → len_at b.slots k ≤ slot_bytes
  pub once : (j k : ℕ) → j < slot_count → k < slot_count → 0 < name_at b.slots j → name_at b.slots j ≡ name_at b.slots k → j ≡ k
  pub started : 0 < b.next
  pub below : (k : ℕ) → k < slot_count → name_at b.slots k < b.next
  pub array_live : Bindable b.slots b.array_buffer
  pub element_live : Bindable b.slots b.element_buffer

-- the code's test of soundness decides it; `slots` is true of all buffers that a program holds: the array has its length
pub record SoundIs (b : Buffers) (r : Bool) : Type 0 where
  pub decides : Decides (Sound b) r
  pub slots : length b.slots ≡ slot_count

-- fresh buffers are sound, their objects are fresh over any store, and every length is 0
pub record IsFresh (r : Buffers) : Type 0 where
  pub sound : Sound r
  pub state : (s : List ℕ) → objects r s ≡ fresh_objects
  pub lengths : (k : ℕ) → k < slot_count → len_at r.slots k ≡ 0

-- ---- free slots

-- the length in a slot that a call leaves free: as it was where the slot was free before, 0 where the call freed it
abbrev pub free_len : List Slot → ℕ → ℕ
free_len before k = cond (eqb (name_at before k) 0) (len_at before k) 0

-- what slots before and after a call have in common, whichever slot it took or freed
pub record FreeSlots (before after : List Slot) : Type 0 where
  pub lengths : (k : ℕ) → k < slot_count → name_at after k ≡ 0 → len_at after k ≡ free_len before k

-- ---- the calls

-- The contract of a call that borrows no store, by the rule for its objects. Unsound buffers are refused with 1 and stay. Else
-- number and objects are the rule's over any store, the buffers stay sound, and a free slot's length is settled. A refusal whose
-- rule leaves the objects changes nothing; the one other refusal is bind's at a refused target, 0x0500, which makes a new name.
pub record Answers (b : Buffers) (rule : Objects → Answer Objects) (number : ℕ) (r : Buffers) : Type 0 where
  pub unsound : (Sound b → ⊥) → (number ≡ 1) × (r ≡ b)
  pub ruled : Sound b → (s : List ℕ) → answer number (objects r s) ≡ rule (objects b s)
  pub kept : Sound b → Sound r
  pub free : FreeSlots b.slots r.slots
  pub stays : (number ≡ 0 → ⊥) → (s : List ℕ) → (rule (objects b s)).after ≡ objects b s → r ≡ b

-- The contract of a call that borrows the store, which holds s before and s' after. Unsound buffers or a store of another length
-- are refused with 1. Else number and objects are the rule's, the buffers stay sound, and a free slot's length is settled. A
-- refusal changes neither buffers nor store.
pub record AnswersIn (b : Buffers) (s : List ℕ) (rule : Objects → Answer Objects) (number : ℕ) (r : Buffers) (s' : List ℕ) : Type 0 where
  pub invalid : (Sound b → length s ≡ store_bytes → ⊥) → number ≡ 1
  pub ruled : Sound b → length s ≡ store_bytes → answer number (objects r s') ≡ rule (objects b s)
  pub kept : Sound b → Sound r
  pub free : FreeSlots b.slots r.slots
  pub size : length s' ≡ length s
  pub stays : (number ≡ 0 → ⊥) → (r ≡ b) × (s' ≡ s)

-- ---- gen

-- a new empty name, and next past it
abbrev pub make : Objects → ℕ → Objects
make o n =
    record {
      next = max o.next (n + 1);
      contents = λ m. cond (eqb m n) (some []) (o.contents m);
      array = o.array;
      element = o.element;
    }

-- the next n names made
unfoldable pub gen_names : ℕ → Objects → Objects
gen_names zero o = o
gen_names (suc n) o = gen_names n (make o o.next)

unfoldable pub gen_answer : Objects → ℕ → Answer Objects
gen_answer o n =
    cond (ltb slot_count (live_names o + n)) (answer 4 o)
    (cond (ltb last_name (o.next + n)) (answer 5 o)
    (answer 0 (gen_names n o)))

-- gen's first name: next at entry, or 0 where it is refused or makes none
abbrev pub gen_first : ℕ → ℕ → ℕ → ℕ
gen_first number next n = cond (eqb number 0 && ltb 0 n) next 0

-- the first name in gen's answer, 0 where it is refused
abbrev pub first_in : Result ℕ Refusal → ℕ
first_in (Ok first) = first
first_in (Err r) = 0

pub record Generates (b : Buffers) (n : ℕ) (number : ℕ) (first : ℕ) (r : Buffers) : Type 0 where
  pub answers : Answers b (λ o. gen_answer o n) number r
  pub names : first ≡ gen_first number b.next n

-- ---- bind

-- next lifted past a name
abbrev pub lift : Objects → ℕ → Objects
lift o n = record { next = max o.next (n + 1); contents = o.contents; array = o.array; element = o.element }

-- a nonzero name is live after this
unfoldable pub named : Objects → ℕ → Objects
named o n = cond (eqb n 0) o (cond (absent (o.contents n)) (make o n) (lift o n))

abbrev pub bind_array : Objects → ℕ → Objects
bind_array o n = record { next = o.next; contents = o.contents; array = n; element = o.element }

abbrev pub bind_element : Objects → ℕ → Objects
bind_element o n = record { next = o.next; contents = o.contents; array = o.array; element = n }

-- name 0, live, or a slot free
abbrev pub room_for : Objects → ℕ → Bool
room_for o n = eqb n 0 || (not (absent (o.contents n)) || ltb (live_names o) slot_count)

unfoldable pub bind_answer : Objects → ℕ → ℕ → Answer Objects
bind_answer o target n =
    cond (leb last_name n) (answer 5 o)
    (cond (not (room_for o n)) (answer 4 o)
    (cond (eqb target 0x8892) (answer 0 (bind_array (named o n) n))
    (cond (eqb target 0x8893) (answer 0 (bind_element (named o n) n))
    (answer 0x0500 (named o n)))))

-- ---- delete

-- a name deleted: 0 and unknown names are skipped, bindings of it are cleared
unfoldable pub delete_name : Objects → ℕ → Objects
delete_name o n =
    cond (eqb n 0) o
    (cond (absent (o.contents n)) o
    (record {
      next = o.next;
      contents = λ m. cond (eqb m n) none (o.contents m);
      array = cond (eqb o.array n) 0 o.array;
      element = cond (eqb o.element n) 0 o.element;
    }))

-- names deleted in order
unfoldable pub delete_names : List ℕ → Objects → Objects
delete_names [] o = o
delete_names (n ∷ ns) o = delete_names ns (delete_name o n)

abbrev pub delete_answer : Objects → List ℕ → Answer Objects
delete_answer o names = answer 0 (delete_names names o)

-- ---- data and sub-data

abbrev pub is_target : ℕ → Bool
is_target target = eqb target 0x8892 || eqb target 0x8893

-- the name bound at a target, 0 for another target
abbrev pub bound_at : Objects → ℕ → ℕ
bound_at o target = cond (eqb target 0x8892) o.array (cond (eqb target 0x8893) o.element 0)

-- a live name's bytes replaced
abbrev pub with_bytes : Objects → ℕ → List ℕ → Objects
with_bytes o n bytes =
    record {
      next = o.next;
      contents = λ m. cond (eqb m n) (some bytes) (o.contents m);
      array = o.array;
      element = o.element;
    }

-- the data, then zeroes, in all `size` bytes
unfoldable pub padded : ℕ → List ℕ → List ℕ
padded size bytes = take size (bytes ++ replicate size 0)

unfoldable pub data_answer : Objects → ℕ → ℕ → List ℕ → Answer Objects
data_answer o target size bytes =
    cond (not (is_target target)) (answer 0x0500 o)
    (cond (eqb (bound_at o target) 0) (answer 0x0502 o)
    (cond (ltb slot_bytes size) (answer 6 o)
    (answer 0 (with_bytes o (bound_at o target) (padded size bytes)))))

unfoldable pub sub_data_answer : Objects → ℕ → ℕ → List ℕ → Answer Objects
sub_data_answer o target at bytes =
    cond (eqb (bound_at o target) 0) (answer 0x0502 o)
    (cond (ltb (length (bytes_of (o.contents (bound_at o target)))) (at + length bytes)) (answer 0x0501 o)
    (answer 0 (with_bytes o (bound_at o target) (overwrite (bytes_of (o.contents (bound_at o target))) at bytes))))
