-- The extent of a buffer or of the guest bytes: what it is, and which parts it covers. Assumes nothing.
use mathlib.Core.Bool.{Bool, true, false, cond}
use mathlib.Core.List.{List, []}
use mathlib.Core.Option.{Option, some, none}
use mathlib.Core.Path.{◌≡◌, refl, sym, ap, subst, ◌∙◌}
use Prim.Native.Nat.{ℕ, ◌+◌, ◌-◌, ◌*◌, ◌<◌, ◌≤◌, min}
use native.Mathlib.Nat.{sub-zero, zero-add}
use native.Mathlib.Omega.{arith}
use borrow.Author.Tests.{eq-eqb, ne_eqb, eqb-true, eqb-false, ltb-true, ltb-false}
use lib.Dec.{eqb, ltb}
use lib.ListN.{length, take, drop, length-take, length-drop}
use Rattle.buffers.specs.Objects.{contents_of, slot_of, len_at, bytes_in_slot}
use Rattle.buffers.specs.declared.Slot.{Slot}
use Rattle.buffers.proofs.Slots.{slot_unknown, contents_none, contents_zero, contents_some}
use Rattle.fetch.specs.Fetch.{Part, bytes, no_buffer, unreadable, in_buffer, in_guest, part_of}
use Rattle.fetch.specs.FetchCode.{part_source}
use Rattle.fetch.specs.declared.Extent.{Extent}
use Rattle.std.specs.Prelude.{Option as Found, Some, None}
use Rattle.fetch.proofs.Parts.{none_slot, slot_short, slot_empty, slot_there, guest_low, guest_short, guest_there}

-- the parts at all addresses, by an extent of a source
pub record Covers (part : ℕ → ℕ → Part) (source : List ℕ) (x : Extent) : Type 0 where
  pub there : (A L : ℕ) → x.low ≤ A → A - x.low + L ≤ x.room → part A L ≡ bytes (take L (drop (x.origin + (A - x.low)) source))
  pub under : (A L : ℕ) → A < x.low → part A L ≡ unreadable
  pub short : (A L : ℕ) → x.low ≤ A → x.room < A - x.low + L → part A L ≡ unreadable
  pub within : x.origin + x.room ≤ length source
  pub near : x.origin < 65536

-- the same by an extent that may be absent
abbrev pub Extends : (ℕ → ℕ → Part) → List ℕ → Found Extent → Type 0
Extends part source (Some x) = Covers part source x
Extends part source None = (A L : ℕ) → part A L ≡ no_buffer

-- an absent buffer holds no bytes
no_some : {A : Type 0} {l : List ℕ} → none ≡ some l → A
no_some {l} e = let u : ◌≡◌ {A = ℕ} 0 1 = ap count e in absurd (omega arith)
  where
    count : Option (List ℕ) → ℕ
    count none = 0
    count (some m) = 1

abbrev bytes_of : Option (List ℕ) → List ℕ
bytes_of none = []
bytes_of (some l) = l

module _ (slots : List Slot) (store guest : List ℕ) (base buffer : ℕ) where
  abbrev contents : Option (List ℕ)
  contents = contents_of slots store buffer

  -- the extent by what the buffer holds
  abbrev pub IsExtent : Found Extent → Type 0
  IsExtent r =
      (buffer ≡ 0 → r ≡ Some (record { low = base; origin = 0; room = length guest }))
      × (0 < buffer → contents ≡ none → r ≡ None)
      × ((held : List ℕ) → contents ≡ some held
      → r ≡ Some (record { low = 0; origin = cond (eqb (length held) 0) 0 (4096 * slot_of slots buffer); room = length held }))

  pub extent_guest : buffer ≡ 0 → IsExtent (Some (record { low = base; origin = 0; room = length guest }))
  extent_guest z = (λ _. refl, λ p _. absurd (omega arith), λ held e. no_some (sym (contents_zero slots store buffer z) ∙ e))

  module _ (z : buffer ≡ 0 → ⊥) (k : ℕ) (e : k ≡ slot_of slots buffer) where
    pub extent_absent : 16 ≤ k → IsExtent None
    extent_absent h = (λ q. absurd (z q), λ _ _. refl, λ held f. no_some (sym (contents_none slots store buffer (slot_unknown slots buffer (omega arith))) ∙ f))

    pub extent_slot : k < 16 → (room : ℕ) → room ≡ min (len_at slots k) (length store - 4096 * k) → (origin : ℕ) → origin ≡ cond (eqb room 0) 0 (4096 * k)
        → IsExtent (Some (record { low = 0; origin = origin; room = room }))
    extent_slot h room size origin o = (λ q. absurd (z q), λ _ f. no_some (sym f ∙ live), λ held f. is held (ap bytes_of (sym live ∙ f)))
      where
        live : contents ≡ some (bytes_in_slot slots store k)
        live = contents_some slots store buffer (omega (arith, z)) (omega arith) ∙ ap (λ (j : ℕ). some (bytes_in_slot slots store j)) (sym e)

        is : (held : List ℕ) → bytes_in_slot slots store k ≡ held
            → ◌≡◌ {A = Found Extent} (Some (record { low = 0; origin = origin; room = room }))
            (Some (record { low = 0; origin = cond (eqb (length held) 0) 0 (4096 * slot_of slots buffer); room = length held }))
        is held f =
            let long : room ≡ length held = size ∙ sym (simp (length-take, length-drop)) ∙ ap length f in
            λ i. Some (record { low = 0; origin = (o ∙ (λ j. cond (eqb (long j) 0) 0 (4096 * e j))) i; room = long i })

  -- ---- which parts it covers

  abbrev within : ℕ → ℕ → Part
  within = in_buffer contents

  abbrev Covered : Found Extent → Type 0
  Covered r = Extends (part_of (contents_of slots store) base guest buffer) (part_source buffer store guest) r

  -- with buffer 0 the parts are the guest's, else the buffer's
  picked : (b : Bool) → eqb buffer 0 ≡ b → (r : Found Extent) → Extends (λ A L. cond b (in_guest base guest A L) (within A L)) (cond b guest store) r → Covered r
  unfolding part_of
  picked b e r = subst (λ (t : Bool). Extends (λ A L. cond t (in_guest base guest A L) (within A L)) (cond t guest store) r) (sym e)

  guest_covers : buffer ≡ 0 → Covered (Some (record { low = base; origin = 0; room = length guest }))
  guest_covers z =
      picked true (eq-eqb buffer 0 z) (Some (record { low = base; origin = 0; room = length guest }))
      (record {
        there = λ A L h m. (guest_there base guest A L h m).1 ∙ ap (λ (k : ℕ). bytes (take L (drop k guest))) (sym (zero-add (A - base)));
        under = λ A L h. guest_low base guest A L h;
        short = λ A L h m. guest_short base guest A L h m;
        within = omega arith;
        near = omega arith;
      })

  module _ (z : buffer ≡ 0 → ⊥) (k : ℕ) (e : k ≡ slot_of slots buffer) where
    absent_covers : 16 ≤ k → Covered None
    absent_covers h = picked false (ne_eqb buffer 0 z) None (λ A L. none_slot slots store buffer A L k e h)

    module _ (h : k < 16) (room : ℕ) (size : room ≡ min (len_at slots k) (length store - 4096 * k)) where
      -- a buffer's addresses start at 0
      slot_part : (A L : ℕ) → A - 0 + L ≤ room → within A L ≡ bytes (take L (drop (4096 * k + (A - 0)) store))
      slot_part A L m = rw sub-zero (go (eqb L 0) refl)
        where
          go : (b : Bool) → eqb L 0 ≡ b → within A L ≡ bytes (take L (drop (4096 * k + A) store))
          go true e0 = let l : L ≡ 0 = eqb-true L 0 e0 in (slot_empty slots store buffer A L z k e h room size (omega arith) l).1 ∙ rw l
          go false e0 = (slot_there slots store buffer A L z k e h room size (omega arith) (eqb-false L 0 e0)).1

      none_part : (A L : ℕ) → room ≡ 0 → A - 0 + L ≤ room → within A L ≡ bytes (take L (drop (0 + (A - 0)) store))
      none_part A L q m = let l : L ≡ 0 = omega arith in (slot_empty slots store buffer A L z k e h room size (omega arith) l).1 ∙ rw l

      short_part : (A L : ℕ) → room < A - 0 + L → within A L ≡ unreadable
      short_part A L m = slot_short slots store buffer A L z k e h room size (omega arith)

      empty_covers : room ≡ 0 → Covered (Some (record { low = 0; origin = 0; room = room }))
      empty_covers q =
          picked false (ne_eqb buffer 0 z) (Some (record { low = 0; origin = 0; room = room }))
          (record {
            there = λ A L _ m. none_part A L q m;
            under = λ A L u. absurd (omega arith);
            short = λ A L _ m. short_part A L m;
            within = omega arith;
            near = omega arith;
          })

      slot_covers : (room ≡ 0 → ⊥) → Covered (Some (record { low = 0; origin = 4096 * k; room = room }))
      slot_covers q =
          picked false (ne_eqb buffer 0 z) (Some (record { low = 0; origin = 4096 * k; room = room }))
          (record {
            there = λ A L _ m. slot_part A L m;
            under = λ A L u. absurd (omega arith);
            short = λ A L _ m. short_part A L m;
            within = omega (arith, size, q);
            near = omega arith;
          })

  -- a live buffer, with bytes or without
  live_covers : (z : buffer ≡ 0 → ⊥) → slot_of slots buffer < 16 → (held : List ℕ) → held ≡ bytes_in_slot slots store (slot_of slots buffer)
      → Covered (Some (record { low = 0; origin = cond (eqb (length held) 0) 0 (4096 * slot_of slots buffer); room = length held }))
  live_covers z h held e = go (eqb (length held) 0) refl
    where
      size : length held ≡ min (len_at slots (slot_of slots buffer)) (length store - 4096 * slot_of slots buffer)
      size = ap length e ∙ simp (length-take, length-drop)

      go : (b : Bool) → eqb (length held) 0 ≡ b → Covered (Some (record { low = 0; origin = cond b 0 (4096 * slot_of slots buffer); room = length held }))
      go true q = empty_covers z (slot_of slots buffer) refl h (length held) size (eqb-true _ _ q)
      go false q = slot_covers z (slot_of slots buffer) refl h (length held) size (eqb-false _ _ q)

  pub covers : (r : Found Extent) → IsExtent r → Covered r
  covers r f = go (eqb buffer 0) refl (ltb (slot_of slots buffer) 16) refl
    where
      go : (b : Bool) → eqb buffer 0 ≡ b → (t : Bool) → ltb (slot_of slots buffer) 16 ≡ t → Covered r
      go true e t u = let z = eqb-true _ _ e in subst Covered (sym (f.0 z)) (guest_covers z)
      go false e true u =
          let z = eqb-false _ _ e in let h = ltb-true _ _ u in
          subst Covered (sym (f.2 _ (contents_some slots store buffer (omega (arith, z)) h))) (live_covers z h _ refl)
      go false e false u =
          let z = eqb-false _ _ e in let h = ltb-false _ _ u in
          subst Covered (sym (f.1 (omega (arith, z)) (contents_none slots store buffer (slot_unknown slots buffer h)))) (absent_covers z (slot_of slots buffer) refl h)
