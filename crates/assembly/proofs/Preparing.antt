-- An array prepared from its extent finds each element. Assumes nothing.
use mathlib.Core.Bool.{Bool, true, false, cond}
use mathlib.Core.List.{List}
use mathlib.Core.Option.{Option}
use mathlib.Core.Path.{◌≡◌, refl, sym, ap, ◌∙◌}
use Prim.Native.Nat.{ℕ, ◌+◌, ◌-◌, ◌*◌, ◌<◌, ◌≤◌, min}
use native.Mathlib.Omega.{arith}
use borrow.Author.Tests.{lt-ltb, ltb-true, ltb-false}
use lib.Dec.{eqb, ltb}
use Rattle.fetch.specs.Decode.{component_bytes}
use Rattle.fetch.specs.Fetch.{Fetched, Part, Address, no_buffer, unreadable, last_address, element_bytes, stride_of, address_of, part_of, decoded, fetched_at, fetched}
use Rattle.fetch.specs.FetchCode.{part_source}
use Rattle.fetch.specs.declared.ArrayPointer.{ArrayPointer}
use Rattle.fetch.specs.declared.Extent.{Extent}
use Rattle.fetch.specs.declared.FetchFailure.{FetchFailure}
use Rattle.assembly.specs.ElementsCode.{missing_at, location_at, location_of, Locates, Prepares}
use Rattle.assembly.specs.declared.Prepared.{Prepared}
use Rattle.std.specs.Prelude.{Result, Some, None, Ok, Err}
use Rattle.fetch.proofs.Extents.{Covers}
use Rattle.assembly.proofs.Addresses.{no_type, long, far, past, there}

module _ (contents : ℕ → Option (List ℕ)) (base : ℕ) (store guest : List ℕ) (a : ArrayPointer) where
  abbrev part : ℕ → ℕ → Part
  part = part_of contents base guest a.buffer

  abbrev source : List ℕ
  source = part_source a.buffer store guest

  abbrev fetches : ℕ → Bool → Fetched
  fetches index = fetched contents base guest a index

  -- of an address
  from_address : (index : ℕ) (x : Address) → address_of a index ≡ x → (n : Bool) → fetches index n ≡ fetched_at contents base guest a n x
  unfolding fetched
  from_address index x e n = ap (fetched_at contents base guest a n) e

  -- an array without an element: `low` above `last`
  abbrev without : FetchFailure → ℕ → Prepared
  without failure stride = record { array = a; failure = Some failure; len = 0; stride = stride; low = 1; last = 0; origin = 0 }

  never_at : (cause : FetchFailure) (A : ℕ) → ◌≡◌ {A = Result ℕ FetchFailure} (cond (ltb A 1) (Err cause) (cond (ltb 0 A) (Err cause) (Ok (0 + (A - 1))))) (Err cause)
  never_at cause A = go (ltb A 1) refl
    where
      go : (b : Bool) → ltb A 1 ≡ b → ◌≡◌ {A = Result ℕ FetchFailure} (cond b (Err cause) (cond (ltb 0 A) (Err cause) (Ok (0 + (A - 1))))) (Err cause)
      go true e = refl
      go false e = rw (lt-ltb 0 A (omega (arith, ltb-false A 1 e)))

  never : (failure : FetchFailure) (stride index : ℕ) → location_of (without failure stride) index ≡ Err (missing_at (Some failure) (a.pointer + stride * index))
  unfolding location_of
  never failure stride index = never_at (missing_at (Some failure) (a.pointer + stride * index)) (a.pointer + stride * index)

  module _ (width : ℕ) (w : width ≡ component_bytes a.ty) where
    pub of_no_type : width ≡ 0 → (stride : ℕ) → Prepares contents base store guest a (without FetchFailure.UnknownType stride)
    of_no_type z stride =
        record {
          array = refl;
          element = λ index. rw (never FetchFailure.UnknownType stride index) (from_address index _ (no_type a index width w z));
        }

    module _ (z : width ≡ 0 → ⊥) where
      pub of_long : last_address < width * a.size → (stride : ℕ) → Prepares contents base store guest a (without FetchFailure.Overflow stride)
      of_long h stride =
          record {
            array = refl;
            element = λ index. rw (never FetchFailure.Overflow stride index) (from_address index _ (long a index width w z h));
          }

      module _ (len : ℕ) (l : len ≡ width * a.size) (h : len ≤ last_address) where
        abbrev step : ℕ
        step = stride_of a

        step_is : step ≡ cond (eqb a.stride 0) (width * a.size) a.stride
        step_is = rw w

        element_length : len ≡ element_bytes a
        element_length = l ∙ ap (λ (k : ℕ). k * a.size) w

        module _ (index : ℕ) where
          abbrev A : ℕ
          A = a.pointer + step * index

          overflows : last_address < A → (n : Bool) → fetches index n ≡ Err FetchFailure.Overflow
          overflows q = go (ltb last_address (step * index)) refl
            where
              go : (b : Bool) → ltb last_address (step * index) ≡ b → (n : Bool) → fetches index n ≡ Err FetchFailure.Overflow
              go true e = from_address index _ (far a index width w z (rw l at h) step step_is (ltb-true _ _ e))
              go false e = from_address index _ (past a index width w z (rw l at h) step step_is (ltb-false _ _ e) q)

          reaches : A ≤ last_address → (n : Bool) → fetches index n ≡ decoded a n (part A len)
          reaches q n =
              from_address index _ (there a index width w z (rw l at h) step step_is (omega arith) q) n
              ∙ ap (λ (k : ℕ). decoded a n (part A k)) (sym l)

          -- past the last address, or not
          missing_is : (other : FetchFailure) → (A ≤ last_address → (n : Bool) → fetches index n ≡ Err other)
              → (n : Bool) → fetches index n ≡ Err (cond (ltb last_address A) FetchFailure.Overflow other)
          missing_is other f = go (ltb last_address A) refl
            where
              go : (b : Bool) → ltb last_address A ≡ b → (n : Bool) → fetches index n ≡ Err (cond b FetchFailure.Overflow other)
              go true e = overflows (ltb-true _ _ e)
              go false e = f (ltb-false _ _ e)

          no_part : part A len ≡ no_buffer → A ≤ last_address → (n : Bool) → fetches index n ≡ Err FetchFailure.NoBuffer
          no_part e q n = reaches q n ∙ ap (decoded a n) e

          bad_part : part A len ≡ unreadable → A ≤ last_address → (n : Bool) → fetches index n ≡ Err FetchFailure.Unreadable
          bad_part e q n = reaches q n ∙ ap (decoded a n) e

        pub of_absent : ((A L : ℕ) → part A L ≡ no_buffer) → Prepares contents base store guest a (without FetchFailure.NoBuffer step)
        of_absent u =
            record {
              array = refl;
              element = λ index. rw (never FetchFailure.NoBuffer step index) (missing_is index FetchFailure.NoBuffer (no_part index (u (A index) len)));
            }

        module _ (x : Extent) (c : Covers part source x) where
          -- below the extent, or beyond it
          outside : (index : ℕ) → (x.low ≤ A index → x.room < A index - x.low + len) → part (A index) len ≡ unreadable
          outside index f = go (ltb (A index) x.low) refl
            where
              go : (b : Bool) → ltb (A index) x.low ≡ b → part (A index) len ≡ unreadable
              go true e = c.under (A index) len (ltb-true _ _ e)
              go false e = c.short (A index) len (ltb-false _ _ e) (f (ltb-false _ _ e))

          pub of_short : x.room < len → Prepares contents base store guest a (without FetchFailure.Unreadable step)
          of_short r =
              record {
                array = refl;
                element = λ index.
                    rw (never FetchFailure.Unreadable step index)
                    (missing_is index FetchFailure.Unreadable (bad_part index (outside index (λ _. omega arith))));
              }

          module _ (r : len ≤ x.room) (last : ℕ) (m : last ≡ min (x.low + (x.room - len)) last_address) where
            abbrev whole : Prepared
            whole = record { array = a; failure = None; len = len; stride = step; low = x.low; last = last; origin = x.origin }

            found : (index : ℕ) → Locates (fetches index) a source len (location_at whole (A index))
            found index = go (ltb (A index) x.low) refl (ltb last (A index)) refl
              where
                go : (b : Bool) → ltb (A index) x.low ≡ b → (t : Bool) → ltb last (A index) ≡ t
                    → Locates (fetches index) a source len (cond b (Err (missing_at None (A index)))
                    (cond t (Err (missing_at None (A index))) (Ok (x.origin + (A index - x.low)))))
                go true e t f = missing_is index FetchFailure.Unreadable (bad_part index (c.under (A index) len (ltb-true _ _ e)))
                go false e true f =
                    missing_is index FetchFailure.Unreadable
                    (λ q. bad_part index (c.short (A index) len (ltb-false _ _ e) (omega (arith, q, m, r, ltb-true last (A index) f, ltb-false (A index) x.low e))) q)
                go false e false f =
                    let near : A index - x.low + len ≤ x.room = omega (arith, m, r, ltb-false last (A index) f, ltb-false (A index) x.low e) in
                    let reach : A index ≤ last_address = omega (arith, m, ltb-false last (A index) f) in (
                      omega (arith, c.within, near),
                      element_length,
                      omega (arith, w, z),
                      λ n. reaches index reach n ∙ ap (decoded a n) (c.there (A index) len (ltb-false _ _ e) near),
                    )

            pub of_whole : Prepares contents base store guest a whole
            unfolding location_of
            of_whole = record { array = refl; element = found }
